-- Laws of `sum`.
use Prim.Native.Nat.{ℕ, ◌+◌, ◌<◌}
use native.Mathlib.Numerals.{add-one}
use native.Mathlib.Omega.{arith}
use mathlib.Core.Bool.{Bool, true, false}
use mathlib.Core.List.{List}
use mathlib.Core.Path.{◌≡◌, refl, sym}
use borrow.Author.Tests.{eqb-true, eqb-false, eq-eqb, ne_eqb}
use lib.Dec.{eqb}
use lib.ListN.{length, drop, get_or}
use lib.Seq.{drop-cons}
use Rattle.octets.specs.Octets.{sum}

pub sum_drop : (list : List ℕ) (i : ℕ) → i < length list → sum (drop i list) ≡ get_or list i 0 + sum (drop (i + 1) list)
unfolding sum
sum_drop list i h = rw (drop-cons list i 0, add-one)

-- nothing is left of a total exactly where the lengths add up to it
pub balanced : (left total count : ℕ) → left + total ≡ count + 0 → eqb left 0 ≡ eqb total count
balanced left total count h = by_test (eqb left 0) refl
  where
    by_test : (empty : Bool) → eqb left 0 ≡ empty → empty ≡ eqb total count
    by_test true e = sym (eq-eqb total count (omega (arith, eqb-true left 0 e)))
    by_test false e = sym (ne_eqb total count (λ (same : total ≡ count). eqb-false left 0 e (omega arith)))
