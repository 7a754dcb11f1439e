-- Where a field and a pair's line start.
use Prim.Native.Nat.{ℕ, ◌+◌, ◌≤◌}
use native.Mathlib.Omega.{arith}
use mathlib.Core.List.{List, [], ◌∷◌, ◌++◌}
use lib.ListN.{length-append}
use Rattle.numerals.specs.Numerals.{decimal, Before}
use Rattle.numerals.proofs.Decimals.{decimal_short}

-- where a number with a mark behind it starts
module _ (number mark end : ℕ) (bytes : List ℕ) {start : ℕ} {after : List ℕ} where
  pub field_start : Before (decimal number ++ mark ∷ []) end bytes start after → end ≤ start + 21
  field_start w = omega (arith, simp length-append at w.ends, decimal_short 20 number)
