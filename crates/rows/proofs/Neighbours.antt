-- Laws of the searches for a neighbour: a turn of each.
use Prim.Native.Nat.{ℕ, zero, suc, ◌+◌, ◌-◌, ◌≤◌, ◌<◌}
use native.Mathlib.Nat.{not-suc-le-zero}
use native.Mathlib.Numerals.{add-one}
use native.Mathlib.Omega.{arith}
use mathlib.Core.Bool.{Bool, cond}
use Rattle.std.specs.Prelude.{Some, None}
use mathlib.Core.Path.{◌≡◌, refl}
use Rattle.rows.specs.Sets.{first_after, first_before}

-- one turn upwards
pub after_turn : (test : ℕ → Bool) (x most : ℕ) → x < most
    → first_after test x (most - x) ≡ cond (test (x + 1)) (Some (x + 1)) (first_after test (x + 1) (most - (x + 1)))
unfolding first_after
after_turn test x most h =
    let left : most - x ≡ suc (most - (x + 1)) = omega arith in
    rw (left, add-one)

pub after_end : (test : ℕ → Bool) (x most : ℕ) → most ≤ x → first_after test x (most - x) ≡ None
unfolding first_after
after_end test x most h =
    let left : most - x ≡ 0 = omega arith in
    rw left

-- one turn downwards
pub before_turn : (test : ℕ → Bool) (x : ℕ) → 0 < x → first_before test x ≡ cond (test (x - 1)) (Some (x - 1)) (first_before test (x - 1))
unfolding first_before
before_turn test zero h = absurd (not-suc-le-zero h)
before_turn test (suc x) h =
    let less : suc x - 1 ≡ x = omega arith in
    rw less

pub before_end : (test : ℕ → Bool) (x : ℕ) → x ≤ 0 → first_before test x ≡ None
unfolding first_before
before_end test zero h = refl
before_end test (suc x) h = absurd (not-suc-le-zero h)
