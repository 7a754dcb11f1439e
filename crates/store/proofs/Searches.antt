-- What the searches for a neighbour find: the least number above, the greatest below.
use Prim.Native.Nat.{ℕ, zero, suc, ◌+◌, ◌-◌, ◌%◌, ◌≤◌, ◌<◌}
use native.Mathlib.Omega.{arith}
use mathlib.Core.Bool.{Bool, true, false, cond, ◌&&◌}
use mathlib.Core.Logic.{⊎_elim}
use Rattle.std.specs.Prelude.{None, Some}
use mathlib.Core.Path.{◌≡◌, refl, sym, ap, ◌∙◌}
use borrow.Author.Tests.{eqb-true, leb-true, lt-ltb, le-ltb}
use lib.Dec.{eqb, leb}
use Rattle.octets.specs.Octets.{between}
use Rattle.rows.specs.declared.Range.{Range}
use Rattle.rows.specs.Sets.{in_range, greatest, least_above, greatest_below, first_after, first_before}
use Rattle.store.specs.Laws.{Least, Greatest}
use Rattle.octets.proofs.Booleans.{both_true}
use Rattle.rows.proofs.Bools.{either, not_both, no_value}
use Rattle.rows.proofs.Tables.{in_or_past}

-- no number of a range exceeds its greatest
pub range_most : (r : Range) (x : ℕ) → in_range r x ≡ true → x ≤ greatest r
range_most r x e =
    let steps = eqb ((x - r.low) % r.step) 0 in
    ⊎_elim
    (λ h. bound (omega (arith, eqb-true x r.extra h)))
    (λ h. high (leb-true x r.high (both_true (leb r.low x) (leb x r.high) (both_true (between r.low r.high x) steps h).0).1))
    (either (eqb x r.extra) (between r.low r.high x && steps) e)
  where
    bound : x ≤ r.extra → x ≤ greatest r
    bound h = ⊎_elim (λ k. rw (lt-ltb r.high r.extra k) h) (λ k. rw (le-ltb r.high r.extra k) (omega arith)) (in_or_past r.high r.extra)

    high : x ≤ r.high → x ≤ greatest r
    high h = ⊎_elim (λ k. rw (lt-ltb r.high r.extra k) (omega arith)) (λ k. rw (le-ltb r.high r.extra k) h) (in_or_past r.high r.extra)

module _ (r : Range) where
  -- upwards, a number at a time
  passed : (x z : ℕ) → in_range r (suc x) ≡ false → in_range r z ≡ true → x < z → suc x < z
  passed x z e t k = ⊎_elim (λ p. p) (λ p. absurd (not_both t (ap (in_range r) (same p) ∙ e))) (in_or_past (suc x) z)
    where
      same : z ≤ suc x → z ≡ suc x
      same p = omega arith

  up_turn : (x n y : ℕ) (b : Bool) → in_range r (suc x) ≡ b → (first_after (in_range r) (suc x) n ≡ Some y → Least r (suc x) y)
      → cond b (Some (suc x)) (first_after (in_range r) (suc x) n) ≡ Some y → Least r x y
  up_turn x n y true e rest h =
      let same : suc x ≡ y = cc in
      record { within = ap (in_range r) (sym same) ∙ e; above = omega arith; least = λ z t k. omega arith }
  up_turn x n y false e rest h =
      let found : Least r (suc x) y = rest h in
      record { within = found.within; above = omega (arith, found.above); least = λ z t k. found.least z t (passed x z e t k) }

  up_found : (x n y : ℕ) → first_after (in_range r) x n ≡ Some y → Least r x y
  unfolding first_after
  up_found x zero y h = absurd (no_value y h)
  up_found x (suc n) y h = up_turn x n y (in_range r (suc x)) refl (λ k. up_found (suc x) n y k) h

  up_none_turn : (x n : ℕ) (b : Bool) → in_range r (suc x) ≡ b → (first_after (in_range r) (suc x) n ≡ None → (z : ℕ) → in_range r z ≡ true → suc x < z → suc x + n < z)
      → cond b (Some (suc x)) (first_after (in_range r) (suc x) n) ≡ None → (z : ℕ) → in_range r z ≡ true → x < z → x + suc n < z
  up_none_turn x n true e rest h z t k = absurd (no_value (suc x) (sym h))
  up_none_turn x n false e rest h z t k = omega (arith, rest h z t (passed x z e t k))

  up_none : (x n : ℕ) → first_after (in_range r) x n ≡ None → (z : ℕ) → in_range r z ≡ true → x < z → x + n < z
  unfolding first_after
  up_none x zero h z t k = omega arith
  up_none x (suc n) h z t k = up_none_turn x n (in_range r (suc x)) refl (λ q. up_none (suc x) n q) h z t k

  pub least_above_lem : (x y : ℕ) → least_above r x ≡ Some y → Least r x y
  least_above_lem x y h = up_found x (greatest r - x) y h

  pub none_above : (x : ℕ) → least_above r x ≡ None → (z : ℕ) → in_range r z ≡ true → z ≤ x
  none_above x h z t =
      ⊎_elim (λ k. absurd (omega (arith, up_none x (greatest r - x) h z t k, range_most r z t))) (λ k. k) (in_or_past x z)

  -- downwards
  down_turn : (x y : ℕ) (b : Bool) → in_range r x ≡ b → (first_before (in_range r) x ≡ Some y → Greatest r x y)
      → cond b (Some x) (first_before (in_range r) x) ≡ Some y → Greatest r (suc x) y
  down_turn x y true e rest h =
      let same : x ≡ y = cc in
      record { within = ap (in_range r) (sym same) ∙ e; below = omega arith; greatest = λ z t k. omega arith }
  down_turn x y false e rest h =
      let found : Greatest r x y = rest h in
      record { within = found.within; below = omega (arith, found.below); greatest = λ z t k. found.greatest z t (under z t k) }
    where
      under : (z : ℕ) → in_range r z ≡ true → z < suc x → z < x
      under z t k = ⊎_elim (λ p. p) (λ p. absurd (not_both t (ap (in_range r) (same z k p) ∙ e))) (in_or_past z x)
        where
          same : (w : ℕ) → w < suc x → x ≤ w → w ≡ x
          same w q p = omega arith

  pub greatest_below_lem : (x y : ℕ) → greatest_below r x ≡ Some y → Greatest r x y
  unfolding first_before
  greatest_below_lem zero y h = absurd (no_value y h)
  greatest_below_lem (suc x) y h = down_turn x y (in_range r x) refl (λ k. greatest_below_lem x y k) h

  none_turn : (x : ℕ) (b : Bool) → in_range r x ≡ b → (first_before (in_range r) x ≡ None → (z : ℕ) → in_range r z ≡ true → x ≤ z)
      → cond b (Some x) (first_before (in_range r) x) ≡ None → (z : ℕ) → in_range r z ≡ true → suc x ≤ z
  none_turn x true e rest h z t = absurd (no_value x (sym h))
  none_turn x false e rest h z t =
      ⊎_elim (λ p. p) (λ p. absurd (not_both t (ap (in_range r) (same p) ∙ e))) (in_or_past x z)
    where
      same : z ≤ x → z ≡ x
      same p = omega (arith, rest h z t)

  pub none_below : (x : ℕ) → greatest_below r x ≡ None → (z : ℕ) → in_range r z ≡ true → x ≤ z
  unfolding first_before
  none_below zero h z t = omega arith
  none_below (suc x) h z t = none_turn x (in_range r x) refl (λ q. none_below x q) h z t
