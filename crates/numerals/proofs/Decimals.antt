-- Laws of numbers in decimal, and of bytes put before others.
use Prim.Native.Nat.{ℕ, zero, suc, ◌+◌, ◌-◌, ◌*◌, ◌/◌, ◌%◌, ◌^◌, ◌<◌, ◌≤◌}
use native.Mathlib.Nat.{pow-suc, div-lt_iff_lt-mul}
use native.Mathlib.Omega.{arith}
use mathlib.Core.List.{List, [], ◌∷◌, ◌++◌, append_assoc}
use mathlib.Core.Bool.{Bool, true, false, cond}
use mathlib.Core.Path.{◌≡◌, refl, sym, ap, ◌∙◌}
use borrow.Author.Tests.{lt-ltb, le-ltb}
use lib.Dec.{ltb}
use lib.ListN.{length, drop, set, length-append, length-drop, length-set}
use Rattle.numerals.specs.Numerals.{digit, decimal_in, decimal, Before}

pub one_digit : (digits number : ℕ) → number < 10 → decimal_in (suc digits) number ≡ digit number ∷ []
unfolding decimal_in
one_digit digits number h = rw (lt-ltb number 10 h)

pub more_digits : (digits number : ℕ) → 10 ≤ number → decimal_in (suc digits) number ≡ decimal_in digits (number / 10) ++ digit (number % 10) ∷ []
unfolding decimal_in
more_digits digits number h = rw (le-ltb number 10 h)

pub drop_set : (l : List ℕ) (at value : ℕ) → at < length l → drop at (set l at value) ≡ value ∷ drop (suc at) l
drop_set [] at value h = absurd (omega arith)
drop_set (x ∷ xs) zero value h = refl
drop_set (x ∷ xs) (suc at) value h = drop_set xs at value (omega arith)

pub tenth : (digits : ℕ) {number : ℕ} → number < 10 ^ suc digits → number / 10 < 10 ^ digits
tenth digits {number} h =
    let less : number < 10 ^ digits * 10 = rw pow-suc at h in
    (div-lt_iff_lt-mul {k = 10} (omega arith)).1 less

-- two digits at the least
several : (left : ℕ) {rest : ℕ} → rest < 10 ^ suc left → 9 < rest → 1 ≤ left
several zero small h = absurd (omega arith)
several (suc left) small h = omega arith

-- the digits of `rest` are still to be put before those that stand after `at`, in `left` bytes and the one at `at`
pub record Digits (number end : ℕ) (before : List ℕ) (rest at : ℕ) (now : List ℕ) : Type 0 where
  pub left : ℕ
  pub small : rest < 10 ^ suc left
  pub placed : at + 20 ≡ end + left
  pub within : at < end
  pub as_many : length now ≡ length before
  pub stands : decimal_in (suc left) rest ++ drop (suc at) now ≡ decimal number ++ drop end before

module _ (number end : ℕ) (before : List ℕ) (rest at : ℕ) (now : List ℕ) (inside : 20 ≤ end) (fits : end ≤ length before) where
  next_by :
      (left : ℕ) → rest < 10 ^ suc left → at + 20 ≡ end + left → at < end → length now ≡ length before
      → decimal_in (suc left) rest ++ drop (suc at) now ≡ decimal number ++ drop end before → 9 < rest
      → Digits number end before (rest / 10) (at - 1) (set now at (digit (rest % 10)))
  next_by zero small placed within as_many stands h = absurd (omega arith)
  next_by (suc left) small placed within as_many stands h =
      let here : suc (at - 1) ≡ at = omega arith in
      record {
        left = left;
        small = tenth (suc left) small;
        placed = omega arith;
        within = omega arith;
        as_many = length-set now at (digit (rest % 10)) ∙ as_many;
        stands =
            rw (here, drop_set now at (digit (rest % 10)) (omega arith))
            (sym (append_assoc (decimal_in (suc left) (rest / 10)) (digit (rest % 10) ∷ []) (drop (suc at) now))
            ∙ ap (λ (l : List ℕ). l ++ drop (suc at) now) (sym (more_digits (suc left) rest (omega arith)))
            ∙ stands);
      }

  module _ (so_far : Digits number end before rest at now) where
    pub next_digit : 9 < rest → Digits number end before (rest / 10) (at - 1) (set now at (digit (rest % 10)))
    next_digit = next_by so_far.left so_far.small so_far.placed so_far.within so_far.as_many so_far.stands

    pub last_digit : rest ≤ 9 → Before (decimal number) end before at (set now at (digit rest))
    last_digit h =
        let stood : drop at (set now at (digit rest)) ≡ decimal number ++ drop end before =
        drop_set now at (digit rest) (omega (arith, so_far.as_many, so_far.within))
        ∙ ap (λ (l : List ℕ). l ++ drop (suc at) now) (sym (one_digit so_far.left rest (omega arith))) ∙ so_far.stands in
        let sizes = simp (length-append, length-drop, length-set) at (ap length stood) in
        record { ends = omega (arith, so_far.as_many, so_far.within); stands = stood }

-- one digit more, where it is not the only one
longer_by :
    (t : Bool) (room most number : ℕ) → length (decimal_in room (number / 10)) ≤ most
    → length (cond t (digit number ∷ []) (decimal_in room (number / 10) ++ digit (number % 10) ∷ [])) ≤ suc most
longer_by true room most number h = omega arith
longer_by false room most number h = simp length-append (omega arith)

-- a number has up to as many digits as it may
pub decimal_short : (digits number : ℕ) → length (decimal_in digits number) ≤ digits
unfolding decimal_in
decimal_short zero number = omega arith
decimal_short (suc digits) number = longer_by (ltb number 10) digits digits number (decimal_short digits (number / 10))

-- and up to as many as its size asks for
pub few_digits : (room digits number : ℕ) → number < 10 ^ suc digits → length (decimal_in room number) ≤ suc digits
unfolding decimal_in
few_digits zero digits number small = omega arith
few_digits (suc room) zero number small = omega (arith, ap length (one_digit room number (omega arith)))
few_digits (suc room) (suc digits) number small =
    longer_by (ltb number 10) room (suc digits) number (few_digits room digits (number / 10) (tenth (suc digits) small))
