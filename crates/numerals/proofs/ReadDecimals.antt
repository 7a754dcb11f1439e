-- Reading the digits of a number back.
use Prim.Native.Nat.{ℕ, zero, suc, ◌+◌, ◌-◌, ◌*◌, ◌/◌, ◌%◌, ◌^◌, ◌<◌}
use native.Mathlib.Omega.{arith}
use mathlib.Core.Bool.{Bool, true, false}
use mathlib.Core.List.{List, [], ◌∷◌, ◌++◌}
use mathlib.Core.Path.{◌≡◌, refl}
use borrow.Author.Tests.{ltb-true, ltb-false}
use lib.Dec.{ltb}
use Rattle.numerals.specs.Numerals.{digit, decimal_in, number_from}
use Rattle.numerals.specs.Statements.{DecimalsRead}
use Rattle.numerals.proofs.Decimals.{one_digit, more_digits, tenth}

-- one digit more
number_more : (so_far : ℕ) (digits : List ℕ) (last : ℕ) → number_from so_far (digits ++ last ∷ []) ≡ number_from so_far digits * 10 + (last - 0x30)
unfolding number_from
number_more so_far [] last = refl
number_more so_far (digit ∷ digits) last = number_more (so_far * 10 + (digit - 0x30)) digits last

pub number_back : (digits number : ℕ) → number < 10 ^ digits → number_from 0 (decimal_in digits number) ≡ number
unfolding number_from decimal_in
number_back zero number small = omega arith
number_back (suc digits) number small = by_test (ltb number 10) refl (number_back digits (number / 10) (tenth digits small))
  where
    by_test : (t : Bool) → ltb number 10 ≡ t → number_from 0 (decimal_in digits (number / 10)) ≡ number / 10 → number_from 0 (decimal_in (suc digits) number) ≡ number
    by_test true e back = rw (one_digit digits number (ltb-true number 10 e)) (omega arith)
    by_test false e back =
        rw (more_digits digits number (ltb-false number 10 e), number_more 0 (decimal_in digits (number / 10)) (digit (number % 10)), back) (omega arith)

pub decimals_read : DecimalsRead
decimals_read number small = number_back 20 number small
