-- Laws of decimal digits that are read one by one.
use Prim.Native.Nat.{ℕ, ◌+◌, ◌-◌, ◌*◌, ◌<◌, ◌≤◌}
use native.Mathlib.Numerals.{add-one}
use native.Mathlib.Omega.{arith}
use mathlib.Core.Bool.{true, false, and-false}
use mathlib.Core.List.{List, [], ◌∷◌}
use mathlib.Core.Path.{◌≡◌}
use borrow.Author.Tests.{lt-leb, le-leb}
use lib.ListN.{length, drop, get_or, drop_of_length-le}
use lib.Seq.{drop-cons}
use Rattle.octets.specs.Octets.{between}
use Rattle.numerals.specs.Numerals.{number_from}
use Rattle.tables.specs.Importing.{all_digits, counter_limit}
use Rattle.importing.specs.Forms.{digits_read}
use Rattle.std.specs.Prelude.{Some, None}

-- more digits make no number smaller
at_least : (so_far : ℕ) (digits : List ℕ) → so_far ≤ number_from so_far digits
unfolding number_from
at_least so_far [] = omega arith
at_least so_far (digit ∷ digits) = omega (arith, at_least (so_far * 10 + (digit - 0x30)) digits)

pub too_large : (so_far : ℕ) (digits : List ℕ) → counter_limit < so_far → digits_read so_far digits ≡ None
too_large so_far digits h = rw (lt-leb (number_from so_far digits) counter_limit (omega (arith, at_least so_far digits)), and-false (all_digits digits))

pub all_read : (so_far : ℕ) (digits : List ℕ) (i : ℕ) → length digits ≤ i → so_far ≤ counter_limit → digits_read so_far (drop i digits) ≡ Some so_far
unfolding all_digits number_from
all_read so_far digits i ends h = rw (drop_of_length-le digits ends, le-leb so_far counter_limit h)

module _ (so_far : ℕ) (digits : List ℕ) (i : ℕ) (h : i < length digits) where
  pub next_digit : between 0x30 0x39 (get_or digits i 0) ≡ true → digits_read so_far (drop i digits) ≡ digits_read (so_far * 10 + (get_or digits i 0 - 0x30)) (drop (i + 1) digits)
  unfolding all_digits number_from
  next_digit e = rw (drop-cons digits i 0, add-one, e)

  pub no_digit : between 0x30 0x39 (get_or digits i 0) ≡ false → digits_read so_far (drop i digits) ≡ None
  unfolding all_digits number_from
  no_digit e = rw (drop-cons digits i 0, e)
