-- Bytes in hexadecimal and numbers in decimal, as text.
use Rattle.std.specs.Prelude.{ℕ, zero, suc, ◌+◌, ◌-◌, ◌*◌, ◌/◌, ◌%◌, ◌≤◌, cond, List, [], ◌∷◌, ◌++◌, ◌≡◌, ltb, length, drop}
use Rattle.numerals.specs.declared.Numeral.{Numeral}

-- 0 to 9, then A to F
abbrev pub hex_digit : ℕ → ℕ
hex_digit digit = cond (ltb digit 10) (0x30 + digit) (0x37 + digit)

-- two digits for each byte, in stored order
unfoldable pub hex_bytes : List ℕ → List ℕ
hex_bytes [] = []
hex_bytes (byte ∷ bytes) = hex_digit (byte / 16) ∷ hex_digit (byte % 16) ∷ hex_bytes bytes

abbrev pub digit : ℕ → ℕ
digit n = 0x30 + n

-- a number in decimal, in up to so many digits
unfoldable pub decimal_in : ℕ → ℕ → List ℕ
decimal_in zero number = []
decimal_in (suc digits) number =
    cond (ltb number 10) (digit number ∷ []) (decimal_in digits (number / 10) ++ digit (number % 10) ∷ [])

-- 20 digits hold every number under 2 ^ 64
abbrev pub decimal : ℕ → List ℕ
decimal number = decimal_in 20 number

-- the number of decimal digits, behind those read so far
unfoldable pub number_from : ℕ → List ℕ → ℕ
number_from so_far [] = so_far
number_from so_far (digit ∷ digits) = number_from (so_far * 10 + (digit - 0x30)) digits

-- bytes put before those that stand from `end` on
pub record Before (bytes : List ℕ) (end : ℕ) (before : List ℕ) (start : ℕ) (after : List ℕ) : Type 0 where
  pub ends : start + length bytes ≡ end
  pub stands : drop start after ≡ bytes ++ drop end before

-- digits that end their buffer
pub record Holds (digits : List ℕ) (answer : Numeral) : Type 0 where
  pub sized : length answer.bytes ≡ 20
  pub within : answer.start ≤ 20
  pub held : drop answer.start answer.bytes ≡ digits
