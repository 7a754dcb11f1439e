-- Reading hexadecimal digits.
use Rattle.std.specs.Prelude.{ℕ, ◌%◌, Bool, cond, ◌&&◌, List, ◌≡◌, eqb, length}
use Rattle.octets.specs.Octets.{overwrite, fits}
use Rattle.tables.specs.Importing.{all_hex, bytes_in}

-- whether pairs of digits are read into a buffer
abbrev pub readable : List ℕ → List ℕ → Bool
readable buffer digits = all_hex digits && eqb (length digits % 2) 0 && fits buffer 0 (bytes_in digits)

-- their bytes put into the first bytes of a lent buffer: all of them, or the buffer stays as it was
pub record ReadsHex (buffer digits : List ℕ) (answer : Bool) (after : List ℕ) : Type 0 where
  pub answered : answer ≡ readable buffer digits
  pub held : after ≡ cond (readable buffer digits) (overwrite buffer 0 (bytes_in digits)) buffer
