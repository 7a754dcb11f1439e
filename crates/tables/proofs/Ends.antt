-- The lines behind a table.
use Prim.Native.Nat.{ℕ, ◌+◌, ◌≤◌}
use native.Mathlib.Omega.{arith}
use mathlib.Core.List.{List, ◌++◌}
use mathlib.Core.Path.{◌≡◌, sym, ap, ◌∙◌}
use borrow.Author.Tests.{ne_eqb}
use lib.ListN.{length, take, length-append}
use lib.Seq.{take_at}
use Rattle.octets.specs.Octets.{overwrite}
use Rattle.captures.proofs.Buffers.{both_put}
use Rattle.numerals.specs.Numerals.{decimal}
use Rattle.numerals.proofs.Decimals.{decimal_short}
use Rattle.tool.specs.Listing.{line_feed}
use Rattle.tables.specs.Ending.{number_line, refused_word, capture_word, refused_line, last_lines}

pub line_size : (word : List ℕ) (number : ℕ) → length (number_line word number) ≡ length word + (length (decimal number) + 1)
line_size word number = omega (arith, length-append (word ++ decimal number) line_feed, length-append word (decimal number))

pub line_short : (word : List ℕ) (number : ℕ) → length (number_line word number) ≤ length word + 21
line_short word number = omega (arith, line_size word number, decimal_short 20 number)

-- bytes put first are the first bytes
pub first_bytes : (room text : List ℕ) {end : ℕ} {lines : List ℕ} → end ≡ length text → lines ≡ overwrite room 0 text → take end lines ≡ text
first_bytes room text {end} e put = ap (take end) put ∙ take_at text _ end (sym e)

module _ (room : List ℕ) (refused capture : ℕ) {end : ℕ} {lines : List ℕ} (ends : end ≡ 0 + length (refused_line refused)) (put : lines ≡ overwrite room 0 (refused_line refused)) where
  pub two_lines :
      {last : ℕ} {after : List ℕ} → 58 ≤ length room → (capture ≡ 0 → ⊥) → last ≡ end + length (number_line capture_word capture)
      → after ≡ overwrite lines end (number_line capture_word capture) → take last after ≡ last_lines refused capture
  two_lines {last} roomy some to more =
      let line = number_line capture_word capture in
      let size : end ≡ length (refused_line refused) = omega (arith, ends) in
      let fit : length (refused_line refused) + length line ≤ length room = omega (arith, line_short refused_word refused, line_short capture_word capture) in
      let both = both_put room (refused_line refused) line fit put size to more in
      first_bytes room (refused_line refused ++ line) both.0 both.1 ∙ rw (ne_eqb capture 0 some)
