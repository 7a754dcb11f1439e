-- The lines that the export program writes behind a table, and that are no part of it.
use Rattle.std.specs.Prelude.{ℕ, ◌≤◌, cond, List, [], ◌∷◌, ◌++◌, ◌≡◌, eqb, length, take}
use Rattle.tool.specs.Listing.{line_feed}
use Rattle.numerals.specs.Numerals.{decimal}
use Rattle.tables.specs.Fields.{comma}
use Rattle.tables.specs.declared.LastLines.{LastLines}

-- a word, a number in decimal and a line feed
abbrev pub number_line : List ℕ → ℕ → List ℕ
number_line word number = word ++ decimal number ++ line_feed

-- refused,
abbrev pub refused_word : List ℕ
refused_word = 0x72 ∷ 0x65 ∷ 0x66 ∷ 0x75 ∷ 0x73 ∷ 0x65 ∷ 0x64 ∷ comma ∷ []

-- capture,
abbrev pub capture_word : List ℕ
capture_word = 0x63 ∷ 0x61 ∷ 0x70 ∷ 0x74 ∷ 0x75 ∷ 0x72 ∷ 0x65 ∷ comma ∷ []

abbrev pub refused_line : ℕ → List ℕ
refused_line count = number_line refused_word count

-- none where the number is 0
abbrev pub capture_line : ℕ → List ℕ
capture_line number = cond (eqb number 0) [] (number_line capture_word number)

-- what stands behind the table
abbrev pub last_lines : ℕ → ℕ → List ℕ
last_lines count number = refused_line count ++ capture_line number

-- two lines at the most, of a word of 8 bytes, 20 digits and the line feed
abbrev pub longest_ending : ℕ
longest_ending = 58

-- lines in the first bytes of a buffer
pub record Holds (lines : List ℕ) (answer : LastLines) : Type 0 where
  pub sized : length answer.bytes ≡ longest_ending
  pub within : answer.size ≤ longest_ending
  pub held : take answer.size answer.bytes ≡ lines
