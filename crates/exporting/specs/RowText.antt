-- The text of a row by its parts. What stands before the number is the same in each row of a response.
use Rattle.std.specs.Prelude.{ℕ, ◌+◌, ◌*◌, List, Option, Some, None, [], ◌∷◌, ◌++◌, ◌≡◌, length}
use Rattle.std.proofs.Math.Option.{get_or}
use Rattle.octets.specs.Octets.{overwrite}
use Rattle.block.specs.Command.{Report}
use Rattle.block.specs.Response.{reports_from}
use Rattle.block.specs.declared.response.NextReport.{NextReport}
use Rattle.block.specs.declared.response.NextReport.TheVariants as next
use Rattle.numerals.specs.Numerals.{hex_bytes, decimal}
use Rattle.tables.specs.Lines.{line_end}
use Rattle.tables.specs.Fields.{quote, comma}
use Rattle.tables.specs.Rows.{number_of, value_of}
use Rattle.exporting.specs.declared.rows.NextRow.{NextRow}

-- between two fields
abbrev pub field_break : List ℕ
field_break = quote ∷ comma ∷ quote ∷ []

-- before the ID; before the counter, with the direction; before the number; before the value; behind it
abbrev pub before_id : List ℕ
before_id = quote ∷ 0x78 ∷ []

abbrev pub before_counter : List ℕ
before_counter = field_break ++ 0x31 ∷ field_break

abbrev pub before_number : List ℕ
before_number = field_break ++ 0x30 ∷ 0x78 ∷ []

abbrev pub before_value : List ℕ
before_value = field_break ++ 0x78 ∷ []

abbrev pub row_end : List ℕ
row_end = quote ∷ line_end

-- what stands before the number in a row of a response
abbrev pub row_start : List ℕ → ℕ → List ℕ
row_start id counter = before_id ++ (hex_bytes id ++ (before_counter ++ (decimal counter ++ before_number)))

-- the number of a row, and what stands before its value
abbrev pub row_number : List ℕ → List ℕ
row_number number = hex_bytes number ++ before_value

-- a row behind its start
abbrev pub row_text : List ℕ → List ℕ → List ℕ → List ℕ
row_text start number value = start ++ row_number number ++ (hex_bytes value ++ row_end)

unfoldable pub row_texts : List ℕ → List Report → List ℕ
row_texts start [] = []
row_texts start (r ∷ rs) = row_text start (number_of r) (value_of r) ++ row_texts start rs

-- the rows of what is left of a well-formed block, with this page in force
abbrev pub left_text : List ℕ → ℕ → List ℕ → List ℕ
left_text start page left = row_texts start (get_or (reports_from page left) [])

abbrev pub next_as : ℕ → ℕ → ℕ → ℕ → NextRow
next_as page low value rest = record { page = page; low = low; value = value; rest = rest }

-- the next report: an unknown parameter has no value
abbrev pub next_row : NextReport → Option NextRow
next_row (next.Held page low value rest) = Some (next_as page low value rest)
next_row (next.Unknown page low rest) = Some (next_as page low rest rest)
next_row next.End = None
next_row next.Malformed = None

-- the size of a row, by the sizes of its start and its value
abbrev pub row_size : ℕ → ℕ → ℕ
row_size start value = start + 11 + 2 * value

-- bytes put into a text that has room for them: where they end, and what the text holds
pub record Puts (text : List ℕ) (at : ℕ) (bytes : List ℕ) (end : ℕ) (after : List ℕ) : Type 0 where
  pub ends : end ≡ at + length bytes
  pub held : after ≡ overwrite text at bytes
