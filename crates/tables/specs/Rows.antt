-- The rows of a table, and their text.
use Rattle.std.specs.Prelude.{ℕ, List, [], ◌∷◌, ◌++◌}
use Rattle.block.specs.Command.{Report, held, unknown}
use Rattle.numerals.specs.Numerals.{hex_bytes, decimal}
use Rattle.tables.specs.Lines.{line_end}
use Rattle.tables.specs.Fields.{quoted}

-- a report of a board, with the direction and the counter of its response
pub record Row : Type 0 where
  pub board : List ℕ
  pub direction : ℕ
  pub counter : ℕ
  pub report : Report

abbrev pub row_of : List ℕ → ℕ → ℕ → Report → Row
row_of board direction counter report = record { board = board; direction = direction; counter = counter; report = report }

-- page and low byte of its parameter
abbrev pub number_of : Report → List ℕ
number_of (held page low value) = page ∷ low ∷ []
number_of (unknown page low) = page ∷ low ∷ []

-- no byte for an unknown parameter
abbrev pub value_of : Report → List ℕ
value_of (held page low value) = value
value_of (unknown page low) = []

-- x and two digits for each byte
abbrev pub hex_field : List ℕ → List ℕ
hex_field bytes = 0x78 ∷ hex_bytes bytes

-- 0x and four digits
abbrev pub number_field : List ℕ → List ℕ
number_field number = 0x30 ∷ hex_field number

abbrev pub row_fields : Row → List (List ℕ)
row_fields r =
    hex_field r.board
    ∷ decimal r.direction
    ∷ decimal r.counter
    ∷ number_field (number_of r.report)
    ∷ hex_field (value_of r.report)
    ∷ []

-- board, direction, counter, number, value
abbrev pub header_fields : List (List ℕ)
header_fields =
    (0x62 ∷ 0x6F ∷ 0x61 ∷ 0x72 ∷ 0x64 ∷ [])
    ∷ (0x64 ∷ 0x69 ∷ 0x72 ∷ 0x65 ∷ 0x63 ∷ 0x74 ∷ 0x69 ∷ 0x6F ∷ 0x6E ∷ [])
    ∷ (0x63 ∷ 0x6F ∷ 0x75 ∷ 0x6E ∷ 0x74 ∷ 0x65 ∷ 0x72 ∷ [])
    ∷ (0x6E ∷ 0x75 ∷ 0x6D ∷ 0x62 ∷ 0x65 ∷ 0x72 ∷ [])
    ∷ (0x76 ∷ 0x61 ∷ 0x6C ∷ 0x75 ∷ 0x65 ∷ [])
    ∷ []

abbrev pub header_line : List ℕ
header_line = quoted header_fields ++ line_end

abbrev pub row_line : Row → List ℕ
row_line r = quoted (row_fields r) ++ line_end

unfoldable pub row_lines : List Row → List ℕ
row_lines [] = []
row_lines (r ∷ rs) = row_line r ++ row_lines rs

-- the table of rows
abbrev pub table_of : List Row → List ℕ
table_of rows = header_line ++ row_lines rows
