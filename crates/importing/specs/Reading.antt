-- Reading a table line by line: what the code answers.
use Rattle.std.specs.Prelude.{ℕ, ◌+◌, ◌-◌, true, cond, Result, Ok, Err, List, [], ◌∷◌, ltb, eqb, length, drop, get_or}
use Rattle.std.proofs.Math.Option.{Option, none, some}
use Rattle.refusals.specs.declared.Refusal.{Refusal}
use Rattle.refusals.specs.declared.Refusal.TheVariants.{TableHeader}
use Rattle.framing.specs.Refusal.{first_refusal}
use Rattle.block.specs.Reading.{part_of}
use Rattle.tables.specs.Lines.{line_of, line_size, first_line}
use Rattle.tables.specs.Rows.{row_of}
use Rattle.tables.specs.Importing.{number_in, bytes_in, field_at, fields_in, header_refusals, line_refusals, report_of, Imported, end, refused, row}
use Rattle.importing.specs.Forms.{fields_read}
use Rattle.importing.specs.declared.forms.RowFields.{RowFields}
use Rattle.importing.specs.declared.reading.Rest.{Rest}
use Rattle.importing.specs.declared.reading.RefusedLine.{RefusedLine}
use Rattle.importing.specs.declared.reading.NextRow.{NextRow}
use Rattle.importing.specs.declared.reading.NextRow.TheVariants as next

-- the largest number that a line has
abbrev pub line_limit : ℕ
line_limit = 18446744073709551615

-- the number of the line after it
abbrev pub line_after : ℕ → ℕ
line_after line = cond (ltb line line_limit) (line + 1) line

-- what is left after the first line and its CR LF
abbrev pub rest_size : List ℕ → ℕ
rest_size text = length text - (line_size text + 2)

-- 60 where there is no line
abbrev pub header_refusal : List ℕ → Option Refusal
header_refusal text = cond (eqb (length text) 0) (some TableHeader) (first_refusal header_refusals (first_line text))

abbrev pub refused_line : Refusal → ℕ → RefusedLine
refused_line refusal line = record { refusal = refusal; line = line }

-- the answer of `open`: the header is line 1
abbrev pub opened_as : Option Refusal → List ℕ → Result Rest RefusedLine
opened_as none text = Ok (record { rest = rest_size text; line = 2 })
opened_as (some refusal) text = Err (refused_line refusal 1)

abbrev pub opened_of : List ℕ → Result Rest RefusedLine
opened_of text = opened_as (header_refusal text) text

-- the fields of a line that ends in CR LF, or its refusal
abbrev pub read_as : Option Refusal → List (List ℕ) → Result RowFields Refusal
read_as none fields = Ok (fields_read fields)
read_as (some refusal) fields = Err refusal

abbrev pub row_read : List ℕ → Result RowFields Refusal
row_read line = read_as (first_refusal line_refusals (line_of line true)) (fields_in (line_of line true))

-- the answer of `next_row`, by the fields of the line: in front of the digits of the board stand a quote and an x, behind those of the
-- value a quote
abbrev pub row_at : List (List ℕ) → List ℕ → ℕ → NextRow
row_at fields text line =
    next.Row (length text - 2) (number_in (field_at 2 fields)) (get_or (bytes_in (drop 2 (field_at 3 fields))) 0 0)
    (get_or (bytes_in (drop 2 (field_at 3 fields))) 1 0)
    (length text - (line_size text - 1) + (length (field_at 4 fields) - 1))
    (length text - (line_size text - 1)) (rest_size text) (line_after line)

abbrev pub refused_as : Refusal → ℕ → NextRow
refused_as refusal line = next.Refused (refused_line refusal line)

abbrev pub next_as : Option Refusal → List ℕ → ℕ → NextRow
next_as none text line = row_at (fields_in (first_line text)) text line
next_as (some refusal) text line = refused_as refusal line

abbrev pub next_row : List ℕ → ℕ → NextRow
next_row text line = cond (eqb (length text) 0) next.End (next_as (first_refusal line_refusals (first_line text)) text line)

-- what is read from an answer on, given how the rest is read
abbrev pub import_after : (ℕ → List ℕ → Imported) → List ℕ → NextRow → Imported
import_after again text next.End = end
import_after again text (next.Refused r) = refused r.refusal r.line
import_after again text (next.Row board counter page low value value_end rest line) =
    row (row_of (bytes_in (part_of board (board - 32) text)) 1 counter (report_of (page ∷ low ∷ []) (bytes_in (part_of value value_end text))))
    (again line (part_of rest 0 text))

abbrev pub import_opened : (ℕ → List ℕ → Imported) → List ℕ → Result Rest RefusedLine → Imported
import_opened again text (Ok table) = again table.line (part_of table.rest 0 text)
import_opened again text (Err r) = refused r.refusal r.line
