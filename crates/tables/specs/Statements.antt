-- What holds of tables, beside the contracts of the code that writes and reads them.
use Rattle.std.specs.Prelude.{ℕ, ◌+◌, ◌*◌, ◌<◌, ◌≤◌, true, false, List, [], ◌∷◌, ◌++◌, map, ◌≡◌, length, take, drop}
use Rattle.std.proofs.Math.Option.{none, some}
use Rattle.refusals.specs.declared.Refusal.{Refusal}
use Rattle.block.specs.Command.{Report, held, unknown}
use Rattle.captures.specs.Form.{Record}
use Rattle.captures.specs.Numbers.{Bytes}
use Rattle.tool.specs.Response.{any_response_refusal, reports_of}
use Rattle.tables.specs.Lines.{Line, line_of, lines}
use Rattle.tables.specs.Fields.{quoted}
use Rattle.tables.specs.Rows.{Row, row_of, row_fields, header_fields, table_of}
use Rattle.tables.specs.Exporting.{is_response, rows_from, refused_count, rows_of, export_of}
use Rattle.tables.specs.Importing.{counter_limit, Imported, end, refused, row, import_from, import_of, rows_given, is_whole}

-- a report that a response can hold
abbrev pub Reported : Report → Type 0
Reported (held page low value) = (page < 256) × (low < 256) × Bytes value × (1 ≤ length value) × (length value ≤ 255)
Reported (unknown page low) = (page < 256) × (low < 256)

-- a row that a table can hold
pub record Exportable (r : Row) : Type 0 where
  pub id_size : length r.board ≡ 16
  pub id_bytes : Bytes r.board
  pub response : r.direction ≡ 1
  pub counter_small : r.counter ≤ counter_limit
  pub reported : Reported r.report

unfoldable pub AllExportable : List Row → Type 0
AllExportable [] = Unit {0}
AllExportable (r ∷ rs) = Exportable r × AllExportable rs

-- these rows, and then the end
unfoldable pub all_rows : List Row → Imported
all_rows [] = end
all_rows (r ∷ rs) = row r (all_rows rs)

-- a request has no row, and neither has a response that is refused; one that is accepted has a row for each of its reports, in order, with
-- the ID that the capture has for its index. Refused responses alone are counted
pub record Exported (ids : List ℕ) (r : Record) : Type 0 where
  pub request : is_response r ≡ false → (rows_from ids (r ∷ []) ≡ []) × (refused_count (r ∷ []) ≡ 0)
  pub refused :
      (refusal : Refusal) → is_response r ≡ true → any_response_refusal r.packet ≡ some refusal
      → (rows_from ids (r ∷ []) ≡ []) × (refused_count (r ∷ []) ≡ 1)
  pub accepted :
      (reports : List Report) → is_response r ≡ true → any_response_refusal r.packet ≡ none → reports_of r.packet ≡ some reports
      → (rows_from ids (r ∷ []) ≡ map (row_of (take 16 (drop (16 * r.index) ids)) 1 r.counter) reports) × (refused_count (r ∷ []) ≡ 0)

abbrev pub RecordsExported : Type 0
RecordsExported = (ids : List ℕ) (r : Record) → Exported ids r

-- the rows of records are those of each of them, in their order, and so is the count
abbrev pub RowsJoin : Type 0
RowsJoin =
    (ids : List ℕ) (first second : List Record)
    → (rows_from ids (first ++ second) ≡ rows_from ids first ++ rows_from ids second)
    × (refused_count (first ++ second) ≡ refused_count first + refused_count second)

-- the rows of a capture can be held by a table
abbrev pub RowsExportable : Type 0
RowsExportable = (capture : List ℕ) → Bytes capture → AllExportable (rows_of capture)

-- import of an export gives back the same reports with their board ID, direction and counter
abbrev pub ImportsExported : Type 0
ImportsExported = (rows : List Row) → AllExportable rows → import_of (table_of rows) ≡ all_rows rows

abbrev pub ImportsExport : Type 0
ImportsExport = (capture : List ℕ) → Bytes capture → import_of (export_of capture) ≡ all_rows (rows_of capture)

-- the lines of a table: each ends in CR LF
abbrev pub ended : List (List ℕ) → Line
ended fields = line_of (quoted fields) true

-- an export has its header, a line for each report of each accepted response, and no other
abbrev pub ExportLines : Type 0
ExportLines =
    (capture : List ℕ) → Bytes capture
    → lines (export_of capture) ≡ ended header_fields ∷ map (λ (r : Row). ended (row_fields r)) (rows_of capture)

-- the rows that import gives are of the forms that the request names, and a text that is accepted is the table of its rows, to the byte
pub record InForm (text : List ℕ) : Type 0 where
  pub exportable : AllExportable (rows_given (import_of text))
  pub table : is_whole (import_of text) ≡ true → table_of (rows_given (import_of text)) ≡ text

abbrev pub ImportsInForm : Type 0
ImportsInForm = (text : List ℕ) → InForm text

-- the line of the refusal; 0 where there is none
unfoldable pub line_of_refusal : Imported → ℕ
line_of_refusal end = 0
line_of_refusal (refused refusal line) = line
line_of_refusal (row r after) = line_of_refusal after

-- from a line on, the line that is refused comes after one line for each row before it
abbrev pub LinesCounted : Type 0
LinesCounted =
    (line : ℕ) (ls : List Line) → is_whole (import_from line ls) ≡ false
    → line_of_refusal (import_from line ls) ≡ line + length (rows_given (import_from line ls))
