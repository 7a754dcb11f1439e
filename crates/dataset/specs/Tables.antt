-- The answers of the calls on tables in numbers, for callers in other languages.
use Rattle.std.specs.Prelude.{ℕ, ◌+◌, cond, List, ◌≡◌, length, Option, None, Some, Result, Ok, Err}
use Rattle.refusals.specs.Refusals.{number_of, number_or_zero}
use Rattle.refusals.specs.declared.Refusal.TheVariants.{BadField, NoSpace, UnknownVersion}
use Rattle.captures.specs.declared.Version.{Version}
use Rattle.octets.specs.Octets.{overwrite, fits}
use Rattle.captures.specs.Reading.{records_of}
use Rattle.captures.specs.Writing.{too_short}
use Rattle.counts.specs.Counting.{end_of}
use Rattle.tables.specs.Rows.{header_line}
use Rattle.tables.specs.Exporting.{refused_count, export_of, refused_in, capture_told}
use Rattle.tables.specs.Importing.{bytes_in}
use Rattle.exporting.specs.Exporting.{capped, exported_as, WindowCall, window_call, window_reading, window_lines, text_short, ExportsWindow}
use Rattle.exporting.specs.declared.Exported.{Exported}
use Rattle.exporting.specs.declared.window.Rows.{Rows}
use Rattle.importing.specs.Hex.{readable}
use Rattle.importing.specs.declared.reading.NextRow.{NextRow}
use Rattle.importing.specs.declared.reading.NextRow.TheVariants as next
use Rattle.importing.specs.declared.reading.RefusedLine.{RefusedLine}
use Rattle.importing.specs.declared.reading.Rest.{Rest}
use Rattle.dataset.specs.Captures.{refused_unless, WritesInNumbers, written_reply}
use Rattle.dataset.specs.declared.Reply.{Reply}
use Rattle.dataset.specs.declared.table.ExportedTable.{ExportedTable}
use Rattle.dataset.specs.declared.table.ExportedRows.{ExportedRows}
use Rattle.dataset.specs.declared.table.OpenedTable.{OpenedTable}
use Rattle.dataset.specs.declared.table.TableRow.{TableRow}

-- the contract of `udgornwy_table_header`; 54: it does not fit
abbrev pub WritesTableHeader : List ℕ → Reply → List ℕ → Type 0
WritesTableHeader buffer reply after = WritesInNumbers (refused_unless (fits buffer 0 header_line) NoSpace) header_line buffer reply after

-- refusal 0: exported
abbrev pub exported_in_numbers : Option Exported → ExportedTable
exported_in_numbers (Some exported) =
    record { refusal = 0; capture = number_or_zero exported.capture; length = exported.length; refused = exported.refused }
exported_in_numbers None = record { refusal = number_of NoSpace; capture = 0; length = 0; refused = 0 }

-- the contract of `udgornwy_export_table`
pub record ExportsInNumbers (buffer capture : List ℕ) (answer : ExportedTable) (after : List ℕ) : Type 0 where
  pub answered : answer ≡ exported_in_numbers (exported_as buffer (export_of capture) (capped (refused_in capture)) (capture_told capture))
  pub held : after ≡ cond (too_short buffer (export_of capture)) buffer (overwrite buffer 0 (export_of capture))

abbrev pub no_rows : ℕ → ExportedRows
no_rows number = record { refusal = number; ending = 0; length = 0; refused = 0; left = 0 }

-- refusal 0: exported
abbrev pub rows_in_numbers : Option Rows → ExportedRows
rows_in_numbers (Some rows) =
    record {
      refusal = 0;
      ending = (written_reply rows.ending).refusal;
      length = rows.length;
      refused = rows.refused;
      left = (written_reply rows.ending).length;
    }
rows_in_numbers None = no_rows (number_of NoSpace)

-- the answer of `export_window`
abbrev pub rows_as : WindowCall → Option Rows
rows_as call =
    let reading = window_reading call in
    cond (text_short call) None
    (Some (record {
      length = length (window_lines call);
      refused = capped (call.refused + refused_count (records_of reading));
      ending = end_of reading;
    }))

-- text and window as `export_window` leaves them
pub record ExportsRows (call : WindowCall) (answer : ExportedRows) (after moved : List ℕ) : Type 0 where
  pub answered : answer ≡ rows_in_numbers (rows_as call)
  pub held : ExportsWindow call (rows_as call) after moved

-- text and window as they were
pub record ExportsNoRows (text window : List ℕ) (answer : ExportedRows) (after moved : List ℕ) : Type 0 where
  pub answered : answer ≡ no_rows (number_of UnknownVersion)
  pub text_kept : after ≡ text
  pub window_kept : moved ≡ window

-- the contract of `udgornwy_export_window`; 51: no version has the number
abbrev pub ExportsNumbered : Option Version → List ℕ → List ℕ → ℕ → ℕ → List ℕ → ℕ → ℕ → ExportedRows → List ℕ → List ℕ → Type 0
ExportsNumbered (Some version) text window start end ids boards refused answer after moved =
    ExportsRows (window_call text window start end ids version boards refused) answer after moved
ExportsNumbered None text window start end ids boards refused answer after moved = ExportsNoRows text window answer after moved

-- refusal 0: the header stands
abbrev pub opened_table : Result Rest RefusedLine → OpenedTable
opened_table (Ok table) = record { refusal = 0; line = table.line; rest = table.rest }
opened_table (Err refused) = record { refusal = number_of refused.refusal; line = refused.line; rest = 0 }

abbrev pub no_row : ℕ → ℕ → ℕ → TableRow
no_row kind refusal line =
    record {
      kind = kind;
      page = 0;
      low = 0;
      refusal = refusal;
      counter = 0;
      line = line;
      board = 0;
      value = 0;
      value_end = 0;
      rest = 0;
    }

-- kind 0: a row
abbrev pub row_in_numbers : NextRow → TableRow
row_in_numbers (next.Row board counter page low value value_end rest line) =
    record {
      kind = 0;
      page = page;
      low = low;
      refusal = 0;
      counter = counter;
      line = line;
      board = board;
      value = value;
      value_end = value_end;
      rest = rest;
    }
row_in_numbers next.End = no_row 1 0 0
row_in_numbers (next.Refused refused) = no_row 2 (number_of refused.refusal) refused.line

-- the contract of `udgornwy_read_hex`; 63: other digits, or no room
abbrev pub ReadsHexInNumbers : List ℕ → List ℕ → Reply → List ℕ → Type 0
ReadsHexInNumbers buffer digits reply after =
    WritesInNumbers (refused_unless (readable buffer digits) BadField) (bytes_in digits) buffer reply after
