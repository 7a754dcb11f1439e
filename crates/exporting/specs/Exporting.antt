-- Exporting a capture: the table, or the refusal.
use Rattle.std.specs.Prelude.{ℕ, ◌+◌, ◌*◌, Bool, cond, Option, Some, None, Result, List, ◌++◌, ◌≡◌, ltb, length}
use Rattle.octets.specs.Octets.{overwrite}
use Rattle.captures.specs.Reading.{Reading, read, records_of}
use Rattle.captures.specs.Writing.{too_short}
use Rattle.captures.specs.declared.Version.{Version}
use Rattle.refusals.specs.declared.Refusal.{Refusal}
use Rattle.counts.specs.Counting.{count_limit, more, end_of, left_of, refusal_at_end, window_part}
use Rattle.tables.specs.Rows.{header_line}
use Rattle.tables.specs.Exporting.{refused_count, export_of, refused_in, capture_told}
use Rattle.exporting.specs.Text.{records_lines}
use Rattle.exporting.specs.declared.Exported.{Exported}
use Rattle.exporting.specs.declared.Records.{Records}
use Rattle.exporting.specs.declared.window.Rows.{Rows}

-- a count up to the largest number that is held
abbrev pub capped : ℕ → ℕ
capped n = cond (ltb n count_limit) n count_limit

-- one refused response more
abbrev pub refused_after : ℕ → Bool → ℕ
refused_after count refused = cond refused (more count) count

abbrev pub put_until : ℕ → ℕ → Result ℕ Refusal → Records
put_until end refused ending = record { end = end; refused = refused; ending = ending }

-- the records that were put: their rows from `at` on, and the count of refused responses, those counted earlier too
pub record PutsRecords (ids : List ℕ) (reading : Reading) (text : List ℕ) (at earlier : ℕ) (answer : Records) (after : List ℕ) : Type 0 where
  pub ends : answer.end ≡ at + length (records_lines ids (records_of reading))
  pub counted : answer.refused ≡ capped (earlier + refused_count (records_of reading))
  pub ended : answer.ending ≡ end_of reading
  pub held : after ≡ overwrite text at (records_lines ids (records_of reading))

-- a table of this length, how many responses are refused, and the refusal of the capture
abbrev pub exported_with : ℕ → ℕ → Option Refusal → Exported
exported_with length refused capture = record { length = length; refused = refused; capture = capture }

-- a table in the first bytes of a buffer; none where the buffer is too short for the whole table
abbrev pub exported_as : List ℕ → List ℕ → ℕ → Option Refusal → Option Exported
exported_as buffer table refused capture = cond (too_short buffer table) None (Some (exported_with (length table) refused capture))

pub record ExportsTable (table : List ℕ) (refused : ℕ) (capture : Option Refusal) (buffer : List ℕ) (answer : Option Exported) (after : List ℕ) : Type 0 where
  pub answered : answer ≡ exported_as buffer table refused capture
  pub held : after ≡ cond (too_short buffer table) buffer (overwrite buffer 0 table)

-- of what was read
abbrev pub ExportsRecords : List ℕ → Reading → List ℕ → Option Exported → List ℕ → Type 0
ExportsRecords ids reading =
    ExportsTable (header_line ++ records_lines ids (records_of reading)) (capped (refused_count (records_of reading))) (refusal_at_end (end_of reading))

-- the contract of `export`
abbrev pub Exports : List ℕ → List ℕ → Option Exported → List ℕ → Type 0
Exports buffer capture = ExportsTable (export_of capture) (capped (refused_in capture)) (capture_told capture) buffer

-- so many bytes of text for each byte of records are always enough
abbrev pub text_per_byte : ℕ
text_per_byte = 40

-- what a call of `export_window` is given: a text of so many bytes, and where records stand in the window; the IDs and the form of the
-- capture; how many responses were refused before
pub record WindowCall : Type 0 where
  pub text : List ℕ
  pub window : List ℕ
  pub start : ℕ
  pub end : ℕ
  pub ids : List ℕ
  pub version : Version
  pub boards : ℕ
  pub refused : ℕ

abbrev pub window_call : List ℕ → List ℕ → ℕ → ℕ → List ℕ → Version → ℕ → ℕ → WindowCall
window_call text window start end ids version boards refused =
    record {
      text = text;
      window = window;
      start = start;
      end = end;
      ids = ids;
      version = version;
      boards = boards;
      refused = refused;
    }

abbrev pub window_records : WindowCall → List ℕ
window_records call = window_part call.start call.end call.window

abbrev pub window_reading : WindowCall → Reading
window_reading call = read call.version call.boards (window_records call)

abbrev pub window_lines : WindowCall → List ℕ
window_lines call = records_lines call.ids (records_of (window_reading call))

abbrev pub text_short : WindowCall → Bool
text_short call = ltb (length call.text) (text_per_byte * length (window_records call))

abbrev pub rows_with : ℕ → ℕ → Result ℕ Refusal → Rows
rows_with length refused ending = record { length = length; refused = refused; ending = ending }

-- the contract of `export_window`: the rows of a part of the window are put into the first bytes of the text, and the bytes that are left
-- at the start of the window; nothing is done where the text may be too short
pub record ExportsWindow (call : WindowCall) (answer : Option Rows) (after moved : List ℕ) : Type 0 where
  pub answered :
      answer
      ≡ cond (text_short call) None
      (Some (rows_with (length (window_lines call)) (capped (call.refused + refused_count (records_of (window_reading call)))) (end_of (window_reading call))))
  pub held : after ≡ cond (text_short call) call.text (overwrite call.text 0 (window_lines call))
  pub kept : moved ≡ cond (text_short call) call.window (overwrite call.window 0 (left_of (window_reading call)))
