-- What holds of exports, beside the contracts.
use Rattle.std.specs.Prelude.{ℕ, ◌+◌, ◌*◌, ◌≤◌, Option, Some, Result, Ok, Err, List, [], ◌∷◌, ◌++◌, ◌≡◌, length, take}
use Rattle.captures.specs.Reading.{read, records_of, ids_in, opened_of}
use Rattle.captures.specs.Statements.{joined, head_within}
use Rattle.captures.specs.declared.Version.{Version}
use Rattle.captures.specs.declared.reading.Head.{Head}
use Rattle.refusals.specs.declared.Refusal.{Refusal}
use Rattle.refusals.specs.declared.Refusal.TheVariants.{WrongRecord}
use Rattle.counts.specs.Counting.{refusal_at_end}
use Rattle.tables.specs.Rows.{header_line}
use Rattle.tables.specs.Exporting.{export_of, refused_in, capture_told}
use Rattle.exporting.specs.Text.{records_lines}
use Rattle.exporting.specs.Exporting.{capped, text_per_byte, rows_with, window_call, ExportsWindow}

-- a text that `export_window` takes has room for the rows
abbrev pub RowsBounded : Type 0
RowsBounded =
    (version : Version) (boards : ℕ) (ids bytes : List ℕ)
    → length (records_lines ids (records_of (read version boards bytes))) ≤ text_per_byte * length bytes

-- a text, a count and a refusal are the export of a capture
pub record Export (capture text : List ℕ) (refused : ℕ) (refusal : Option Refusal) : Type 0 where
  pub table : text ≡ export_of capture
  pub count : refused ≡ capped (refused_in capture)
  pub told : refusal ≡ capture_told capture

-- however a capture with a refused head is cut: its export is the header, by the first piece
abbrev pub RefusedExport : Type 0
RefusedExport =
    (front : List ℕ) (pieces : List (List ℕ)) (refusal : Refusal) → opened_of front ≡ Err refusal → head_within front pieces
    → Export (front ++ joined pieces) header_line 0 (Some refusal)

-- The turns of a window after the first: what comes next is read behind the bytes that are left and exported with them. Each call of
-- `export_window` is known by its contract alone: the count, how the records end and the window as it left them, then the pieces still to
-- come, the rows of their turns, and the last count and ending.
pub data Turns (ids : List ℕ) (version : Version) (boards : ℕ) : ℕ → Result ℕ Refusal → List ℕ → List (List ℕ) → List ℕ → ℕ → Result ℕ Refusal → Type 0 where
  ended : {refused : ℕ} {window : List ℕ} {ending : Result ℕ Refusal} → Turns ids version boards refused ending window [] [] refused ending
  stopped : {refused : ℕ} {window : List ℕ} {pieces : List (List ℕ)} → Turns ids version boards refused (Err WrongRecord) window pieces [] refused (Err WrongRecord)
  turned :
      {refused next final : ℕ} {window moved text after rows : List ℕ} {pieces : List (List ℕ)} {ending last : Result ℕ Refusal} (size put : ℕ) (piece filled : List ℕ)
      → take (size + length piece) filled ≡ take size window ++ piece
      → ExportsWindow (window_call text filled 0 (size + length piece) ids version boards refused) (Some (rows_with put next ending)) after moved
      → Turns ids version boards next ending moved pieces rows final last
      → Turns ids version boards refused (Ok size) window (piece ∷ pieces) (take put after ++ rows) final last

-- header and rows of a window that is read into in turns are the export of the whole capture
abbrev pub WindowsExport : Type 0
WindowsExport =
    (head : Head) (put refused final : ℕ) (front text window after moved rows : List ℕ) (pieces : List (List ℕ)) (ending last : Result ℕ Refusal)
    → opened_of front ≡ Ok head → head_within front pieces → take (length front) window ≡ front
    → ExportsWindow (window_call text window head.records (length front) (ids_in front) head.version head.boards 0) (Some (rows_with put refused ending)) after moved
    → Turns (ids_in front) head.version head.boards refused ending moved pieces rows final last
    → Export (front ++ joined pieces) (header_line ++ (take put after ++ rows)) final (refusal_at_end last)
