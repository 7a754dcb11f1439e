-- The answers of the calls on captures in numbers, for callers in other languages.
use Rattle.std.specs.Prelude.{ℕ, Bool, cond, List, ◌≡◌, eqb, Option, None, Some, Result, Ok, Err}
use Rattle.std.proofs.Math.Option.{none, some}
use Rattle.std.proofs.Math.Option as math
use Rattle.refusals.specs.Refusals.{number_of}
use Rattle.refusals.specs.declared.Refusal.{Refusal}
use Rattle.refusals.specs.declared.Refusal.TheVariants.{ShortBuffer, UnknownVersion}
use Rattle.octets.specs.Octets.{fits}
use Rattle.framing.specs.Refusal.{first_refusal}
use Rattle.captures.specs.Form.{version_number, newest, record_bytes, head_bytes}
use Rattle.captures.specs.Reading.{read, next_record}
use Rattle.captures.specs.Writing.{written_as, buffer_as, HeadCall, head_call_refusals, RecordCall, record_call_refusals, WriteCall, write_refusal, bytes_given}
use Rattle.captures.specs.declared.Version.{Version}
use Rattle.captures.specs.declared.Version.TheVariants.{One, Two}
use Rattle.captures.specs.declared.reading.NextRecord.{NextRecord}
use Rattle.captures.specs.declared.reading.NextRecord.TheVariants as next
use Rattle.captures.specs.declared.reading.Head.{Head}
use Rattle.counts.specs.Counting.{end_of, window_part, CountsWindow}
use Rattle.rewriting.specs.Rewriting.{rewritten, RewriteCall, rewrite_refusal, rewritten_as, rewritten_number}
use Rattle.rewriting.specs.declared.Rewritten.{Rewritten}
use Rattle.rewriting.specs.declared.Rewritten.TheVariants as rewriting
use Rattle.dataset.specs.Reply.{reply_with}
use Rattle.dataset.specs.declared.capture.CaptureRecord.{CaptureRecord}
use Rattle.dataset.specs.declared.capture.OpenedCapture.{OpenedCapture}
use Rattle.dataset.specs.declared.Reply.{Reply}

-- refusal 0: opened
abbrev pub opened_in_numbers : Result Head Refusal → OpenedCapture
opened_in_numbers (Ok head) =
    record { refusal = 0; version = version_number head.version; boards = head.boards; ids = head.ids; records = head.records }
opened_in_numbers (Err refusal) = record { refusal = number_of refusal; version = 0; boards = 0; ids = 0; records = 0 }

-- the version that has this number
abbrev pub version_numbered : ℕ → Option Version
version_numbered number =
    cond (eqb number (version_number One)) (Some One) (cond (eqb number (version_number Two)) (Some Two) None)

abbrev pub no_record : ℕ → CaptureRecord
no_record kind = record { kind = kind; direction = 0; index = 0; counter = 0; packet = 0; rest = 0 }

-- kind 0: a record
abbrev pub next_in_numbers : NextRecord → CaptureRecord
next_in_numbers (next.Record index direction counter packet rest) =
    record { kind = 0; direction = direction; index = index; counter = counter; packet = packet; rest = rest }
next_in_numbers next.End = no_record 1
next_in_numbers next.Cut = no_record 2
next_in_numbers next.Wrong = no_record 3

-- kind 4: no version has the number
abbrev pub next_numbered : Option Version → ℕ → List ℕ → CaptureRecord
next_numbered (Some version) boards bytes = next_in_numbers (next_record version boards bytes)
next_numbered None boards bytes = no_record 4

-- refusal 0: written, or so many bytes are left
abbrev pub written_reply : Result ℕ Refusal → Reply
written_reply (Ok length) = reply_with 0 length
written_reply (Err refusal) = reply_with (number_of refusal) 0

-- these bytes, or this refusal
pub record WritesInNumbers (refused : math.Option Refusal) (bytes buffer : List ℕ) (reply : Reply) (after : List ℕ) : Type 0 where
  pub answered : reply ≡ written_reply (written_as refused bytes)
  pub held : after ≡ buffer_as refused buffer bytes

-- the contracts of the three writers
abbrev pub WritesHead : HeadCall → Reply → List ℕ → Type 0
WritesHead call reply after = WritesInNumbers (first_refusal head_call_refusals call) (head_bytes newest call.ids) call.buffer reply after

abbrev pub WritesRecord : RecordCall → Reply → List ℕ → Type 0
WritesRecord call reply after = WritesInNumbers (first_refusal record_call_refusals call) (record_bytes newest call.given) call.buffer reply after

abbrev pub WritesCapture : WriteCall → Reply → List ℕ → Type 0
WritesCapture call reply after = WritesInNumbers (write_refusal call) (bytes_given call) call.buffer reply after

-- so many bytes hold what is rewritten, all or a part
abbrev pub rewritten_length : Rewritten → ℕ
rewritten_length (rewriting.Whole length) = length
rewritten_length (rewriting.Part length) = length
rewritten_length (rewriting.Refused refusal) = 0

abbrev pub rewritten_reply : Rewritten → Reply
rewritten_reply answer = reply_with (rewritten_number answer) (rewritten_length answer)

-- the contract of `udgornwy_rewrite_capture`
pub record RewritesInNumbers (call : RewriteCall) (reply : Reply) (after : List ℕ) : Type 0 where
  pub answered : reply ≡ rewritten_reply (rewritten_as (rewrite_refusal call) call.capture)
  pub held : after ≡ buffer_as (rewrite_refusal call) call.buffer (rewritten call.capture)

-- how the records of a part of a window end
abbrev pub window_end : Version → ℕ → ℕ → ℕ → List ℕ → Result ℕ Refusal
window_end version boards start end window = end_of (read version boards (window_part start end window))

-- counts and window as `count_window` leaves them, so that WindowsSum is of this call too
pub record CountsInNumbers (version : Version) (boards start end : ℕ) (window before : List ℕ) (reply : Reply) (after moved : List ℕ) : Type 0 where
  pub answered : reply ≡ written_reply (window_end version boards start end window)
  pub held : CountsWindow version boards start end window before (window_end version boards start end window) after moved

-- counts and window as they were
pub record CountsNothing (window before : List ℕ) (reply : Reply) (after moved : List ℕ) : Type 0 where
  pub answered : reply ≡ reply_with (number_of UnknownVersion) 0
  pub counts_kept : after ≡ before
  pub window_kept : moved ≡ window

-- the contract of `udgornwy_count_window`; 51: no version has the number
abbrev pub CountsNumbered : Option Version → ℕ → ℕ → ℕ → List ℕ → List ℕ → Reply → List ℕ → List ℕ → Type 0
CountsNumbered (Some version) boards start end window before reply after moved =
    CountsInNumbers version boards start end window before reply after moved
CountsNumbered None boards start end window before reply after moved = CountsNothing window before reply after moved

-- this refusal, unless it is so
abbrev pub refused_unless : Bool → Refusal → math.Option Refusal
refused_unless accepted refusal = cond accepted none (some refusal)

-- the contract of `udgornwy_show_counts`
abbrev pub ShowsCounts : List ℕ → List ℕ → Reply → List ℕ → Type 0
ShowsCounts text buffer reply after = WritesInNumbers (refused_unless (fits buffer 0 text) ShortBuffer) text buffer reply after
