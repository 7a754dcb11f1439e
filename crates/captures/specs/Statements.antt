-- What holds of captures, beside the contracts.
use Rattle.std.specs.Prelude.{ℕ, ◌+◌, ◌-◌, ◌*◌, ◌^◌, ◌<◌, ◌≤◌, true, false, cond, not, List, [], ◌∷◌, ◌++◌, Result, Ok, Err, ◌≡◌, length, take, drop, get_or}
use Rattle.std.proofs.Math.Option.{Option, none, some}
use Rattle.framing.specs.Refusal.{Rule, rule, first_refusal}
use Rattle.refusals.specs.declared.Refusal.{Refusal}
use Rattle.refusals.specs.declared.Refusal.TheVariants.{CaptureMark, UnknownVersion, WrongBoards, WrongRecord}
use Rattle.captures.specs.Numbers.{Bytes}
use Rattle.captures.specs.Form.{newest, Record, record_of, board_limit, ids_at, record_bytes, boards_of, head_bytes, capture_bytes}
use Rattle.captures.specs.Reading.{Reading, left, wrong, item, is_version, version_of, board_count, wrong_mark, wrong_boards, read, read_in, reading_of, head_refusal, capture_refusal, ids_as, ids_in, records_as, records_in, opened_as, opened_of, next_record, next_refusal, wrong_record}
use Rattle.captures.specs.Writing.{wrong_ids, every_in_range, WriteCall, records_given, write_refusal}
use Rattle.captures.specs.declared.Version.{Version}
use Rattle.captures.specs.declared.Version.TheVariants.{One, Two}
use Rattle.captures.specs.declared.reading.Head.{Head}
use Rattle.captures.specs.declared.reading.NextRecord.{NextRecord}
use Rattle.captures.specs.declared.reading.NextRecord.TheVariants as next

-- the conditions of a reader that knows one version alone
unfoldable pub head_refusals_of : Version → List (Rule (List ℕ))
head_refusals_of version =
    rule CaptureMark wrong_mark ∷ rule UnknownVersion (λ (capture : List ℕ). not (is_version version capture)) ∷ rule WrongBoards (wrong_boards version) ∷ []

unfoldable pub capture_refusals_of : Version → List (Rule (List ℕ))
capture_refusals_of version = head_refusals_of version ++ rule WrongRecord (λ (capture : List ℕ). wrong_record (read_in version capture)) ∷ []

-- what that reader gives
pub record ReadAs (version : Version) (capture : List ℕ) : Type 0 where
  pub opened_same : opened_of capture ≡ opened_as version (first_refusal (head_refusals_of version) capture) capture
  pub ids_same : ids_in capture ≡ ids_as version (first_refusal (head_refusals_of version) capture) capture
  pub records_same : records_in capture ≡ records_as version (first_refusal (head_refusals_of version) capture) capture
  pub refused_as : capture_refusal capture ≡ first_refusal (capture_refusals_of version) capture

abbrev pub other : Version → Version
other One = Two
other Two = One

-- a capture that is not of the other version is read as if there were none: of version 1, as before there was version 2
abbrev pub VersionsApart : Type 0
VersionsApart = (version : Version) (capture : List ℕ) → is_version (other version) capture ≡ false → ReadAs version capture

-- a record's index names a board, its direction is one of the two, and its packet is no longer than a packet can be
unfoldable pub Within : ℕ → List Record → Type 0
Within boards [] = Unit {0}
Within boards (r ∷ rs) = (r.index < boards) × (r.direction ≤ 1) × (length r.packet ≤ 256) × Within boards rs

abbrev pub RecordsWithin : Type 0
RecordsWithin = (capture : List ℕ) → Within (boards_of (ids_in capture)) (records_in capture)

-- each counter has room in four bytes
unfoldable pub counters_fit : List Record → Type 0
counters_fit [] = Unit {0}
counters_fit (r ∷ rs) = (r.counter < 256 ^ 4) × counters_fit rs

-- reading what was written gives the same IDs and records, whatever bytes their packets are
pub record ReadsBack (version : Version) (ids : List ℕ) (records : List Record) : Type 0 where
  pub accepted : capture_refusal (capture_bytes version ids records) ≡ none
  pub version_back : version_of (capture_bytes version ids records) ≡ version
  pub ids_back : ids_in (capture_bytes version ids records) ≡ ids
  pub records_back : records_in (capture_bytes version ids records) ≡ records

abbrev pub ReadsWritten : Type 0
ReadsWritten =
    (version : Version) (ids : List ℕ) (records : List Record) → wrong_ids version ids ≡ false → every_in_range (boards_of ids) records ≡ true
    → counters_fit records → ReadsBack version ids records

-- and so of every call of `write` that is not refused
abbrev pub CallsReadBack : Type 0
CallsReadBack =
    (call : WriteCall) → ((place : ℕ) → get_or call.counters place 0 < 256 ^ 4) → write_refusal call ≡ none
    → ReadsBack newest call.ids (records_given call)

-- an accepted capture is the bytes of what was read
abbrev pub WritesRead : Type 0
WritesRead =
    (capture : List ℕ) → Bytes capture → capture_refusal capture ≡ none
    → capture_bytes (version_of capture) (ids_in capture) (records_in capture) ≡ capture

-- rewritten, a capture holds the same IDs and records; one that `WrongRecord` refuses, those before it
abbrev pub RewritesHold : Type 0
RewritesHold =
    (capture : List ℕ) → Bytes capture → head_refusal capture ≡ none
    → ReadsBack newest (ids_in capture) (records_in capture)

-- the capture of no records is its head, and that of one record more has the bytes of that record behind it
pub record Appends (version : Version) (ids : List ℕ) : Type 0 where
  pub none_yet : capture_bytes version ids [] ≡ head_bytes version ids
  pub one_more :
      (records : List Record) (r : Record)
      → capture_bytes version ids (records ++ r ∷ []) ≡ capture_bytes version ids records ++ record_bytes version r

abbrev pub RecordsAppend : Type 0
RecordsAppend = (version : Version) (ids : List ℕ) → Appends version ids

-- reading that goes on with more bytes: what was left is put before them
unfoldable pub resumed : Version → ℕ → Reading → List ℕ → Reading
resumed version boards (left bytes) more = read version boards (bytes ++ more)
resumed version boards wrong more = wrong
resumed version boards (item r after) more = item r (resumed version boards after more)

-- with one piece after another
unfoldable pub resumed_by : Version → ℕ → Reading → List (List ℕ) → Reading
resumed_by version boards so_far [] = so_far
resumed_by version boards so_far (piece ∷ pieces) = resumed_by version boards (resumed version boards so_far piece) pieces

unfoldable pub joined : List (List ℕ) → List ℕ
joined [] = []
joined (piece ∷ pieces) = piece ++ joined pieces

-- the most bytes that stand before the records
abbrev pub longest_head : ℕ
longest_head = ids_at newest + 16 * board_limit newest

-- the first piece has the head, or the capture ends with it
unfoldable pub head_within : List ℕ → List (List ℕ) → Type 0
head_within front [] = Unit {0}
head_within front (piece ∷ pieces) = longest_head ≤ length front

-- however a capture is cut into pieces: its head is decided by a first one that is long enough, and the records are read in turn
pub record InPieces (front : List ℕ) (pieces : List (List ℕ)) : Type 0 where
  pub head_told : opened_of (front ++ joined pieces) ≡ opened_of front
  pub records_read :
      head_refusal front ≡ none
      → reading_of (front ++ joined pieces) ≡ resumed_by (version_of front) (board_count (version_of front) front) (reading_of front) pieces

abbrev pub PiecesRead : Type 0
PiecesRead = (front : List ℕ) (pieces : List (List ℕ)) → longest_head ≤ length front → InPieces front pieces

-- reading is taking what stands first again and again
abbrev pub read_after : (List ℕ → Reading) → List ℕ → NextRecord → Reading
read_after again bytes next.End = left []
read_after again bytes next.Cut = left bytes
read_after again bytes next.Wrong = wrong
read_after again bytes (next.Record index direction counter packet rest) =
    item (record_of index direction counter (take (packet - rest) (drop (length bytes - packet) bytes)))
    (again (drop (length bytes - rest) bytes))

abbrev pub ReadStep : Type 0
ReadStep =
    (version : Version) (boards : ℕ) (bytes : List ℕ)
    → read version boards bytes ≡ read_after (read version boards) bytes (next_record version boards bytes)

-- the refusal of records
abbrev pub records_refusal : Version → ℕ → List ℕ → Option Refusal
records_refusal version boards bytes = cond (wrong_record (read version boards bytes)) (some WrongRecord) none

abbrev pub refusal_after : (List ℕ → Option Refusal) → List ℕ → NextRecord → Option Refusal
refusal_after again bytes next.End = next_refusal next.End
refusal_after again bytes next.Cut = next_refusal next.Cut
refusal_after again bytes next.Wrong = next_refusal next.Wrong
refusal_after again bytes (next.Record index direction counter packet rest) = again (drop (length bytes - rest) bytes)

abbrev pub refusal_told : List ℕ → Result Head Refusal → Option Refusal
refusal_told capture (Err refusal) = some refusal
refusal_told capture (Ok head) = records_refusal head.version head.boards (drop head.records capture)

-- the refusal of a capture is told by `open`, or by the last answer of `next_record`
pub record RefusalsTold : Type 0 where
  pub by_head : (capture : List ℕ) → capture_refusal capture ≡ refusal_told capture (opened_of capture)
  pub by_record :
      (version : Version) (boards : ℕ) (bytes : List ℕ)
      → records_refusal version boards bytes ≡ refusal_after (records_refusal version boards) bytes (next_record version boards bytes)
