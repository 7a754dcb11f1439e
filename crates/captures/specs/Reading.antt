-- Reading a capture: its IDs, its records, and its refusal if there is one.
use Rattle.std.specs.Prelude.{ℕ, zero, suc, ◌+◌, ◌-◌, ◌*◌, Bool, true, cond, not, ◌||◌, List, [], ◌∷◌, ◌++◌, Result, Ok, Err, ltb, eqb, length, take, drop}
use Rattle.std.proofs.Math.Option.{Option, none, some}
use Rattle.octets.specs.Octets.{stands_at}
use Rattle.framing.specs.Refusal.{Rule, rule, first_refusal}
use Rattle.refusals.specs.declared.Refusal.{Refusal}
use Rattle.refusals.specs.declared.Refusal.TheVariants.{CaptureMark, UnknownVersion, WrongBoards, WrongRecord}
use Rattle.captures.specs.Numbers.{bytes_of, field}
use Rattle.captures.specs.Form.{mark, version_number, index_size, version_at, count_at, ids_at, direction_at, counter_at, size_at, packet_at, Record, record_of, wrong_count, fields_in_range}
use Rattle.captures.specs.declared.Version.{Version}
use Rattle.captures.specs.declared.Version.TheVariants.{One, Two}
use Rattle.captures.specs.declared.reading.Head.{Head}
use Rattle.captures.specs.declared.reading.NextRecord.{NextRecord}
use Rattle.captures.specs.declared.reading.NextRecord.TheVariants as next

-- nothing stands behind the end, so that each of these holds of bytes that are cut short, too
abbrev pub is_version : Version → List ℕ → Bool
is_version version capture = stands_at capture version_at (bytes_of 2 (version_number version))

-- the version of a capture that `UnknownVersion` does not refuse
abbrev pub version_of : List ℕ → Version
version_of capture = cond (is_version One capture) One Two

abbrev pub board_count : Version → List ℕ → ℕ
board_count version capture = field count_at (index_size version) capture

-- where the records stand
abbrev pub records_at : Version → List ℕ → ℕ
records_at version capture = ids_at version + 16 * board_count version capture

abbrev pub wrong_mark : List ℕ → Bool
wrong_mark capture = not (stands_at capture 0 mark)

abbrev pub wrong_version : List ℕ → Bool
wrong_version capture = not (is_version One capture || is_version Two capture)

abbrev pub wrong_boards : Version → List ℕ → Bool
wrong_boards version capture = wrong_count version (board_count version capture) || ltb (length capture) (records_at version capture)

unfoldable pub head_refusals : List (Rule (List ℕ))
head_refusals =
    rule CaptureMark wrong_mark
    ∷ rule UnknownVersion wrong_version
    ∷ rule WrongBoards (λ (capture : List ℕ). wrong_boards (version_of capture) capture)
    ∷ []

unfoldable pub head_refusal : List ℕ → Option Refusal
head_refusal capture = first_refusal head_refusals capture

-- the parts of the record at the start of these bytes
abbrev pub index_in : Version → List ℕ → ℕ
index_in version bytes = field 0 (index_size version) bytes

abbrev pub direction_in : Version → List ℕ → ℕ
direction_in version bytes = field (direction_at version) 1 bytes

abbrev pub counter_in : Version → List ℕ → ℕ
counter_in version bytes = field (counter_at version) 4 bytes

abbrev pub size_in : Version → List ℕ → ℕ
size_in version bytes = field (size_at version) 2 bytes

abbrev pub record_in : Version → List ℕ → Record
record_in version bytes =
    record_of (index_in version bytes) (direction_in version bytes) (counter_in version bytes) (take (size_in version bytes) (drop (packet_at version) bytes))

abbrev pub in_range : Version → ℕ → List ℕ → Bool
in_range version boards bytes = fields_in_range boards (index_in version bytes) (direction_in version bytes) (size_in version bytes)

-- what is read: the records in order, up to the bytes that are left, of which there are none at the end of the capture and else the start
-- of a record, or up to a field outside its range
pub data Reading : Type 0 where
  left : List ℕ → Reading
  wrong : Reading
  item : Record → Reading → Reading

-- behind k bytes that belong to a record
unfoldable pub reading : Version → ℕ → List ℕ → ℕ → Reading
reading version boards [] k = left []
reading version boards (b ∷ s) (suc k) = reading version boards s k
reading version boards (b ∷ s) zero =
    cond (ltb (length (b ∷ s)) (packet_at version)) (left (b ∷ s))
    (cond (not (in_range version boards (b ∷ s))) wrong
    (cond (ltb (length (b ∷ s)) (packet_at version + size_in version (b ∷ s))) (left (b ∷ s))
    (item (record_in version (b ∷ s)) (reading version boards s (index_size version + 6 + size_in version (b ∷ s))))))

abbrev pub read : Version → ℕ → List ℕ → Reading
read version boards bytes = reading version boards bytes 0

-- the records before the end or the refusal
unfoldable pub records_of : Reading → List Record
records_of (left bytes) = []
records_of wrong = []
records_of (item r after) = r ∷ records_of after

-- `WrongRecord`: a record cut short, or a field outside its range
unfoldable pub wrong_record : Reading → Bool
wrong_record (left bytes) = not (eqb (length bytes) 0)
wrong_record wrong = true
wrong_record (item r after) = wrong_record after

abbrev pub read_in : Version → List ℕ → Reading
read_in version capture = read version (board_count version capture) (drop (records_at version capture) capture)

-- what is read of a capture, by its own version
abbrev pub reading_of : List ℕ → Reading
reading_of capture = read_in (version_of capture) capture

-- those of the head, then that of the records
unfoldable pub capture_refusals : List (Rule (List ℕ))
capture_refusals = head_refusals ++ rule WrongRecord (λ (capture : List ℕ). wrong_record (reading_of capture)) ∷ []

unfoldable pub capture_refusal : List ℕ → Option Refusal
capture_refusal capture = first_refusal capture_refusals capture

-- the IDs, 16 bytes each, and the records before the refusal; neither where the head is refused
abbrev pub ids_as : Version → Option Refusal → List ℕ → List ℕ
ids_as version none capture = take (16 * board_count version capture) (drop (ids_at version) capture)
ids_as version (some refusal) capture = []

abbrev pub ids_in : List ℕ → List ℕ
ids_in capture = ids_as (version_of capture) (head_refusal capture) capture

abbrev pub records_as : Version → Option Refusal → List ℕ → List Record
records_as version none capture = records_of (read_in version capture)
records_as version (some refusal) capture = []

abbrev pub records_in : List ℕ → List Record
records_in capture = records_as (version_of capture) (head_refusal capture) capture

-- version, board count and where IDs and records stand
abbrev pub head_as : Version → List ℕ → Head
head_as version capture =
    record { version = version; boards = board_count version capture; ids = ids_at version; records = records_at version capture }

-- the answer of `open`: the head, or the refusal
abbrev pub opened_as : Version → Option Refusal → List ℕ → Result Head Refusal
opened_as version none capture = Ok (head_as version capture)
opened_as version (some refusal) capture = Err refusal

abbrev pub opened_of : List ℕ → Result Head Refusal
opened_of capture = opened_as (version_of capture) (head_refusal capture) capture

-- the answer of `next_record`: what stands first, a record by the places of its parts
abbrev pub next_record : Version → ℕ → List ℕ → NextRecord
next_record version boards bytes =
    cond (eqb (length bytes) 0) next.End
    (cond (ltb (length bytes) (packet_at version)) next.Cut
    (cond (not (in_range version boards bytes)) next.Wrong
    (cond (ltb (length bytes) (packet_at version + size_in version bytes)) next.Cut
    (next.Record (index_in version bytes) (direction_in version bytes) (counter_in version bytes) (length bytes - packet_at version)
    (length bytes - (packet_at version + size_in version bytes))))))

-- its refusal, where nothing stands behind these bytes
abbrev pub next_refusal : NextRecord → Option Refusal
next_refusal (next.Record index direction counter packet rest) = none
next_refusal next.End = none
next_refusal next.Cut = some WrongRecord
next_refusal next.Wrong = some WrongRecord
