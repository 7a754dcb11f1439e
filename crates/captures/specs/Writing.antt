-- Writing a capture of the newest version, its head or one of its records: the bytes, or the refusal.
use Rattle.std.specs.Prelude.{ℕ, ◌%◌, Bool, true, not, ◌&&◌, ◌||◌, List, [], ◌∷◌, Result, Ok, Err, ◌≡◌, ltb, eqb, length, take, drop}
use Rattle.std.proofs.Math.Option.{Option, none, some}
use Rattle.octets.specs.Octets.{overwrite, sum}
use Rattle.framing.specs.Refusal.{Rule, rule, first_refusal}
use Rattle.refusals.specs.declared.Refusal.{Refusal}
use Rattle.refusals.specs.declared.Refusal.TheVariants.{NoSpace, WrongBoards, WrongRecord}
use Rattle.captures.specs.Form.{newest, Record, record_of, record_bytes, boards_of, head_bytes, capture_bytes, wrong_count, fields_in_range}
use Rattle.captures.specs.declared.Version.{Version}

-- the answer: the length of the bytes, or the refusal
abbrev pub written_as : Option Refusal → List ℕ → Result ℕ Refusal
written_as none bytes = Ok (length bytes)
written_as (some refusal) bytes = Err refusal

-- the buffer after it: the bytes in its first ones, or as it was
abbrev pub buffer_as : Option Refusal → List ℕ → List ℕ → List ℕ
buffer_as none buffer bytes = overwrite buffer 0 bytes
buffer_as (some refusal) buffer bytes = buffer

-- these bytes, or this refusal
pub record Writes (refused : Option Refusal) (bytes buffer : List ℕ) (answer : Result ℕ Refusal) (after : List ℕ) : Type 0 where
  pub answered : answer ≡ written_as refused bytes
  pub held : after ≡ buffer_as refused buffer bytes

-- `WrongBoards`: the IDs are not 16 bytes each, or not those of 1 to as many boards as the version has
abbrev pub wrong_ids : Version → List ℕ → Bool
wrong_ids version ids = not (eqb (length ids % 16) 0) || wrong_count version (boards_of ids)

abbrev pub record_in_range : ℕ → Record → Bool
record_in_range boards r = fields_in_range boards r.index r.direction (length r.packet)

-- `NoSpace`
abbrev pub too_short : List ℕ → List ℕ → Bool
too_short buffer bytes = ltb (length buffer) (length bytes)

-- what a call of `write_head` is given
pub record HeadCall : Type 0 where
  pub buffer : List ℕ
  pub ids : List ℕ

abbrev pub head_call : List ℕ → List ℕ → HeadCall
head_call buffer ids = record { buffer = buffer; ids = ids }

unfoldable pub head_call_refusals : List (Rule HeadCall)
head_call_refusals =
    rule WrongBoards (λ (call : HeadCall). wrong_ids newest call.ids)
    ∷ rule NoSpace (λ (call : HeadCall). too_short call.buffer (head_bytes newest call.ids))
    ∷ []

abbrev pub WritesHead : HeadCall → Result ℕ Refusal → List ℕ → Type 0
WritesHead call answer after = Writes (first_refusal head_call_refusals call) (head_bytes newest call.ids) call.buffer answer after

-- what a call of `write_record` is given: the board count of the capture, and the record
pub record RecordCall : Type 0 where
  pub buffer : List ℕ
  pub boards : ℕ
  pub given : Record

abbrev pub record_call : List ℕ → ℕ → Record → RecordCall
record_call buffer boards given = record { buffer = buffer; boards = boards; given = given }

unfoldable pub record_call_refusals : List (Rule RecordCall)
record_call_refusals =
    rule WrongBoards (λ (call : RecordCall). wrong_count newest call.boards)
    ∷ rule WrongRecord (λ (call : RecordCall). not (record_in_range call.boards call.given))
    ∷ rule NoSpace (λ (call : RecordCall). too_short call.buffer (record_bytes newest call.given))
    ∷ []

abbrev pub WritesRecord : RecordCall → Result ℕ Refusal → List ℕ → Type 0
WritesRecord call answer after = Writes (first_refusal record_call_refusals call) (record_bytes newest call.given) call.buffer answer after

-- what a call of `write` is given: the IDs one after another; index, direction, counter and length of the records side by side; their
-- packets one after another
pub record WriteCall : Type 0 where
  pub buffer : List ℕ
  pub ids : List ℕ
  pub indexes : List ℕ
  pub directions : List ℕ
  pub counters : List ℕ
  pub lengths : List ℕ
  pub packets : List ℕ

abbrev pub write_call : List ℕ → List ℕ → List ℕ → List ℕ → List ℕ → List ℕ → List ℕ → WriteCall
write_call buffer ids indexes directions counters lengths packets =
    record {
      buffer = buffer;
      ids = ids;
      indexes = indexes;
      directions = directions;
      counters = counters;
      lengths = lengths;
      packets = packets;
    }

unfoldable pub record_list : List ℕ → List ℕ → List ℕ → List ℕ → List ℕ → List Record
record_list [] directions counters lengths packets = []
record_list (index ∷ indexes) [] counters lengths packets = []
record_list (index ∷ indexes) (direction ∷ directions) [] lengths packets = []
record_list (index ∷ indexes) (direction ∷ directions) (counter ∷ counters) [] packets = []
record_list (index ∷ indexes) (direction ∷ directions) (counter ∷ counters) (size ∷ lengths) packets =
    record_of index direction counter (take size packets) ∷ record_list indexes directions counters lengths (drop size packets)

abbrev pub records_given : WriteCall → List Record
records_given call = record_list call.indexes call.directions call.counters call.lengths call.packets

-- the slices describe a list: as many indexes as directions, counters and lengths, and lengths that add up to the packets' bytes
abbrev pub describes_records : List ℕ → List ℕ → List ℕ → List ℕ → List ℕ → Bool
describes_records indexes directions counters lengths packets =
    eqb (length directions) (length indexes) && eqb (length counters) (length indexes)
    && eqb (length lengths) (length indexes) && eqb (sum lengths) (length packets)

pub record SideBySide (indexes directions counters lengths : List ℕ) : Type 0 where
  pub directions_count : length directions ≡ length indexes
  pub counters_count : length counters ≡ length indexes
  pub lengths_count : length lengths ≡ length indexes

unfoldable pub every_in_range : ℕ → List Record → Bool
every_in_range boards [] = true
every_in_range boards (r ∷ rs) = record_in_range boards r && every_in_range boards rs

abbrev pub bytes_given : WriteCall → List ℕ
bytes_given call = capture_bytes newest call.ids (records_given call)

-- `WrongRecord` is for slices that describe no records, and for a field outside its range
unfoldable pub write_refusals : List (Rule WriteCall)
write_refusals =
    rule WrongBoards (λ (call : WriteCall). wrong_ids newest call.ids)
    ∷ rule WrongRecord (λ (call : WriteCall). not (describes_records call.indexes call.directions call.counters call.lengths call.packets))
    ∷ rule WrongRecord (λ (call : WriteCall). not (every_in_range (boards_of call.ids) (records_given call)))
    ∷ rule NoSpace (λ (call : WriteCall). too_short call.buffer (bytes_given call))
    ∷ []

unfoldable pub write_refusal : WriteCall → Option Refusal
write_refusal call = first_refusal write_refusals call

abbrev pub WritesCapture : WriteCall → Result ℕ Refusal → List ℕ → Type 0
WritesCapture call answer after = Writes (write_refusal call) (bytes_given call) call.buffer answer after
