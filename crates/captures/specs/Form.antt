-- The bytes of a capture: the mark, the version, the board count, the boards' IDs, and the records.
use Rattle.std.specs.Prelude.{ℕ, ◌+◌, ◌/◌, Bool, not, ◌&&◌, List, [], ◌∷◌, ◌++◌, leb, ltb, length}
use Rattle.octets.specs.Octets.{between}
use Rattle.captures.specs.Numbers.{bytes_of}
use Rattle.captures.specs.declared.Version.{Version}
use Rattle.captures.specs.declared.Version.TheVariants.{One, Two}

-- VLG
abbrev pub mark : List ℕ
mark = 0x56 ∷ 0x4C ∷ 0x47 ∷ []

abbrev pub version_number : Version → ℕ
version_number One = 1
version_number Two = 2

-- the bytes of a board index, and of the board count
abbrev pub index_size : Version → ℕ
index_size One = 1
index_size Two = 2

-- the most boards
abbrev pub board_limit : Version → ℕ
board_limit One = 16
board_limit Two = 1000

-- the version that is written; no other has more boards
abbrev pub newest : Version
newest = Two

-- where the version, the board count and the IDs stand
abbrev pub version_at : ℕ
version_at = 3

abbrev pub count_at : ℕ
count_at = 5

abbrev pub ids_at : Version → ℕ
ids_at version = count_at + index_size version

-- where the parts of a record stand
abbrev pub direction_at : Version → ℕ
direction_at version = index_size version

abbrev pub counter_at : Version → ℕ
counter_at version = index_size version + 1

abbrev pub size_at : Version → ℕ
size_at version = index_size version + 5

abbrev pub packet_at : Version → ℕ
packet_at version = index_size version + 7

-- the index of the board, the direction (0 a request, 1 a response), the millisecond counter, the packet
pub record Record : Type 0 where
  pub index : ℕ
  pub direction : ℕ
  pub counter : ℕ
  pub packet : List ℕ

abbrev pub record_of : ℕ → ℕ → ℕ → List ℕ → Record
record_of index direction counter packet = record { index = index; direction = direction; counter = counter; packet = packet }

abbrev pub record_bytes : Version → Record → List ℕ
record_bytes version r = bytes_of (index_size version) r.index ++ bytes_of 1 r.direction ++ bytes_of 4 r.counter ++ bytes_of 2 (length r.packet) ++ r.packet

unfoldable pub records_bytes : Version → List Record → List ℕ
records_bytes version [] = []
records_bytes version (r ∷ rs) = record_bytes version r ++ records_bytes version rs

-- how many boards these IDs, 16 bytes each, belong to
abbrev pub boards_of : List ℕ → ℕ
boards_of ids = length ids / 16

abbrev pub head_bytes : Version → List ℕ → List ℕ
head_bytes version ids = mark ++ bytes_of 2 (version_number version) ++ bytes_of (index_size version) (boards_of ids) ++ ids

abbrev pub capture_bytes : Version → List ℕ → List Record → List ℕ
capture_bytes version ids records = head_bytes version ids ++ records_bytes version records

-- `WrongBoards`
abbrev pub wrong_count : Version → ℕ → Bool
wrong_count version boards = not (between 1 (board_limit version) boards)

-- else `WrongRecord`; the counter has no value outside its range
abbrev pub fields_in_range : ℕ → ℕ → ℕ → ℕ → Bool
fields_in_range boards index direction size = ltb index boards && leb direction 1 && leb size 256
