-- What holds of counts, beside the contracts.
use Rattle.std.specs.Prelude.{ℕ, ◌+◌, ◌<◌, ◌≤◌, Bool, true, false, cond, List, [], ◌∷◌, ◌++◌, ◌≡◌, length, get_or, replicate}
use Rattle.captures.specs.Form.{Record, packet_at}
use Rattle.captures.specs.Reading.{Reading, left, wrong, item, read, records_of}
use Rattle.captures.specs.Statements.{joined}
use Rattle.captures.specs.declared.Version.{Version}
use Rattle.counts.specs.Judging.{judged_number}
use Rattle.counts.specs.Counting.{numbers_per_board, place_of, count_limit, count_of, counted, left_of}

-- each number has room for its count: it is 0 to 10
abbrev pub NumbersBounded : Type 0
NumbersBounded = (direction : ℕ) (packet : List ℕ) → judged_number direction packet < numbers_per_board

-- no counts yet
abbrev pub zeros : ℕ → List ℕ
zeros size = replicate size 0

-- of fewer than 2 ^ 64 records, the count of a pair is how many have it
abbrev pub PairsCounted : Type 0
PairsCounted =
    (size : ℕ) (records : List Record) (index number : ℕ) → length records ≤ count_limit → number < numbers_per_board → place_of index number < size
    → get_or (counted (zeros size) records) (place_of index number) 0 ≡ count_of records index number

-- counting in pieces: the counts so far, the bytes left, and whether a field was outside its range
pub record Progress : Type 0 where
  pub counts : List ℕ
  pub bytes : List ℕ
  pub stopped : Bool

unfoldable pub is_wrong : Reading → Bool
is_wrong (left bytes) = false
is_wrong wrong = true
is_wrong (item r after) = is_wrong after

abbrev pub start : List ℕ → Progress
start counts = record { counts = counts; bytes = []; stopped = false }

abbrev pub after : List ℕ → Reading → Progress
after counts reading = record { counts = counted counts (records_of reading); bytes = left_of reading; stopped = is_wrong reading }

-- one piece more: what was left is put before it
abbrev pub taken : Version → ℕ → Progress → List ℕ → Progress
taken version boards so_far piece = cond so_far.stopped so_far (after so_far.counts (read version boards (so_far.bytes ++ piece)))

unfoldable pub all_taken : Version → ℕ → Progress → List (List ℕ) → Progress
all_taken version boards so_far [] = so_far
all_taken version boards so_far (piece ∷ pieces) = all_taken version boards (taken version boards so_far piece) pieces

-- however the bytes of records are cut into pieces, counts and ending are those of the whole
abbrev pub PiecesCount : Type 0
PiecesCount =
    (version : Version) (boards : ℕ) (counts : List ℕ) (pieces : List (List ℕ))
    → all_taken version boards (start counts) pieces ≡ after counts (read version boards (joined pieces))

-- what is left is shorter than the longest record, so that a longer window has room behind it
abbrev pub LeftShort : Type 0
LeftShort = (version : Version) (boards : ℕ) (bytes : List ℕ) → length (left_of (read version boards bytes)) < packet_at version + 256
