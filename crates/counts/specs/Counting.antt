-- How often each number occurs for each board.
use Rattle.std.specs.Prelude.{ℕ, ◌+◌, ◌-◌, ◌*◌, cond, ◌&&◌, Option, None, Some, Result, Ok, Err, List, [], ◌∷◌, ◌≡◌, leb, ltb, eqb, length, take, drop, get_or, set}
use Rattle.octets.specs.Octets.{overwrite}
use Rattle.captures.specs.Form.{Record}
use Rattle.captures.specs.Reading.{Reading, left, wrong, item, read, records_of}
use Rattle.captures.specs.declared.Version.{Version}
use Rattle.refusals.specs.declared.Refusal.{Refusal}
use Rattle.refusals.specs.declared.Refusal.TheVariants.{WrongRecord}
use Rattle.counts.specs.Judging.{judged_number}

-- the number of a record: 0 to 10
abbrev pub number_of : Record → ℕ
number_of r = judged_number r.direction r.packet

-- how many of the records are of this board and have this number
unfoldable pub count_of : List Record → ℕ → ℕ → ℕ
count_of [] index number = 0
count_of (r ∷ rs) index number = cond (eqb r.index index && eqb (number_of r) number) 1 0 + count_of rs index number

-- in a list of counts, each board has one for each number
abbrev pub numbers_per_board : ℕ
numbers_per_board = 11

abbrev pub place_of : ℕ → ℕ → ℕ
place_of index number = index * numbers_per_board + number

abbrev pub place : Record → ℕ
place r = place_of r.index (number_of r)

-- the largest number that a count holds
abbrev pub count_limit : ℕ
count_limit = 18446744073709551615

abbrev pub more : ℕ → ℕ
more n = cond (ltb n count_limit) (n + 1) n

-- a place past the end changes nothing
abbrev pub counted_one : List ℕ → Record → List ℕ
counted_one counts r = set counts (place r) (more (get_or counts (place r) 0))

unfoldable pub counted : List ℕ → List Record → List ℕ
counted counts [] = counts
counted counts (r ∷ rs) = counted (counted_one counts r) rs

-- how a reading ends: with so many bytes left, or at a field outside its range
unfoldable pub end_of : Reading → Result ℕ Refusal
end_of (left bytes) = Ok (length bytes)
end_of wrong = Err WrongRecord
end_of (item r after) = end_of after

-- the bytes that are left
unfoldable pub left_of : Reading → List ℕ
left_of (left bytes) = bytes
left_of wrong = []
left_of (item r after) = left_of after

-- the last bytes, as many as are left; none where there are not so many
abbrev pub last_of : Result ℕ Refusal → List ℕ → List ℕ
last_of (Ok size) bytes = cond (leb size (length bytes)) (drop (length bytes - size) bytes) []
last_of (Err refusal) bytes = []

-- the refusal, where no more bytes come
abbrev pub refusal_at_end : Result ℕ Refusal → Option Refusal
refusal_at_end (Ok size) = cond (eqb size 0) None (Some WrongRecord)
refusal_at_end (Err refusal) = Some refusal

-- the contract of `count`
pub record Counts (version : Version) (boards : ℕ) (bytes before : List ℕ) (answer : Result ℕ Refusal) (after : List ℕ) : Type 0 where
  pub answered : answer ≡ end_of (read version boards bytes)
  pub held : after ≡ counted before (records_of (read version boards bytes))

-- what stands in a window from `start` to `end`
abbrev pub window_part : ℕ → ℕ → List ℕ → List ℕ
window_part start end window = drop start (take end window)

-- the contract of `count_window`: the records of a part of the window are counted, and the bytes that are left put at its start
pub record CountsWindow (version : Version) (boards start end : ℕ) (window before : List ℕ) (answer : Result ℕ Refusal) (after moved : List ℕ) : Type 0 where
  pub counts : Counts version boards (window_part start end window) before answer after
  pub kept : moved ≡ overwrite window 0 (left_of (read version boards (window_part start end window)))
