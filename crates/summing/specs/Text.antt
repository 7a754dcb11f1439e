-- The summary of a capture: its text.
use Rattle.std.specs.Prelude.{ℕ, zero, suc, ◌+◌, ◌-◌, ◌*◌, ◌/◌, ◌%◌, ◌≤◌, cond, Option as OptionInCode, Some, None, List, [], ◌∷◌, ◌++◌, ◌≡◌, leb, eqb, length, drop, get_or}
use Rattle.std.proofs.Math.Option.{Option, none, some}
use Rattle.octets.specs.Octets.{overwrite}
use Rattle.numerals.specs.Numerals.{decimal}
use Rattle.captures.specs.Form.{newest, Record, board_limit}
use Rattle.captures.specs.Reading.{records_in, capture_refusal}
use Rattle.refusals.specs.Refusals.{number_of}
use Rattle.refusals.specs.declared.Refusal.{Refusal}
use Rattle.tool.specs.Listing.{line_feed, refused_line}
use Rattle.counts.specs.Counting.{numbers_per_board, count_of}
use Rattle.summing.specs.declared.PairLine.{PairLine}

abbrev pub comma : ℕ
comma = 0x2C

-- the line of a pair of a board's index and a number: index,number,count; none where the count is 0
abbrev pub pair_line : ℕ → ℕ → ℕ → List ℕ
pair_line index number count =
    cond (eqb count 0) [] (decimal index ++ comma ∷ decimal number ++ comma ∷ decimal count ++ line_feed)

-- the texts of 0 to n - 1 one after another
unfoldable pub each : ℕ → (ℕ → List ℕ) → List ℕ
each zero text = []
each (suc n) text = each n text ++ text n

-- the lines of records: index and number ascending
abbrev pub record_lines : List Record → List ℕ
record_lines records =
    each (board_limit newest) (λ (index : ℕ). each numbers_per_board (λ (number : ℕ). pair_line index number (count_of records index number)))

abbrev pub refused_as : Option Refusal → List ℕ
refused_as none = []
refused_as (some refusal) = refused_line (number_of refusal)

-- the summary of a capture
abbrev pub summary_of : List ℕ → List ℕ
summary_of capture = record_lines (records_in capture) ++ refused_as (capture_refusal capture)

-- the lines of counts, one for each place
abbrev pub pair_at : ℕ → ℕ → List ℕ
pair_at place count = pair_line (place / numbers_per_board) (place % numbers_per_board) count

abbrev pub line_at : List ℕ → ℕ → List ℕ
line_at counts place = pair_at place (get_or counts place 0)

unfoldable pub lines_of : List ℕ → List ℕ
lines_of counts = each (length counts) (line_at counts)

-- the line of a refusal; none where its number is 0
abbrev pub last_line : ℕ → List ℕ
last_line refusal = cond (eqb refusal 0) [] (refused_line refusal)

abbrev pub text_of : List ℕ → ℕ → List ℕ
text_of counts refusal = lines_of counts ++ last_line refusal

-- a line for each count, of up to 28 bytes, and that of a refusal
abbrev pub longest_text : ℕ
longest_text = board_limit newest * numbers_per_board * 28 + 11

-- three numbers, and a byte after each
abbrev pub longest_line : ℕ
longest_line = 63

-- a line that ends its buffer
pub record Holds (line : List ℕ) (answer : PairLine) : Type 0 where
  pub sized : length answer.bytes ≡ longest_line
  pub within : answer.start ≤ longest_line
  pub held : drop answer.start answer.bytes ≡ line

-- what is left of some room after a text
abbrev pub room_after : ℕ → List ℕ → OptionInCode ℕ
room_after space text = cond (leb (length text) space) (Some (space - length text)) None

-- lines put into the first bytes of a text
pub record WritesLines (lines text : List ℕ) (end : ℕ) (after : List ℕ) : Type 0 where
  pub ends : end ≡ length lines
  pub stored : after ≡ overwrite text 0 lines
