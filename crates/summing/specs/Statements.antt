-- What holds of summaries, beside the contracts.
use Rattle.std.specs.Prelude.{ℕ, ◌+◌, ◌*◌, ◌≤◌, cond, Option, None, Some, Result, Ok, Err, List, [], ◌∷◌, ◌++◌, ◌≡◌, eqb, length, take, drop}
use Rattle.captures.specs.Form.{newest, board_limit}
use Rattle.captures.specs.Reading.{records_in, opened_of}
use Rattle.captures.specs.Statements.{joined, head_within}
use Rattle.captures.specs.declared.Version.{Version}
use Rattle.captures.specs.declared.reading.Head.{Head}
use Rattle.refusals.specs.Refusals.{number_of, number_or_zero}
use Rattle.refusals.specs.declared.Refusal.{Refusal}
use Rattle.refusals.specs.declared.Refusal.TheVariants.{WrongRecord}
use Rattle.tool.specs.Listing.{refused_line}
use Rattle.counts.specs.Counting.{numbers_per_board, count_limit, refusal_at_end, CountsWindow}
use Rattle.counts.specs.Statements.{zeros, Progress, start, all_taken}
use Rattle.summing.specs.Text.{text_of, summary_of, longest_text}

-- a buffer of this size has room for the text of the counts of all boards
abbrev pub TextsFit : Type 0
TextsFit = (counts : List ℕ) (refusal : ℕ) → length counts ≤ board_limit newest * numbers_per_board → length (text_of counts refusal) ≤ longest_text

-- refusal and text of what was counted, where no more bytes come
abbrev pub progress_refusal : Progress → Option Refusal
progress_refusal so_far = cond so_far.stopped (Some WrongRecord) (cond (eqb (length so_far.bytes) 0) None (Some WrongRecord))

abbrev pub progress_text : Progress → List ℕ
progress_text so_far = text_of so_far.counts (number_or_zero (progress_refusal so_far))

-- a capture in pieces, of which the first is opened
abbrev pub text_as : Result Head Refusal → List ℕ → List (List ℕ) → List ℕ
text_as (Err refusal) front pieces = refused_line (number_of refusal)
text_as (Ok head) front pieces =
    progress_text (all_taken head.version head.boards (start (zeros (board_limit newest * numbers_per_board))) (drop head.records front ∷ pieces))

-- the text of the pieces is the summary of the whole capture
abbrev pub PiecesSummed : Type 0
PiecesSummed =
    (front : List ℕ) (pieces : List (List ℕ)) → head_within front pieces → length (records_in (front ++ joined pieces)) ≤ count_limit
    → text_as (opened_of front) front pieces ≡ summary_of (front ++ joined pieces)

-- The turns of a window after the first: what comes next is read behind the bytes that are left and counted with them. Each call of
-- `count_window` is known by its contract alone: counts, answer and window as it left them, then the pieces still to come, and how it ends.
pub data Turns (version : Version) (boards : ℕ) : List ℕ → Result ℕ Refusal → List ℕ → List (List ℕ) → Result ℕ Refusal → List ℕ → Type 0 where
  ended : {counts window : List ℕ} {answer : Result ℕ Refusal} → Turns version boards counts answer window [] answer counts
  stopped : {counts window : List ℕ} {refusal : Refusal} {pieces : List (List ℕ)} → Turns version boards counts (Err refusal) window pieces (Err refusal) counts
  turned :
      {counts window counts' window' final : List ℕ} {answer ending : Result ℕ Refusal} {pieces : List (List ℕ)} (size : ℕ) (piece filled : List ℕ)
      → take (size + length piece) filled ≡ take size window ++ piece
      → CountsWindow version boards 0 (size + length piece) filled counts answer counts' window'
      → Turns version boards counts' answer window' pieces ending final → Turns version boards counts (Ok size) window (piece ∷ pieces) ending final

-- a window that is read into in turns comes to the summary of the whole capture
abbrev pub WindowsSum : Type 0
WindowsSum =
    (head : Head) (front window counts after moved final : List ℕ) (pieces : List (List ℕ)) (answer ending : Result ℕ Refusal)
    → opened_of front ≡ Ok head → head_within front pieces → length (records_in (front ++ joined pieces)) ≤ count_limit
    → take (length front) window ≡ front → counts ≡ zeros (board_limit newest * numbers_per_board)
    → CountsWindow head.version head.boards head.records (length front) window counts answer after moved → Turns head.version head.boards after answer moved pieces ending final
    → text_of final (number_or_zero (refusal_at_end ending)) ≡ summary_of (front ++ joined pieces)
