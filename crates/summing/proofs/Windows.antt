-- A window that is read into in turns: what it comes to.
use Prim.Native.Nat.{ℕ, ◌+◌, ◌*◌}
use mathlib.Core.Bool.{Bool, true, false, cond}
use mathlib.Core.List.{List, [], ◌∷◌, ◌++◌}
use mathlib.Core.Path.{◌≡◌, refl, sym, ap, ◌∙◌}
use lib.ListN.{length, take, drop}
use lib.Seq.{take_at}
use Rattle.std.specs.Prelude.{Result, Ok, Err}
use Rattle.refusals.specs.Refusals.{number_or_zero}
use Rattle.refusals.specs.declared.Refusal.{Refusal}
use Rattle.captures.specs.Form.{newest, board_limit}
use Rattle.captures.specs.Reading.{Reading, left, wrong, item, read, records_of}
use Rattle.captures.specs.declared.Version.{Version}
use Rattle.counts.specs.Counting.{numbers_per_board, counted, end_of, left_of, refusal_at_end, window_part, CountsWindow}
use Rattle.counts.specs.Statements.{zeros, Progress, is_wrong, start, after, taken, all_taken}
use Rattle.counts.proofs.Moving.{left_size}
use Rattle.summing.specs.Text.{text_of}
use Rattle.summing.specs.Statements.{progress_text, text_as, Turns, ended, stopped, turned, WindowsSum}
use Rattle.summing.proofs.Pieces.{refusal_after, pieces_summed}

goes_on : (r : Reading) {size : ℕ} → Ok size ≡ end_of r → is_wrong r ≡ false
unfolding end_of is_wrong
goes_on (left bytes) e = refl
goes_on wrong e = cc
goes_on (item r rest) e = goes_on rest e

is_wrong_lem : (r : Reading) {refusal : Refusal} → Err refusal ≡ end_of r → is_wrong r ≡ true
unfolding end_of is_wrong
is_wrong_lem (left bytes) e = cc
is_wrong_lem wrong e = refl
is_wrong_lem (item r rest) e = is_wrong_lem rest e

-- after a field outside its range no piece is taken
none_taken : (version : Version) (boards : ℕ) (so_far : Progress) (pieces : List (List ℕ)) → so_far.stopped ≡ true → all_taken version boards so_far pieces ≡ so_far
unfolding all_taken
none_taken version boards so_far [] e = refl
none_taken version boards so_far (piece ∷ pieces) e =
    ap (λ (p : Progress). all_taken version boards p pieces)
    (ap (λ (t : Bool). cond t so_far (after so_far.counts (read version boards (so_far.bytes ++ piece)))) e)
    ∙ none_taken version boards so_far pieces e

-- counts, answer and window tell what was read
record Tells (r : Reading) (before counts : List ℕ) (answer : Result ℕ Refusal) (window : List ℕ) : Type 0 where
  held : counts ≡ counted before (records_of r)
  answered : answer ≡ end_of r
  kept : take (length (left_of r)) window ≡ left_of r

window_tells :
    (version : Version) (boards start end : ℕ) (window : List ℕ) {part counts after moved : List ℕ} {answer : Result ℕ Refusal} → window_part start end window ≡ part
    → CountsWindow version boards start end window counts answer after moved → Tells (read version boards part) counts after answer moved
window_tells version boards start end window {part} {counts} {after} {moved} {answer} e w =
    let rest = left_of (read version boards (window_part start end window)) in
    let told : Tells (read version boards (window_part start end window)) counts after answer moved = record {
      held = w.counts.held;
      answered = w.counts.answered;
      kept = ap (take (length rest)) w.kept ∙ take_at rest _ (length rest) refl;
    } in
    rw e at told

text_told :
    {r : Reading} {before counts window : List ℕ} {answer : Result ℕ Refusal} → Tells r before counts answer window
    → text_of counts (number_or_zero (refusal_at_end answer)) ≡ progress_text (after before r)
text_told {r} {before} told =
    (λ i. text_of (told.held i) (number_or_zero (refusal_at_end (told.answered i))))
    ∙ ap (λ o. text_of (counted before (records_of r)) (number_or_zero o)) (sym (refusal_after before r))

module _ (version : Version) (boards : ℕ) where
  -- a piece behind what is left
  taken_behind :
      {r : Reading} {before counts window : List ℕ} {size : ℕ} (piece : List ℕ) → Tells r before counts (Ok size) window
      → taken version boards (after before r) piece ≡ after counts (read version boards (left_of r ++ piece))
  taken_behind {r} {before} piece told =
      ap (λ (t : Bool). cond t (after before r) (after (counted before (records_of r)) (read version boards (left_of r ++ piece)))) (goes_on r told.answered)
      ∙ ap (λ (l : List ℕ). after l (read version boards (left_of r ++ piece))) (sym told.held)

  filled_with :
      {r : Reading} {before counts window : List ℕ} {size : ℕ} (piece filled : List ℕ) → Tells r before counts (Ok size) window
      → take (size + length piece) filled ≡ take size window ++ piece → window_part 0 (size + length piece) filled ≡ left_of r ++ piece
  filled_with {r} {window} piece filled told e =
      e
      ∙ ap (λ (l : List ℕ). l ++ piece)
      (ap (λ (n : ℕ). take n window) (sym (left_size r (sym told.answered))) ∙ told.kept)

  turns_told :
      {counts window final : List ℕ} {answer ending : Result ℕ Refusal} {pieces : List (List ℕ)} → Turns version boards counts answer window pieces ending final
      → (r : Reading) (before : List ℕ) → Tells r before counts answer window
      → text_of final (number_or_zero (refusal_at_end ending)) ≡ progress_text (all_taken version boards (after before r) pieces)
  unfolding all_taken
  turns_told ended r before told = text_told told
  turns_told (stopped {pieces}) r before told =
      text_told told ∙ ap progress_text (sym (none_taken version boards (after before r) pieces (is_wrong_lem r told.answered)))
  turns_told (turned {counts} {pieces} size piece filled e w later) r before told =
      turns_told later (read version boards (left_of r ++ piece)) counts
      (window_tells version boards 0 (size + length piece) filled (filled_with piece filled told e) w)
      ∙ ap (λ (p : Progress). progress_text (all_taken version boards p pieces)) (sym (taken_behind piece told))

pub windows_sum : WindowsSum
unfolding all_taken
windows_sum head front window counts after moved final pieces answer ending opened long few e none_yet w turns =
    let first : Tells (read head.version head.boards (drop head.records front)) counts after answer moved = window_tells head.version head.boards head.records (length front) window (ap (drop head.records) e) w in
    turns_told head.version head.boards turns (read head.version head.boards (drop head.records front)) (zeros (board_limit newest * numbers_per_board)) (rw none_yet at first)
    ∙ ap (λ o. text_as o front pieces) (sym opened)
    ∙ pieces_summed front pieces long few
