-- A capture may be summed up in pieces.
use Prim.Native.Nat.{ℕ, ◌≤◌}
use mathlib.Core.List.{List, ◌∷◌, ◌++◌}
use mathlib.Core.Path.{◌≡◌, refl, sym, ap, ◌∙◌}
use lib.ListN.{length, drop}
use Rattle.std.specs.Prelude.{Result, Ok, Err}
use Rattle.captures.specs.Reading.{Reading, left, wrong, item, read, records_of, records_in, opened_of}
use Rattle.captures.specs.Statements.{joined, head_within}
use Rattle.captures.specs.declared.reading.Head.{Head}
use Rattle.refusals.specs.Refusals.{number_or_zero}
use Rattle.refusals.specs.declared.Refusal.{Refusal}
use Rattle.captures.proofs.HeadWithin.{opened_within, records_behind}
use Rattle.captures.proofs.Opening.{records_same}
use Rattle.counts.specs.Counting.{count_limit, counted, end_of, left_of, refusal_at_end}
use Rattle.counts.specs.Statements.{is_wrong, after}
use Rattle.counts.proofs.Pieces.{pieces_count}
use Rattle.summing.specs.Text.{text_of, summary_of}
use Rattle.summing.specs.Statements.{progress_refusal, progress_text, text_as, PiecesSummed}
use Rattle.summing.proofs.Summaries.{none_yet, summary_refused, summary_counted}

-- the refusal of a reading, by its ending
pub refusal_after : (counts : List ℕ) (r : Reading) → progress_refusal (after counts r) ≡ refusal_at_end (end_of r)
unfolding end_of left_of is_wrong
refusal_after counts (left bytes) = refl
refusal_after counts wrong = refl
refusal_after counts (item r rest) = refusal_after counts rest

module _ (front : List ℕ) (pieces : List (List ℕ)) (long : head_within front pieces) where
  summed_by :
      (found : Result Head Refusal) → opened_of front ≡ found → length (records_in (front ++ joined pieces)) ≤ count_limit
      → text_as found front pieces ≡ summary_of (front ++ joined pieces)
  unfolding joined
  summed_by (Err refusal) e few = sym (summary_refused (front ++ joined pieces) (opened_within front pieces long ∙ e))
  summed_by (Ok head) e few =
      let whole = front ++ joined pieces in
      let told_whole : opened_of whole ≡ Ok head = opened_within front pieces long ∙ e in
      let rest : drop head.records whole ≡ drop head.records front ++ joined pieces = records_behind front (joined pieces) e in
      let few_read : length (records_of (read head.version head.boards (drop head.records whole))) ≤ count_limit = rw (records_same whole told_whole) at few in
      ap progress_text (pieces_count head.version head.boards none_yet (drop head.records front ∷ pieces) ∙ ap (λ (l : List ℕ). after none_yet (read head.version head.boards l)) (sym rest))
      ∙ ap (λ o. text_of (counted none_yet (records_of (read head.version head.boards (drop head.records whole)))) (number_or_zero o)) (refusal_after none_yet (read head.version head.boards (drop head.records whole)))
      ∙ summary_counted whole told_whole few_read

pub pieces_summed : PiecesSummed
pieces_summed front pieces long few = summed_by front pieces long (opened_of front) refl few
