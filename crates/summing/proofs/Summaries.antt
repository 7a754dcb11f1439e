-- The text of a capture's counts is its summary.
use Prim.Native.Nat.{ℕ, ◌*◌, ◌/◌, ◌%◌, ◌<◌, ◌≤◌}
use native.Mathlib.Omega.{arith}
use mathlib.Core.Bool.{Bool, true, false, cond}
use mathlib.Core.List.{List, [], ◌++◌}
use mathlib.Core.Option.{none, some}
use mathlib.Core.Path.{◌≡◌, refl, sym, ap, ◌∙◌}
use borrow.Author.Tests.{ne_eqb}
use lib.ListN.{length, drop, length-drop, length-replicate}
use Rattle.std.specs.Prelude.{Option, None, Some, Result, Ok, Err}
use Rattle.framing.proofs.Refusals.{refused_then, passed_then}
use Rattle.captures.specs.Form.{newest, Record, board_limit}
use Rattle.captures.specs.Reading.{version_of, Reading, read, reading_of, records_of, wrong_record, records_as, capture_refusal, opened_of}
use Rattle.captures.proofs.Readings.{of_readings}
use Rattle.captures.proofs.Opening.{head_refused, accepted_as, reading_same}
use Rattle.captures.proofs.Told.{refusal_then}
use Rattle.captures.specs.declared.Version.{Version}
use Rattle.captures.specs.declared.reading.Head.{Head}
use Rattle.refusals.specs.Refusals.{number_of, number_or_zero}
use Rattle.refusals.specs.declared.Refusal.{Refusal}
use Rattle.refusals.specs.declared.Refusal.TheVariants.{WrongRecord}
use Rattle.refusals.proofs.Distinct.{numbers_above_zero}
use Rattle.tool.specs.Listing.{refused_line}
use Rattle.counts.specs.Counting.{numbers_per_board, place_of, count_limit, count_of, counted, end_of, refusal_at_end, Counts}
use Rattle.summing.specs.Text.{each, pair_line, record_lines, refused_as, summary_of, line_at, lines_of, last_line, text_of}
use Rattle.counts.specs.Statements.{zeros}
use Rattle.summing.proofs.Each.{each_same, each_nothing, each_board}
use Rattle.counts.proofs.Numbers.{ending_told}
use Rattle.counts.proofs.Pairs.{length_counted, pairs_counted}

-- a record takes a byte at the least
pub records_few : (version : Version) (boards : ℕ) (bytes : List ℕ) → length (records_of (read version boards bytes)) ≤ length bytes
unfolding records_of
records_few version boards bytes =
    of_readings (λ (l : List ℕ) (r : Reading). length (records_of r) ≤ length l)
    (record {
      none_left = omega arith;
      passed_over = λ b s r h. omega arith;
      head_cut = λ l few. omega arith;
      out_of_range = λ l. omega arith;
      packet_cut = λ l right few. omega arith;
      whole = λ b s r right h. omega arith;
    })
    bytes 0

-- the counts of all boards
abbrev pub none_yet : List ℕ
none_yet = zeros (board_limit newest * numbers_per_board)

line_same :
    (records : List Record) → length records ≤ count_limit → (index : ℕ) → index < board_limit newest → (number : ℕ) → number < numbers_per_board
    → line_at (counted none_yet records) (place_of index number) ≡ pair_line index number (count_of records index number)
line_same records few index inside number small =
    let board : place_of index number / numbers_per_board ≡ index = omega arith in
    let which : place_of index number % numbers_per_board ≡ number = omega arith in
    let count = pairs_counted (board_limit newest * numbers_per_board) records index number few small (omega arith) in
    λ i. pair_line (board i) (which i) (count i)

pub counted_lines : (records : List Record) → length records ≤ count_limit → lines_of (counted none_yet records) ≡ record_lines records
unfolding lines_of
counted_lines records few =
    let size : length (counted none_yet records) ≡ board_limit newest * numbers_per_board =
    length_counted none_yet records ∙ length-replicate {A = ℕ} (board_limit newest * numbers_per_board) 0 in
    ap (λ (n : ℕ). each n (line_at (counted none_yet records))) size
    ∙ each_board (board_limit newest) (line_at (counted none_yet records))
    ∙ each_same (board_limit newest) (λ index inside. each_same numbers_per_board (line_same records few index inside))

-- no record has no line
no_lines : record_lines [] ≡ []
unfolding count_of
no_lines = each_nothing (board_limit newest) (λ index. each_nothing numbers_per_board (λ number. refl))

-- the line of a refusal
last_refused : (refusal : Refusal) → last_line (number_of refusal) ≡ refused_line (number_of refusal)
last_refused refusal =
    let some_number : 0 < number_of refusal = numbers_above_zero refusal in
    rw (ne_eqb (number_of refusal) 0 (λ z. omega arith))

-- a refused head
module _ (capture : List ℕ) {refusal : Refusal} (e : opened_of capture ≡ Err refusal) where
  pub summary_refused : summary_of capture ≡ refused_line (number_of refusal)
  summary_refused =
      let head = head_refused capture e in
      (λ i. record_lines (records_as (version_of capture) (head i) capture) ++ refused_as ((refusal_then capture ∙ refused_then _ head) i))
      ∙ ap (λ (lines : List ℕ). lines ++ refused_line (number_of refusal)) no_lines

  pub refused_shown : text_of [] (number_of refusal) ≡ summary_of capture
  unfolding lines_of each
  refused_shown = last_refused refusal ∙ sym summary_refused

-- the last line is that of 53, where the reading ended in it
last_by : (wrong : Bool) → last_line (number_or_zero (cond wrong (Some WrongRecord) None)) ≡ refused_as (cond wrong (some WrongRecord) none)
last_by true = refl
last_by false = refl

ending_last : (r : Reading) → last_line (number_or_zero (refusal_at_end (end_of r))) ≡ refused_as (cond (wrong_record r) (some WrongRecord) none)
ending_last r = ap (λ o. last_line (number_or_zero o)) (ending_told r) ∙ last_by (wrong_record r)

-- an accepted head, and the records after it
module _ (capture : List ℕ) {head : Head} (e : opened_of capture ≡ Ok head) where
  abbrev stands : Reading
  stands = read head.version head.boards (drop head.records capture)

  pub summary_counted :
      length (records_of stands) ≤ count_limit
      → text_of (counted none_yet (records_of stands)) (number_or_zero (refusal_at_end (end_of stands))) ≡ summary_of capture
  summary_counted few =
      let told = accepted_as capture e in
      let same = reading_same capture e in
      let refused : capture_refusal capture ≡ cond (wrong_record (reading_of capture)) (some WrongRecord) none = refusal_then capture ∙ passed_then _ told.accepted in
      (λ i. counted_lines (records_of stands) few i ++ ending_last stands i)
      ∙ (λ i. record_lines (records_of (same i)) ++ refused_as (cond (wrong_record (same i)) (some WrongRecord) none))
      ∙ (λ i. record_lines (records_as (version_of capture) (sym told.accepted i) capture) ++ refused_as (sym refused i))

  -- as `count` counted them
  pub summary_shown :
      length capture ≤ count_limit → {bytes : List ℕ} → bytes ≡ drop head.records capture
      → {counts : List ℕ} {ending : Result ℕ Refusal} → Counts head.version head.boards bytes none_yet ending counts
      → {refusal : Option Refusal} → refusal ≡ refusal_at_end ending → text_of counts (number_or_zero refusal) ≡ summary_of capture
  summary_shown short {bytes} at {counts} {ending} done {refusal} told =
      let few : length (records_of stands) ≤ count_limit =
      omega (arith, records_few head.version head.boards (drop head.records capture), length-drop head.records capture) in
      let same : read head.version head.boards bytes ≡ stands = ap (read head.version head.boards) at in
      (λ i. text_of ((done.held ∙ ap (λ (r : Reading). counted none_yet (records_of r)) same) i)
      (number_or_zero ((told ∙ ap refusal_at_end (done.answered ∙ ap end_of same)) i)))
      ∙ summary_counted few
