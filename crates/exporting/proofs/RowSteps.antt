-- The rows of a block, one report after another.
use Prim.Native.Nat.{ℕ, ◌+◌, ◌-◌, ◌<◌, ◌≤◌}
use native.Mathlib.Omega.{arith}
use mathlib.Core.Bool.{Bool, true, false, cond, ◌&&◌}
use mathlib.Core.List.{List, [], ◌∷◌, ◌++◌}
use mathlib.Core.Option.{Option, none, some, map, get_or}
use mathlib.Core.Path.{◌≡◌, refl, sym, ap, ◌∙◌}
use borrow.Author.Tests.{leb-true, leb-false, le-leb, lt-leb}
use lib.Dec.{leb}
use lib.ListN.{length, length-append}
use Rattle.octets.proofs.Overwriting.{with_room}
use Rattle.block.specs.Command.{Report, held, unknown}
use Rattle.block.specs.Reading.{part_of, is_some}
use Rattle.block.specs.Response.{reports_from, next_report}
use Rattle.block.specs.Statements.{reports_after}
use Rattle.block.specs.declared.response.NextReport.{NextReport}
use Rattle.block.specs.declared.response.NextReport.TheVariants as next
use Rattle.block.proofs.Reports.{reports_step, formed_after, reports_formed, rest_in, report_shorter}
use Rattle.captures.proofs.Buffers.{PutFrom, next_fits, put_on}
use Rattle.tables.specs.Rows.{number_of, value_of}
use Rattle.exporting.specs.Text.{room_after}
use Rattle.exporting.specs.RowText.{row_text, row_texts, left_text, next_row, row_size, Puts}
use Rattle.std.specs.Prelude as answers
use Rattle.exporting.specs.declared.rows.NextRow.{NextRow}
use Rattle.exporting.proofs.RowTexts.{length_row}

-- the text of a first report and of those behind it, where they are well formed
more_text :
    (start : List ℕ) (r : Report) (found : Option (List Report)) → is_some found ≡ true
    → row_texts start (get_or (map (λ (rs : List Report). r ∷ rs) found) []) ≡ row_text start (number_of r) (value_of r) ++ row_texts start (get_or found [])
unfolding row_texts
more_text start r none h = cc
more_text start r (some rs) h = refl

-- no bytes stand between a place and itself
no_part : (at : ℕ) (l : List ℕ) → part_of at at l ≡ []
no_part at l =
    let none_between : at - at ≡ 0 = omega arith in
    rw none_between (either (leb at (length l) && leb at at))
  where
    either : (t : Bool) → ◌≡◌ {A = List ℕ} (cond t [] []) []
    either true = refl
    either false = refl

-- a next report: what is left behind it, and the text
pub record Step (page : ℕ) (left : List ℕ) (next_page low value rest : ℕ) : Type 0 where
  pub formed : is_some (reports_from next_page (part_of rest 0 left)) ≡ true
  pub shorter : length (part_of rest 0 left) < length left
  pub text : (start : List ℕ) → left_text start page left ≡ row_text start (next_page ∷ low ∷ []) (part_of value rest left) ++ left_text start next_page (part_of rest 0 left)

abbrev Stepped : ℕ → List ℕ → answers.Option NextRow → Type 0
Stepped page left (answers.Some row) = Step page left row.page row.low row.value row.rest
Stepped page left answers.None = (start : List ℕ) → left_text start page left ≡ []

module _ (page : ℕ) (left : List ℕ) (well : is_some (reports_from page left) ≡ true) where
  text_by : (i : NextReport) → next_report page left ≡ i → (start : List ℕ) → left_text start page left ≡ row_texts start (get_or (reports_after reports_from left i) [])
  text_by i f start =
      ap (λ (found : Option (List Report)). row_texts start (get_or found [])) (reports_step page left ∙ ap (reports_after reports_from left) f)

  formed_by : (i : NextReport) → next_report page left ≡ i → formed_after left i ≡ true
  formed_by i f = sym (reports_formed page left f) ∙ well

  step_by : (i : NextReport) → next_report page left ≡ i → Stepped page left (next_row i)
  unfolding row_texts
  step_by next.End f = λ (start : List ℕ). text_by next.End f start
  step_by next.Malformed f = λ (start : List ℕ). cc (formed_by next.Malformed f)
  step_by (next.Held p l v r) f =
      let after = formed_by (next.Held p l v r) f in
      record {
        formed = after;
        shorter = report_shorter page left (ap rest_in f);
        text = λ (start : List ℕ). text_by (next.Held p l v r) f start ∙ more_text start (held p l (part_of v r left)) (reports_from p (part_of r 0 left)) after;
      }
  step_by (next.Unknown p l r) f =
      let after = formed_by (next.Unknown p l r) f in
      record {
        formed = after;
        shorter = report_shorter page left (ap rest_in f);
        text = λ (start : List ℕ). rw (no_part r left) (text_by (next.Unknown p l r) f start ∙ more_text start (unknown p l) (reports_from p (part_of r 0 left)) after);
      }

  module _ {answer : answers.Option NextRow} (e : answer ≡ next_row (next_report page left)) where
    step : Stepped page left answer
    step = rw e (step_by (next_report page left) refl)

    pub row_next : {row : NextRow} → answer ≡ answers.Some row → Step page left row.page row.low row.value row.rest
    row_next h = rw h at step

    pub row_end : answer ≡ answers.None → (start : List ℕ) → left_text start page left ≡ []
    row_end h = rw h at step

-- the next row is put
module _
    {buffer : List ℕ} {at : ℕ} {all now : List ℕ} {place : ℕ} (start : List ℕ) {page : ℕ} {left : List ℕ} (so_far : PutFrom buffer at all now place (left_text start page left))
    {next_page low value rest : ℕ} (step : Step page left next_page low value rest) {bytes : List ℕ} (part : bytes ≡ part_of value rest left) where
  parts : left_text start page left ≡ row_text start (next_page ∷ low ∷ []) bytes ++ left_text start next_page (part_of rest 0 left)
  parts = rw part (step.text start)

  pub row_fits : place + length (row_text start (next_page ∷ low ∷ []) bytes) ≤ length now
  row_fits = next_fits (row_text start (next_page ∷ low ∷ []) bytes) _ so_far parts

  pub row_on : {end : ℕ} {after : List ℕ} → Puts now place (row_text start (next_page ∷ low ∷ []) bytes) end after → PutFrom buffer at all after end (left_text start next_page (part_of rest 0 left))
  row_on done = put_on (row_text start (next_page ∷ low ∷ []) bytes) _ so_far parts done.ends (with_room row_fits done.held)

-- what is told of the room that a text has
told_by : (fit : Bool) (size : ℕ) {answer : answers.Option ℕ} → answer ≡ cond fit (answers.Some size) answers.None → {left : ℕ} → answer ≡ answers.Some left → (fit ≡ true) × (left ≡ size)
told_by true size e h = (refl, cc)
told_by false size e h = ((cc), (cc))

none_by : (fit : Bool) (size : ℕ) {answer : answers.Option ℕ} → answer ≡ cond fit (answers.Some size) answers.None → answer ≡ answers.None → fit ≡ false
none_by true size e h = cc
none_by false size e h = refl

module _ (space : ℕ) (text : List ℕ) {answer : answers.Option ℕ} (e : answer ≡ room_after space text) where
  left_told : {left : ℕ} → answer ≡ answers.Some left → left + length text ≡ space
  left_told h =
      let told = told_by (leb (length text) space) (space - length text) e h in
      omega (arith, leb-true (length text) space told.0)

  none_told : answer ≡ answers.None → space < length text
  none_told h = leb-false (length text) space (none_by (leb (length text) space) (space - length text) e h)

-- so much room is left before the rows of what is left of a block
pub record RoomLeft (room : ℕ) (start block : List ℕ) (space page : ℕ) (left : List ℕ) : Type 0 where
  pub spent : space + length (left_text start 0 block) ≡ room + length (left_text start page left)

module _ (space : ℕ) (start block : List ℕ) {left page : ℕ} {rest : List ℕ} (so_far : RoomLeft space start block left page rest) where
  pub room_left : left_text start page rest ≡ [] → answers.Some left ≡ room_after space (left_text start 0 block)
  room_left h =
      let nothing : length (left_text start page rest) ≡ 0 = ap length h in
      rw (le-leb (length (left_text start 0 block)) space (omega (arith, so_far.spent)))
      (ap answers.Some (omega (arith, so_far.spent)))

  module _
      {next_page low value after : ℕ} (step : Step page rest next_page low value after) {size : ℕ} {bytes : List ℕ} (sized : length start ≡ size)
      (part : bytes ≡ part_of value after rest) {answer : answers.Option ℕ} (e : (row : List ℕ) → length row ≡ row_size size (length bytes) → answer ≡ room_after left row) where
    abbrev line : List ℕ
    line = row_text start (next_page ∷ low ∷ []) bytes

    size_now : length (left_text start page rest) ≡ length line + length (left_text start next_page (part_of after 0 rest))
    size_now = rw part (ap length (step.text start) ∙ length-append (row_text start (next_page ∷ low ∷ []) (part_of value after rest)) _)

    after_line : answer ≡ room_after left line
    after_line = e line (rw (← sized) (length_row start (next_page ∷ low ∷ []) bytes refl))

    pub room_more : {more : ℕ} → answer ≡ answers.Some more → RoomLeft space start block more next_page (part_of after 0 rest)
    room_more h = record { spent = omega (arith, so_far.spent, size_now, left_told left line after_line h) }

    pub room_none : answer ≡ answers.None → answers.None ≡ room_after space (left_text start 0 block)
    room_none h = rw (lt-leb (length (left_text start 0 block)) space (omega (arith, so_far.spent, size_now, none_told left line after_line h)))
