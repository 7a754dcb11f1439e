-- A capture may be exported in pieces.
use Prim.Native.Nat.{ℕ, ◌+◌}
use native.Mathlib.Omega.{arith}
use mathlib.Core.Bool.{Bool, true, false, cond}
use mathlib.Core.List.{List, [], ◌∷◌, ◌++◌, append_assoc, append-nil}
use mathlib.Core.Path.{◌≡◌, refl, sym, ap, subst, ◌∙◌}
use borrow.Author.Tests.{ltb-false}
use lib.Dec.{ltb}
use lib.ListN.{length, take, drop}
use Rattle.captures.specs.Form.{Record}
use Rattle.captures.specs.Reading.{Reading, left, wrong, item, read, records_of, ids_in, opened_of}
use Rattle.captures.specs.Statements.{resumed, resumed_by, joined}
use Rattle.captures.specs.declared.Version.{Version}
use Rattle.captures.proofs.HeadWithin.{opened_within, ids_within, records_behind}
use Rattle.captures.proofs.Opening.{records_same}
use Rattle.captures.proofs.Pieces.{resumed_by_lem}
use Rattle.counts.specs.Counting.{count_limit, end_of, left_of, refusal_at_end, window_part}
use Rattle.std.specs.Prelude.{Some, Result, Ok, Err}
use Rattle.refusals.specs.declared.Refusal.{Refusal}
use Rattle.refusals.specs.declared.Refusal.TheVariants.{WrongRecord}
use Rattle.counts.proofs.Moving.{left_size}
use Rattle.tables.specs.Rows.{header_line, row_lines}
use Rattle.tables.specs.Exporting.{rows_from, refused_count}
use Rattle.exporting.specs.Text.{record_lines, records_lines}
use Rattle.exporting.specs.Exporting.{capped, WindowCall, window_call, window_reading, window_lines, text_short, rows_with, ExportsWindow}
use Rattle.exporting.specs.Statements.{RefusedExport, Turns, ended, stopped, turned, WindowsExport}
use Rattle.exporting.specs.declared.window.Rows.{Rows}
use Rattle.std.proofs.lemmas.Option.{same_Some}
use Rattle.exporting.proofs.Captures.{header_alone, none_refused, refusal_kept, refusal_same}
use Rattle.tables.proofs.Ends.{first_bytes}
use Rattle.exporting.proofs.Steps.{lines_read, one_more, capped_full}

-- rows and counts of records one after another
rows_joined : (ids : List ℕ) (first second : List Record) → records_lines ids (first ++ second) ≡ records_lines ids first ++ records_lines ids second
unfolding rows_from row_lines
rows_joined ids [] second = refl
rows_joined ids (r ∷ rs) second =
    one_more ids r (rs ++ second)
    ∙ ap (λ (l : List ℕ). record_lines ids r ++ l) (rows_joined ids rs second)
    ∙ sym (append_assoc (record_lines ids r) (records_lines ids rs) (records_lines ids second))
    ∙ ap (λ (l : List ℕ). l ++ records_lines ids second) (sym (one_more ids r rs))

counts_joined : (first second : List Record) → refused_count (first ++ second) ≡ refused_count first + refused_count second
unfolding refused_count
counts_joined [] second = omega arith
counts_joined (r ∷ rs) second = omega (arith, counts_joined rs second)

-- a count that was held up to the limit goes on as the whole would
capped_again : (earlier more : ℕ) → capped (capped earlier + more) ≡ capped (earlier + more)
capped_again earlier more = by_test (ltb earlier count_limit) refl
  where
    by_test : (t : Bool) → ltb earlier count_limit ≡ t → capped (cond t earlier count_limit + more) ≡ capped (earlier + more)
    by_test true e = refl
    by_test false e =
        let full = ltb-false earlier count_limit e in
        capped_full (count_limit + more) (omega arith) ∙ sym (capped_full (earlier + more) (omega arith))

-- a reading that goes on with another where bytes are left
unfoldable behind : Reading → Reading → Reading
behind (left bytes) next = next
behind wrong next = wrong
behind (item r after) next = item r (behind after next)

module _ (version : Version) (boards : ℕ) where
  resumed_one : (r : Reading) (piece : List ℕ) → resumed version boards r piece ≡ behind r (read version boards (left_of r ++ piece))
  unfolding resumed behind left_of
  resumed_one (left bytes) piece = refl
  resumed_one wrong piece = refl
  resumed_one (item r after) piece = ap (item r) (resumed_one after piece)

  resumed_behind : (r next : Reading) (piece : List ℕ) → resumed version boards (behind r next) piece ≡ behind r (resumed version boards next piece)
  unfolding resumed behind
  resumed_behind (left bytes) next piece = refl
  resumed_behind wrong next piece = refl
  resumed_behind (item r after) next piece = ap (item r) (resumed_behind after next piece)

  all_behind : (r next : Reading) (pieces : List (List ℕ)) → resumed_by version boards (behind r next) pieces ≡ behind r (resumed_by version boards next pieces)
  unfolding resumed_by
  all_behind r next [] = refl
  all_behind r next (piece ∷ pieces) =
      ap (λ (so_far : Reading). resumed_by version boards so_far pieces) (resumed_behind r next piece) ∙ all_behind r (resumed version boards next piece) pieces

  -- after a field outside its range nothing is read
  resumed_wrong : (r : Reading) (piece : List ℕ) → Err WrongRecord ≡ end_of r → resumed version boards r piece ≡ r
  unfolding resumed end_of
  resumed_wrong (left bytes) piece e = cc
  resumed_wrong wrong piece e = refl
  resumed_wrong (item r after) piece e = ap (item r) (resumed_wrong after piece e)

  all_wrong : (r : Reading) (pieces : List (List ℕ)) → Err WrongRecord ≡ end_of r → resumed_by version boards r pieces ≡ r
  unfolding resumed_by
  all_wrong r [] e = refl
  all_wrong r (piece ∷ pieces) e =
      ap (λ (so_far : Reading). resumed_by version boards so_far pieces) (resumed_wrong r piece e) ∙ all_wrong r pieces e

-- its records and its ending
records_behind_it : (r next : Reading) {size : ℕ} → Ok size ≡ end_of r → records_of (behind r next) ≡ records_of r ++ records_of next
unfolding behind records_of end_of
records_behind_it (left bytes) next e = refl
records_behind_it wrong next e = cc
records_behind_it (item r after) next e = ap (λ (rs : List Record). r ∷ rs) (records_behind_it after next e)

ends_behind_it : (r next : Reading) {size : ℕ} → Ok size ≡ end_of r → end_of (behind r next) ≡ end_of next
unfolding behind end_of
ends_behind_it (left bytes) next e = refl
ends_behind_it wrong next e = cc
ends_behind_it (item r after) next e = ends_behind_it after next e

-- count, ending and window tell what was read
record Tells (r : Reading) (earlier refused : ℕ) (ending : Result ℕ Refusal) (window : List ℕ) : Type 0 where
  counted : refused ≡ capped (earlier + refused_count (records_of r))
  answered : ending ≡ end_of r
  kept : take (length (left_of r)) window ≡ left_of r

-- and the rows
record Rowed (ids : List ℕ) (r : Reading) (earlier put refused : ℕ) (ending : Result ℕ Refusal) (after moved : List ℕ) : Type 0 where
  rows : take put after ≡ lines_read ids r
  tells : Tells r earlier refused ending moved

window_rows :
    (call : WindowCall) (short : Bool) → text_short call ≡ short → {put refused : ℕ} {ending : Result ℕ Refusal} {after moved : List ℕ}
    → ExportsWindow call (Some (rows_with put refused ending)) after moved → Rowed call.ids (window_reading call) call.refused put refused ending after moved
window_rows call true e done = let impossible : ◌≡◌ {A = ℕ} 0 1 = cc done.answered in absurd (omega arith)
window_rows call false e {put} {refused} {ending} {after} {moved} done =
    let answer : rows_with put refused ending ≡ rows_with (length (window_lines call)) (capped (call.refused + refused_count (records_of (window_reading call)))) (end_of (window_reading call)) = same_Some _ _ (rw e at done.answered) in
    let size : put ≡ length (window_lines call) = ap (λ (rows : Rows). rows.length) answer in
    record {
      rows = first_bytes call.text (window_lines call) size (rw e at done.held);
      tells = record {
        counted = ap (λ (rows : Rows). rows.refused) answer;
        answered = ap (λ (rows : Rows). rows.ending) answer;
        kept = first_bytes call.window (left_of (window_reading call)) refl (rw e at done.kept);
      };
    }

-- rows, count and ending of all that was read
record Whole (ids : List ℕ) (all : Reading) (earlier : ℕ) (rows : List ℕ) (final : ℕ) (last : Result ℕ Refusal) : Type 0 where
  lines : lines_read ids all ≡ rows
  counted : final ≡ capped (earlier + refused_count (records_of all))
  told : last ≡ end_of all

module _ (ids : List ℕ) (version : Version) (boards : ℕ) where
  -- a call on these bytes
  rows_of :
      {text filled : List ℕ} {start end refused : ℕ} {bytes : List ℕ} → window_part start end filled ≡ bytes
      → {put next : ℕ} {ending : Result ℕ Refusal} {after moved : List ℕ} → ExportsWindow (window_call text filled start end ids version boards refused) (Some (rows_with put next ending)) after moved
      → Rowed ids (read version boards bytes) refused put next ending after moved
  rows_of {text} {filled} {start} {end} {refused} e {put} {next} {ending} {after} {moved} done =
      let call = window_call text filled start end ids version boards refused in
      subst (λ (l : List ℕ). Rowed ids (read version boards l) refused put next ending after moved) e (window_rows call (text_short call) refl done)

  turns_told :
      {refused final : ℕ} {ending last : Result ℕ Refusal} {window rows : List ℕ} {pieces : List (List ℕ)}
      → Turns ids version boards refused ending window pieces rows final last → (r : Reading) (earlier : ℕ) → Tells r earlier refused ending window
      → Whole ids (resumed_by version boards r pieces) earlier (lines_read ids r ++ rows) final last
  unfolding resumed_by
  turns_told ended r earlier so_far =
      record { lines = sym (append-nil (lines_read ids r)); counted = so_far.counted; told = so_far.answered }
  turns_told (stopped {pieces = pieces}) r earlier so_far =
      let same : resumed_by version boards r pieces ≡ r = all_wrong version boards r pieces so_far.answered in
      record {
        lines = ap (lines_read ids) same ∙ sym (append-nil (lines_read ids r));
        counted = so_far.counted ∙ ap (λ (all : Reading). capped (earlier + refused_count (records_of all))) (sym same);
        told = so_far.answered ∙ ap end_of (sym same);
      }
  turns_told (turned {refused = refused} {window = window} {rows = rows} {pieces = pieces} size put piece filled e done later) r earlier so_far =
      let next = read version boards (left_of r ++ piece) in
      let rest = resumed_by version boards next pieces in
      let here : window_part 0 (size + length piece) filled ≡ left_of r ++ piece =
      e ∙ ap (λ (l : List ℕ). l ++ piece) (ap (λ (n : ℕ). take n window) (sym (left_size r (sym so_far.answered))) ∙ so_far.kept) in
      let rowed = rows_of here done in
      let whole = turns_told later next refused rowed.tells in
      let same : resumed_by version boards r (piece ∷ pieces) ≡ behind r rest =
      ap (λ (so_far : Reading). resumed_by version boards so_far pieces) (resumed_one version boards r piece) ∙ all_behind version boards r next pieces in
      let records : records_of (resumed_by version boards r (piece ∷ pieces)) ≡ records_of r ++ records_of rest = ap records_of same ∙ records_behind_it r rest so_far.answered in
      let sum : earlier + refused_count (records_of r) + refused_count (records_of rest) ≡ earlier + refused_count (records_of r ++ records_of rest) =
      omega (arith, counts_joined (records_of r) (records_of rest)) in
      record {
        lines =
            ap (records_lines ids) records ∙ rows_joined ids (records_of r) (records_of rest)
            ∙ ap (λ (l : List ℕ). lines_read ids r ++ l) (whole.lines ∙ ap (λ (l : List ℕ). l ++ rows) (sym rowed.rows));
        counted =
            whole.counted
            ∙ ap (λ (n : ℕ). capped (n + refused_count (records_of rest))) so_far.counted
            ∙ capped_again (earlier + refused_count (records_of r)) (refused_count (records_of rest))
            ∙ ap capped sum
            ∙ ap (λ (rs : List Record). capped (earlier + refused_count rs)) (sym records);
        told = whole.told ∙ sym (ap end_of same ∙ ends_behind_it r rest so_far.answered);
      }

pub refused_export : RefusedExport
refused_export front pieces refusal e long =
    let whole = front ++ joined pieces in
    let refused : opened_of whole ≡ Err refusal = opened_within front pieces long ∙ e in
    record { table = sym (header_alone whole refused); count = sym (none_refused whole refused); told = sym (refusal_kept whole refused) }

pub windows_export : WindowsExport
windows_export head put refused final front text window after moved rows pieces ending last e long filled done turns =
    let capture = front ++ joined pieces in
    let ids_there = ids_in front in
    let r = read head.version head.boards (drop head.records front) in
    let same : opened_of capture ≡ Ok head = opened_within front pieces long ∙ e in
    let rowed = rows_of ids_there head.version head.boards (ap (drop head.records) filled) done in
    let whole = turns_told ids_there head.version head.boards turns r 0 rowed.tells in
    let all_read : read head.version head.boards (drop head.records capture) ≡ resumed_by head.version head.boards r pieces =
    ap (read head.version head.boards) (records_behind front (joined pieces) e) ∙ resumed_by_lem head.version head.boards (drop head.records front) pieces in
    let found = records_same capture same ∙ ap records_of all_read in
    let none_before : 0 + refused_count (records_of (resumed_by head.version head.boards r pieces)) ≡ refused_count (records_of (resumed_by head.version head.boards r pieces)) = omega arith in
    record {
      table =
          ap (λ (l : List ℕ). header_line ++ l)
          (ap (λ (l : List ℕ). l ++ rows) rowed.rows ∙ sym whole.lines
          ∙ λ i. records_lines (sym (ids_within front pieces long) i) (sym found i));
      count = whole.counted ∙ ap capped none_before ∙ ap (λ (rs : List Record). capped (refused_count rs)) (sym found);
      told = ap refusal_at_end (whole.told ∙ ap end_of (sym all_read)) ∙ sym (refusal_same capture same);
    }
