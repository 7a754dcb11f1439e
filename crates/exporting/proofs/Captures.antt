-- The export of a capture, by the answer of `open`.
use Prim.Native.Nat.{ℕ, ◌*◌}
use mathlib.Core.List.{List, [], ◌++◌, append-nil}
use mathlib.Core.Bool.{Bool, true, false, cond}
use mathlib.Core.Option.{none, some}
use mathlib.Core.Path.{◌≡◌, refl, sym, ap, ◌∙◌}
use lib.ListN.{take, drop}
use Rattle.captures.specs.Form.{Record}
use Rattle.captures.specs.Reading.{version_of, Reading, read, records_of, wrong_record, ids_in, records_as, records_in, opened_of}
use Rattle.captures.specs.Statements.{refusal_told}
use Rattle.captures.specs.declared.reading.Head.{Head}
use Rattle.std.specs.Prelude.{Option, Some, None, Ok, Err}
use Rattle.refusals.specs.declared.Refusal.{Refusal}
use Rattle.refusals.specs.declared.Refusal.TheVariants.{WrongRecord}
use Rattle.framing.specs.Refusal.{in_code}
use Rattle.captures.proofs.Opening.{head_refused, records_same}
use Rattle.captures.proofs.Rewriting.{ids_same}
use Rattle.captures.proofs.Told.{refusals_told}
use Rattle.counts.specs.Counting.{end_of, refusal_at_end}
use Rattle.counts.proofs.Numbers.{ending_told}
use Rattle.tables.specs.Rows.{header_line, row_lines}
use Rattle.tables.specs.Exporting.{rows_from, refused_count, export_of, refused_in, capture_told}
use Rattle.exporting.specs.Text.{records_lines}
use Rattle.exporting.specs.Exporting.{capped, ExportsTable, ExportsRecords, Exports}
use Rattle.exporting.specs.declared.Exported.{Exported}
use Rattle.exporting.proofs.Tables.{exports_same}

-- the refusal of records, as the code has it
told_by : (wrong : Bool) → in_code (cond wrong (some WrongRecord) none) ≡ cond wrong (Some WrongRecord) None
told_by true = refl
told_by false = refl

module _ (capture : List ℕ) where
  -- a refused head
  module _ {refusal : Refusal} (e : opened_of capture ≡ Err refusal) where
    no_records : records_in capture ≡ []
    no_records = ap (λ o. records_as (version_of capture) o capture) (head_refused capture e)

    pub header_alone : export_of capture ≡ header_line
    unfolding rows_from row_lines
    header_alone = ap (λ (rs : List Record). header_line ++ records_lines (ids_in capture) rs) no_records ∙ append-nil header_line

    pub none_refused : capped (refused_in capture) ≡ 0
    unfolding refused_count
    none_refused = ap (λ (rs : List Record). capped (refused_count rs)) no_records

    pub refusal_kept : capture_told capture ≡ Some refusal
    refusal_kept = ap in_code (refusals_told.by_head capture ∙ ap (refusal_told capture) e)

    pub refused_exports :
        {buffer after : List ℕ} {answer : Option Exported} → ExportsTable header_line 0 (Some refusal) buffer answer after → Exports buffer capture answer after
    refused_exports = exports_same header_alone none_refused refusal_kept

  -- an accepted head, and the records after it
  module _ {head : Head} (e : opened_of capture ≡ Ok head) where
    abbrev told : Reading
    told = read head.version head.boards (drop head.records capture)

    pub table_same : {size : ℕ} → size ≡ 16 * head.boards → export_of capture ≡ header_line ++ records_lines (take size (drop head.ids capture)) (records_of told)
    table_same sized =
        λ i. header_line ++ records_lines (sym (ap (λ (n : ℕ). take n (drop head.ids capture)) sized ∙ ids_same capture e) i) (records_same capture e i)

    pub count_same : refused_in capture ≡ refused_count (records_of told)
    count_same = ap refused_count (records_same capture e)

    pub refusal_same : capture_told capture ≡ refusal_at_end (end_of told)
    refusal_same = ap in_code (refusals_told.by_head capture ∙ ap (refusal_told capture) e) ∙ told_by (wrong_record told) ∙ sym (ending_told told)

    pub capture_exports :
        {size : ℕ} {found bytes buffer after : List ℕ} {answer : Option Exported} → size ≡ 16 * head.boards → found ≡ take size (drop head.ids capture)
        → bytes ≡ drop head.records capture → ExportsRecords found (read head.version head.boards bytes) buffer answer after → Exports buffer capture answer after
    capture_exports sized board_ids at done =
        let same : read head.version head.boards (drop head.records capture) ≡ read head.version head.boards _ = ap (read head.version head.boards) (sym at) in
        exports_same
        (table_same sized ∙ λ i. header_line ++ records_lines (sym board_ids i) (records_of (same i)))
        (ap capped (count_same ∙ ap (λ (r : Reading). refused_count (records_of r)) same))
        (refusal_same ∙ ap (λ (r : Reading). refusal_at_end (end_of r)) same)
        done
