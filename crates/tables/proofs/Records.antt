-- Which rows a record has, and what is counted.
use Prim.Native.Nat.{ℕ, ◌*◌}
use native.Mathlib.Omega.{arith}
use mathlib.Core.Bool.{true, cond}
use mathlib.Core.List.{List, [], ◌∷◌, ◌++◌, map, append_assoc, append-nil}
use mathlib.Core.Option.{none, some}
use mathlib.Core.Path.{◌≡◌, refl, sym, ap, ◌∙◌}
use borrow.Author.Tests.{eqb-true}
use lib.ListN.{take, drop}
use Rattle.block.specs.Command.{Report}
use Rattle.captures.specs.Form.{Record}
use Rattle.tool.specs.Response.{any_response_refusal, reports_of}
use Rattle.tables.specs.Rows.{row_of}
use Rattle.tables.specs.Exporting.{is_response, is_refused, id_of, record_rows, rows_from, refused_count}
use Rattle.tables.specs.Statements.{RecordsExported, RowsJoin}

module _ (ids : List ℕ) (r : Record) where
  -- of one record
  rows_alone : rows_from ids (r ∷ []) ≡ record_rows ids r
  unfolding rows_from
  rows_alone = append-nil (record_rows ids r)

  counted_alone : refused_count (r ∷ []) ≡ cond (is_refused r) 1 0
  unfolding refused_count
  counted_alone = omega arith

  given :
      (reports : List Report) → is_response r ≡ true → any_response_refusal r.packet ≡ none → reports_of r.packet ≡ some reports
      → record_rows ids r ≡ map (row_of (take 16 (drop (16 * r.index) ids)) 1 r.counter) reports
  given reports response accepted found =
      rw (response, accepted, found) (ap (λ (direction : ℕ). map (row_of (id_of ids r.index) direction r.counter) reports) (eqb-true r.direction 1 response))

pub records_exported : RecordsExported
records_exported ids r =
    record {
      request = λ e. (rows_alone ids r ∙ rw e refl, counted_alone ids r ∙ rw e refl);
      refused = λ refusal e f. (rows_alone ids r ∙ rw (e, f) refl, counted_alone ids r ∙ rw (e, f) refl);
      accepted = λ reports e f g. (rows_alone ids r ∙ given ids r reports e f g, counted_alone ids r ∙ rw (e, f) refl);
    }

pub rows_join : RowsJoin
unfolding rows_from refused_count
rows_join ids [] second = (refl, omega arith)
rows_join ids (r ∷ rs) second =
    let rest = rows_join ids rs second in (
      ap (λ rows. record_rows ids r ++ rows) rest.0 ∙ sym (append_assoc (record_rows ids r) (rows_from ids rs) (rows_from ids second)),
      omega (arith, rest.1),
    )
