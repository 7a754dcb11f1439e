use mathlib.Core.Path.{sym, ap, ◌∙◌}
use Rattle.std.specs.Prelude.{Option, ok_or}
use Rattle.refusals.specs.declared.Refusal.TheVariants.{BadField}
use Rattle.importing.specs.declared.forms.RowFields.{RowFields}
use Rattle.importing.proofs.NextRows.{row_count, row_formed, row_bounded}
use Rattle.importing.proofs.reading.read_row.Goals as goal

pub returns-then-count-ne-FIELDS-clause-value : goal.returns-then-count-ne-FIELDS-clause-value
returns-then-count-ne-FIELDS-clause-value c =
    sym (row_count c.args.line.now (sym c.count_fields.ensures ∙ c.in_ok-count.ensures.ok_part) c.if-count-ne-FIELDS.true)

pub returns : goal.returns
returns c =
    let line = c.args.line.now in
    let read =
    c.ok_or-2.ensures.value
    ∙ ap (λ (o : Option RowFields). ok_or o BadField) c.read_fields.ensures
    ∙ row_formed line (sym c.count_fields.ensures ∙ c.in_ok-count.ensures.ok_part) c.if-count-ne-FIELDS.false in
    record { value = read; value_in_bounds = row_bounded line read }
