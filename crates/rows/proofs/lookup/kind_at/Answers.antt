use mathlib.Core.Path.{ap, ◌∙◌}
use Rattle.rows.specs.Columns.{kind_of, kind_number, kind_from}
use Rattle.rows.specs.Layout.{set_at}
use Rattle.rows.specs.Rows.{Row, rows}
use Rattle.rows.proofs.SetColumns.{kind_back}
use Rattle.rows.proofs.Tables.{column}
use Rattle.rows.proofs.lookup.kind_at.Goals as goal

pub returns : goal.returns
unfolding rows
returns c =
    let index = c.args.index in
    c.kind_of.ensures
    ∙ ap kind_from (c.entry_at.ensures ∙ column (λ (r : Row). kind_number (kind_of r.set)) index)
    ∙ kind_back (kind_of (set_at index))
