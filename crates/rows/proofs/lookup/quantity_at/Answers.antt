use mathlib.Core.Path.{ap, ◌∙◌}
use Rattle.rows.specs.Columns.{quantity_number, quantity_of}
use Rattle.rows.specs.Rows.{Row, rows, row_at}
use Rattle.rows.proofs.Quantities.{quantity_back}
use Rattle.rows.proofs.Tables.{column}
use Rattle.rows.proofs.lookup.quantity_at.Goals as goal

pub returns : goal.returns
unfolding rows
returns c =
    let index = c.args.index in
    c.quantity_of.ensures
    ∙ ap quantity_of (c.entry_at.ensures ∙ column (λ (r : Row). quantity_number r.quantity) index)
    ∙ quantity_back (row_at index).quantity
