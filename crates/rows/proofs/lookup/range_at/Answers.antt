use mathlib.Core.Path.{◌∙◌}
use Rattle.rows.specs.Columns.{range_of}
use Rattle.rows.specs.Rows.{Row, rows}
use Rattle.rows.proofs.Tables.{column}
use Rattle.rows.proofs.lookup.range_at.Goals as goal

pub returns : goal.returns
unfolding rows
returns c =
    let index = c.args.index in
    rw (
      c.from.ensures ∙ c.entry_at.ensures ∙ column (λ (r : Row). (range_of r.set).extra) index,
      c.from-2.ensures ∙ c.entry_at-2.ensures ∙ column (λ (r : Row). (range_of r.set).low) index,
      c.entry_at-3.ensures ∙ column (λ (r : Row). (range_of r.set).high) index,
      c.from-3.ensures ∙ c.entry_at-4.ensures ∙ column (λ (r : Row). (range_of r.set).step) index,
    )
