use mathlib.Core.Path.{◌∙◌}
use Rattle.rows.specs.Layout.{size_of}
use Rattle.rows.specs.Rows.{Row, rows}
use Rattle.rows.proofs.Tables.{column}
use Rattle.rows.proofs.lookup.size_at.Goals as goal

pub returns : goal.returns
unfolding rows
returns c = c.from.ensures ∙ c.entry_at.ensures ∙ column (λ (r : Row). size_of r.set) c.args.index
