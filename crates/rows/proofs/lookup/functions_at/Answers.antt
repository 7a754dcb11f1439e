use mathlib.Core.Path.{◌∙◌}
use Rattle.rows.specs.Rows.{Row, rows}
use Rattle.rows.proofs.Tables.{column}
use Rattle.rows.proofs.lookup.functions_at.Goals as goal

pub returns : goal.returns
unfolding rows
returns c = c.entry_at.ensures ∙ column (λ (r : Row). r.functions) c.args.index
