use mathlib.Core.Path.{ap, ◌∙◌}
use Rattle.std.specs.Prelude.{Ok}
use Rattle.tool.proofs.Lines.{line_next}
use Rattle.tool.proofs.listing.write_lines.Goals as goal

pub loop-line-preserved : goal.loop-line-preserved
loop-line-preserved c =
    rw c.part-left.ensures (line_next c.loop-line.invariant c.write_next.ensures (c.in_ok-line.was ∙ ap Ok c.in-Some.is)).0
