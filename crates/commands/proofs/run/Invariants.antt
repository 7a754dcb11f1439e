use mathlib.Core.Path.{◌≡◌}
use lib.ListN.{length}
use Rattle.block.specs.Request.{commands_from}
use Rattle.commands.specs.Draft.{run_from, run_block}
use Rattle.commands.proofs.Turns.{Settled}
use Rattle.commands.proofs.run.Given as goal

abbrev pub invariant-loop-draft : goal.invariant-loop-draft
invariant-loop-draft l = Settled l.draft
    × (run_from l.scope l.held l.draft (commands_from l.page l.in_force l.rest) ≡ run_block l.scope l.fn.parameters l.function l.bytes)

abbrev pub decreases-loop-draft : goal.decreases-loop-draft
decreases-loop-draft l = length l.rest
