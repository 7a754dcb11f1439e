use mathlib.Core.Path.{◌≡◌}
use lib.ListN.{length}
use Rattle.block.specs.Reading.{whole, is_some}
use Rattle.block.specs.Request.{items}
use Rattle.block.proofs.request.well_formed_within.Given as goal

-- the length of what is left.
abbrev pub invariant-loop-read : goal.invariant-loop-read
invariant-loop-read l = is_some (whole (items l.highest l.page l.in_force l.left 0)) ≡ is_some (whole (items l.highest 0 l.function l.block 0))

abbrev pub decreases-loop-read : goal.decreases-loop-read
decreases-loop-read l = length l.left
