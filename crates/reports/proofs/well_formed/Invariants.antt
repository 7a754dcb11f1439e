use mathlib.Core.Path.{◌≡◌}
use lib.ListN.{length}
use Rattle.block.specs.Reading.{is_some}
use Rattle.block.specs.Response.{reports_from, reports}
use Rattle.reports.proofs.well_formed.Given as goal

-- the length of what is left.
abbrev pub invariant-loop-next_page : goal.invariant-loop-next_page
invariant-loop-next_page l = is_some (reports_from l.page l.left) ≡ is_some (reports l.block)

abbrev pub decreases-loop-next_page : goal.decreases-loop-next_page
decreases-loop-next_page l = length l.left
