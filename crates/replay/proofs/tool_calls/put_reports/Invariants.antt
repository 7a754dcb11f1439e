use lib.ListN.{length}
use Rattle.replay.proofs.tool_calls.put_reports.Given as goal

-- each report leaves less of the block
abbrev pub decreases-loop-next_page : goal.decreases-loop-next_page
decreases-loop-next_page l = length l.left
