use lib.ListN.{length}
use Rattle.replay.proofs.table_calls.put_rows.Given as goal

-- each row leaves fewer bytes
abbrev pub decreases-loop-at : goal.decreases-loop-at
decreases-loop-at l = length l.left
