use lib.ListN.{length}
use Rattle.replay.proofs.capture_calls.put_records.Given as goal

-- each record leaves fewer bytes
abbrev pub decreases-loop-out : goal.decreases-loop-out
decreases-loop-out l = length l.left
