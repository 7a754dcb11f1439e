use Rattle.std.proofs.Common.{◌≤◌, length}
use Rattle.replay.proofs.lines.answer_lines.Given as goal

-- each line leaves fewer bytes
abbrev pub invariant-loop-end : goal.invariant-loop-end
invariant-loop-end l = length l.left ≤ length l.lines

abbrev pub decreases-loop-end : goal.decreases-loop-end
decreases-loop-end l = length l.left
