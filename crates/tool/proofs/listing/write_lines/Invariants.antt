use lib.ListN.{length}
use Rattle.tool.proofs.Lines.{LinesWritten}
use Rattle.tool.proofs.listing.write_lines.Given as goal

abbrev pub invariant-loop-line : goal.invariant-loop-line
invariant-loop-line l = LinesWritten l.block l.left l.page (length l.initial.text) l.text l.at

abbrev pub decreases-loop-line : goal.decreases-loop-line
decreases-loop-line l = length l.left
