use lib.ListN.{length}
use Rattle.counts.proofs.Counted.{Same}
use Rattle.counts.proofs.counting.count.Given as goal

abbrev pub invariant-loop-index : goal.invariant-loop-index
invariant-loop-index l = Same l.version l.boards l.bytes l.initial.counts l.rest l.counts

abbrev pub decreases-loop-index : goal.decreases-loop-index
decreases-loop-index l = length l.rest
