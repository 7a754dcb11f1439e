use lib.ListN.{length}
use Rattle.captures.specs.Reading.{read}
use Rattle.exporting.proofs.Steps.{PutSoFar}
use Rattle.exporting.proofs.Source.put.Given as goal

abbrev pub invariant-loop-index : goal.invariant-loop-index
invariant-loop-index l = PutSoFar l.self.ids.now (read l.self.version l.self.boards l.self.records.now) l.initial.text l.at l.earlier l.text l.end l.refused (read l.self.version l.self.boards l.rest)

abbrev pub decreases-loop-index : goal.decreases-loop-index
decreases-loop-index l = length l.rest
