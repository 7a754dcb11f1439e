use Rattle.std.proofs.Common.{◌≡◌, length}
use Rattle.captures.specs.Reading.{read}
use Rattle.rewriting.specs.Rewriting.{reading_given, fitted}
use Rattle.rewriting.proofs.Records.fit.Given as goal

abbrev pub invariant-loop-packet : goal.invariant-loop-packet
invariant-loop-packet l = fitted l.room (reading_given l.self) ≡ fitted l.left (read l.self.version l.self.boards l.rest)

abbrev pub decreases-loop-packet : goal.decreases-loop-packet
decreases-loop-packet l = length l.rest
