use Rattle.std.proofs.Common.{length}
use Rattle.captures.specs.Reading.{read}
use Rattle.captures.proofs.Buffers.{PutFrom}
use Rattle.rewriting.specs.Rewriting.{records_read, reading_given}
use Rattle.rewriting.proofs.Records.put.Given as goal

abbrev pub invariant-loop-index : goal.invariant-loop-index
invariant-loop-index l = PutFrom l.initial.buffer l.at (records_read (reading_given l.self)) l.buffer l.place (records_read (read l.self.version l.self.boards l.rest))

abbrev pub decreases-loop-index : goal.decreases-loop-index
decreases-loop-index l = length l.rest
