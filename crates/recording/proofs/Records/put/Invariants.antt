use Rattle.captures.specs.Form.{newest, records_bytes}
use Rattle.captures.proofs.Buffers.{PutFrom}
use Rattle.captures.proofs.Lists.{list_from}
use Rattle.recording.specs.Given.{list_of}
use Rattle.recording.proofs.Records.put.Given as goal

abbrev pub invariant-loop-i : goal.invariant-loop-i
invariant-loop-i l =
    PutFrom l.initial.buffer l.at (records_bytes newest (list_of l.self)) l.buffer l.place
    (records_bytes newest (list_from l.self.indexes.now l.self.directions.now l.self.counters.now l.self.lengths.now l.left l.i))
