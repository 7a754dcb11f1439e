use Rattle.std.proofs.Common.{◌≡◌}
use Rattle.captures.specs.Writing.{every_in_range}
use Rattle.captures.proofs.Lists.{list_from}
use Rattle.recording.specs.Given.{list_of}
use Rattle.recording.proofs.Records.check_fields.Given as goal

abbrev pub invariant-loop-i : goal.invariant-loop-i
invariant-loop-i l =
    every_in_range l.boards (list_of l.self)
    ≡ every_in_range l.boards (list_from l.self.indexes.now l.self.directions.now l.self.counters.now l.self.lengths.now l.left l.i)
