use mathlib.Core.Path.{◌≡◌}
use lib.ListN.{length}
use Rattle.captures.specs.Reading.{read}
use Rattle.exporting.specs.Text.{room_after}
use Rattle.exporting.proofs.Steps.{lines_read}
use Rattle.exporting.proofs.Source.fit.Given as goal

abbrev pub invariant-loop-index : goal.invariant-loop-index
invariant-loop-index l = room_after l.room (lines_read l.self.ids.now (read l.self.version l.self.boards l.self.records.now)) ≡ room_after l.left (lines_read l.self.ids.now (read l.self.version l.self.boards l.rest))

abbrev pub decreases-loop-index : goal.decreases-loop-index
decreases-loop-index l = length l.rest
