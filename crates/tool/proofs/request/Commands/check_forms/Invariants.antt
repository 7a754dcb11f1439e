use mathlib.Core.Path.{◌≡◌}
use Rattle.block.specs.Encoding.{every, encodable_command}
use Rattle.tool.specs.Given.{list_of}
use Rattle.tool.proofs.CommandLists.{list_from}
use Rattle.tool.proofs.request.Commands.check_forms.Given as goal

abbrev pub invariant-loop-i : goal.invariant-loop-i
invariant-loop-i l =
    every encodable_command (list_of l.self) ≡ every encodable_command (list_from l.self.functions.now l.self.numbers.now l.self.lengths.now l.left l.i)
