-- The commands that a call of `write` is given.
use Rattle.std.specs.Prelude.{Bool, List}
use Rattle.block.specs.Command.{Command}
use Rattle.tool.specs.CommandList.{command_list, describes_list, SideBySide}
use Rattle.tool.specs.declared.request.Commands.{Commands}

abbrev pub list_of : Commands → List Command
list_of c = command_list c.functions.now c.numbers.now c.lengths.now c.values.now

abbrev pub describes : Commands → Bool
describes c = describes_list c.functions.now c.numbers.now c.lengths.now c.values.now

abbrev pub StandSideBySide : Commands → Type 0
StandSideBySide c = SideBySide c.functions.now c.numbers.now c.lengths.now
