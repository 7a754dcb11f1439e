use lib.ListN.{length}
use Rattle.tool.specs.Given.{list_of}
use Rattle.tool.proofs.Blocks.{Progress}
use Rattle.tool.proofs.CommandLists.{list_from}
use Rattle.tool.proofs.request.Commands.write_block.Given as goal

abbrev pub invariant-loop-i : goal.invariant-loop-i
invariant-loop-i l =
    Progress (list_of l.self) (list_from l.self.functions.now l.self.numbers.now l.self.lengths.now l.left l.i) (length l.initial.block) l.block l.at l.page l.function
