use Rattle.std.proofs.Common.{rules}
use Rattle.block.specs.Command.{unknown}
use Rattle.commands.proofs.Drafts.{added, not_added}
use Rattle.commands.proofs.draft.Draft.add_unknown.Goals as goal

pub returns-in_err-self : goal.returns-in_err-self
returns-in_err-self c = not_added c.args.self.now (unknown c.args.page c.args.low) c.write_unknown.ensures c.in_err-self.was (search rules)

pub returns : goal.returns
returns c = added c.args.self.now (unknown c.args.page c.args.low) c.write_unknown.ensures c.in_ok-self.was
