use Rattle.std.proofs.Common.{arith}
use Rattle.std.proofs.lemmas.Grind.{common_steps}
use Rattle.rewriting.proofs.Steps.{fitted_step}
use Rattle.rewriting.proofs.Records.fit.Goals as goal

pub loop-packet-preserved : goal.loop-packet-preserved
loop-packet-preserved c = grind (arith, common_steps, fitted_step c.args.self.now.version c.args.self.now.boards c.loop-packet.rest.now c.loop-packet.left)
