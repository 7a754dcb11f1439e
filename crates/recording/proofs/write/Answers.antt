-- `recording::write` meets its contract.
use Rattle.std.proofs.Common.{arith}
use Rattle.std.proofs.lemmas.Grind.{common_steps}
use Rattle.framing.specs.Refusal.{first_refusal}
use Rattle.captures.specs.Writing.{write_refusal, write_refusals}
use Rattle.captures.proofs.Buffers.{written_as}
use Rattle.captures.proofs.Parts.{records_fit, all_put}
use Rattle.recording.proofs.write.Goals as goal

pub put-requires-clause-records_in_bounds : goal.put-requires-clause-records_in_bounds
put-requires-clause-records_in_bounds c = records_fit c.args.buffer.now c.args.ids.now _ (grind (arith, common_steps)) c.put_head.ensures

pub returns : goal.returns
unfolding write_refusal write_refusals first_refusal
returns c =
    let told = all_put c.args.buffer.now c.args.ids.now _ (grind (arith, common_steps)) c.put_head.ensures c.put.ensures.value c.put.ensures.buffer_after in
    written_as (grind (arith, common_steps)) told.0 told.1
