use Rattle.std.proofs.Common.{sym, arith}
use Rattle.framing.specs.Refusal.{first_refusal}
use Rattle.captures.specs.Form.{newest}
use Rattle.captures.specs.Writing.{record_call_refusals}
use Rattle.captures.proofs.Buffers.{written_as, put}
use Rattle.captures.proofs.Lists.{length_record}
use Rattle.std.proofs.lemmas.Grind.{common_steps}
use Rattle.recording.proofs.write_record.Goals as goal

pub returns : goal.returns
unfolding record_call_refusals first_refusal
returns c =
    let told = put c.put.ensures c.if-not-put.false in
    written_as (grind (arith, common_steps, told.0)) (sym (length_record newest _)) told.1
