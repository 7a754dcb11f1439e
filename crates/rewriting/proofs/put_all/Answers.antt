use Rattle.captures.proofs.Parts.{records_fit, all_put}
use Rattle.rewriting.proofs.put_all.Goals as goal

pub put-requires : goal.put-requires
put-requires c = records_fit c.args.buffer.now c.args.ids.now _ c.requires c.put_head.ensures

pub returns : goal.returns
returns c =
    let told = all_put c.args.buffer.now c.args.ids.now _ c.requires c.put_head.ensures c.put.ensures.value c.put.ensures.buffer_after in
    record { value = told.0; buffer_after = told.1 }
