use Rattle.std.proofs.lemmas.Result.{err_from_is_err_and}
use Rattle.framing.proofs.Answers.{read_concludes}
use Rattle.framing.proofs.Refusals.{passed}
use Rattle.tool.specs.Response.{read_call}
use Rattle.tool.proofs.Refusals.{response_unread, response_read}
use Rattle.tool.proofs.response.read.Goals as goal

pub returns-in_err-places : goal.returns-in_err-places
returns-in_err-places c =
    let call = read_call c.args.packet.now c.args.id.now c.args.password.now in
    let p = err_from_is_err_and c.from_residual.result c.from_residual.ensures.1 in
    rw (p.1, p.2, response_unread call (passed _ c.check_id.ensures c.in-Passed.is) (passed _ c.check_password.ensures c.in-Passed-check_password.is) c.read.ensures c.in_err-places.was)

pub read_frame-requires : goal.read_frame-requires
read_frame-requires c = (read_concludes c.args.packet.now _ c.read.ensures).read c.in_ok-places.was

pub returns : goal.returns
returns c =
    let call = read_call c.args.packet.now c.args.id.now c.args.password.now in
    rw (response_read call (passed _ c.check_id.ensures c.in-Passed.is) (passed _ c.check_password.ensures c.in-Passed-check_password.is) c.read.ensures c.in_ok-places.was)
    c.read_frame.ensures
