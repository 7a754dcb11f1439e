use Rattle.std.proofs.lemmas.Result.{err_from_is_err_and}
use Rattle.framing.proofs.Answers.{read_concludes}
use Rattle.tool.proofs.Refusals.{kind_unread, kind_read}
use Rattle.tool.proofs.kinds.read_any.Goals as goal

pub returns-in_err-places : goal.returns-in_err-places
returns-in_err-places g c =
    let kind = g.K.Kind in
    let p = err_from_is_err_and c.from_residual.result c.from_residual.ensures.1 in
    rw (p.1, p.2, kind_unread kind.wrong_function kind.wrong_block c.args.packet.now c.read.ensures c.in_err-places.was)

pub read_block-requires : goal.read_block-requires
read_block-requires g c = (read_concludes c.args.packet.now _ c.read.ensures).read c.in_ok-places.was

pub returns : goal.returns
returns g c =
    let kind = g.K.Kind in
    rw (kind_read kind.wrong_function kind.wrong_block c.args.packet.now c.read.ensures c.in_ok-places.was) c.read_block.ensures
