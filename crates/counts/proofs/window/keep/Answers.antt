-- `counts::window::keep` meets its contract.
use Rattle.counts.proofs.Moving.{none_last, last_moved}
use Rattle.counts.proofs.window.keep.Goals as goal

pub returns-then-until-left : goal.returns-then-until-left
returns-then-until-left c = rw c.in-Ok.is (none_last c.args.end c.args.window.now c.first_bytes-until.ensures c.if-until-left.true)

pub returns : goal.returns
returns c =
    rw c.in-Ok.is
    (last_moved c.args.end c.args.window.now c.first_bytes-until.ensures c.if-until-left.false c.copy_within.ensures.after)
