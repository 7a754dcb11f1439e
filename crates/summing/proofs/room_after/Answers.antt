use native.Mathlib.Omega.{arith}
use mathlib.Core.Path.{ap, ◌∙◌}
use lib.ListN.{length}
use Rattle.summing.proofs.Lines.{room_first, room_none, room_left}
use Rattle.summing.proofs.room_after.Goals as goal

pub loop-place-init : goal.loop-place-init
loop-place-init c = room_first c.args.room c.args.counts.now

pub returns : goal.returns
returns c = room_left c.args.room c.args.counts.now c.loop-place.invariant (omega arith)

pub returns-in_err-left : goal.returns-in_err-left
returns-in_err-left c =
    let v = c.loop-place in
    let start = c.args in
    let size = ap length (c.text.ensures ∙ c.line_at-line.ensures.held) in
    c.from_residual.ensures ∙ room_none start.room start.counts.now v.invariant c.loop-place-test.true (omega (arith, c.in_err-left.ensures))
