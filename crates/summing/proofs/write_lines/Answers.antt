use native.Mathlib.Omega.{arith}
use mathlib.Core.Path.{◌∙◌}
use Rattle.summing.proofs.Lines.{written_none, written_more, written_all}
use Rattle.summing.proofs.write_lines.Goals as goal

pub loop-place-init : goal.loop-place-init
loop-place-init c = written_none c.args.text.now c.args.counts.now

pub loop-place-preserved : goal.loop-place-preserved
loop-place-preserved c =
    let v = c.loop-place in
    let line = c.text-bytes.ensures ∙ c.line_at-line.ensures.held in
    rw line (written_more c.args.text.now c.args.counts.now v.invariant c.requires (omega arith) (rw line at c.overwrite.ensures))

pub returns : goal.returns
returns c = written_all c.args.text.now c.args.counts.now c.loop-place.invariant (omega arith)
