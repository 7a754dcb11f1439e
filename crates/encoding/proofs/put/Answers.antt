use native.Mathlib.Numerals.{add-one}
use Rattle.std.proofs.Common.{arith}
use lib.Seq.{paste-suc}
use Rattle.encoding.proofs.put.Goals as goal

pub loop-i-preserved : goal.loop-i-preserved
loop-i-preserved c =
    rw (c.loop-i.invariant, paste-suc c.args.buffer.now c.args.at c.args.part.now c.loop-i.i 0 (omega arith) (omega arith), add-one)
