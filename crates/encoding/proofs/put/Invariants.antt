use Rattle.std.proofs.Common.{◌≡◌}
use lib.Seq.{paste}
use Rattle.encoding.proofs.put.Given as goal

-- the first bytes are in their places
abbrev pub invariant-loop-i : goal.invariant-loop-i
invariant-loop-i l = l.buffer ≡ paste l.initial.buffer l.at l.part l.i
