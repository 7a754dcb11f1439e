use Rattle.std.proofs.Common.{◌≡◌, ◌+◌, length, take}
use Rattle.encoding.specs.Writing.{joined}
use Rattle.encoding.proofs.fit.Given as goal

abbrev pub invariant-loop-part : goal.invariant-loop-part
invariant-loop-part l = l.room + length (joined (take l.part-index l.parts)) ≡ l.initial.room
