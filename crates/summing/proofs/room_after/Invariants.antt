use Rattle.summing.proofs.Lines.{RoomLeft}
use Rattle.summing.proofs.room_after.Given as goal

abbrev pub invariant-loop-place : goal.invariant-loop-place
invariant-loop-place l = RoomLeft l.room l.counts l.left l.place
