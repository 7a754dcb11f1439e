use Rattle.summing.proofs.Lines.{Written}
use Rattle.summing.proofs.write_lines.Given as goal

abbrev pub invariant-loop-place : goal.invariant-loop-place
invariant-loop-place l = Written l.initial.text l.counts l.text l.at l.place
