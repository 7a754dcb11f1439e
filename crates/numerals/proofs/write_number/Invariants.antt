use Rattle.numerals.proofs.Decimals.{Digits}
use Rattle.numerals.proofs.write_number.Given as goal

abbrev pub invariant-loop-rest : goal.invariant-loop-rest
invariant-loop-rest l = Digits l.number l.end l.initial.bytes l.rest l.at l.bytes

abbrev pub decreases-loop-rest : goal.decreases-loop-rest
decreases-loop-rest l = l.rest
