use mathlib.Core.Path.{◌≡◌}
use Rattle.rows.specs.Sets.{in_range, greatest_below, first_before}
use Rattle.rows.proofs.Range.greatest_below.Given as goal

abbrev pub invariant-loop-next : goal.invariant-loop-next
invariant-loop-next l = greatest_below l.self l.number ≡ first_before (in_range l.self) l.next
