use Prim.Native.Nat.{◌-◌}
use mathlib.Core.Path.{◌≡◌}
use Rattle.rows.specs.Sets.{in_range, least_above, first_after}
use Rattle.rows.proofs.Range.least_above.Given as goal

abbrev pub invariant-loop-below : goal.invariant-loop-below
invariant-loop-below l = least_above l.self l.number ≡ first_after (in_range l.self) l.below (l.below-end - l.below)
