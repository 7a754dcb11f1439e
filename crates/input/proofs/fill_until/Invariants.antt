use Rattle.std.proofs.Common.{◌≡◌, ◌≤◌, ◌-◌, length}
use Rattle.input.proofs.fill_until.Given as goal

abbrev pub invariant-loop-held : goal.invariant-loop-held
invariant-loop-held g l = (length l.window ≡ length l.initial.window) × (l.held ≤ length l.initial.window)

abbrev pub decreases-loop-held : goal.decreases-loop-held
decreases-loop-held g l = l.wanted - l.held
