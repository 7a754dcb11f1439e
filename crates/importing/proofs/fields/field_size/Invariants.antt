-- The invariant: the size of the field is that of what was passed, and of what is left of it.
use Rattle.std.proofs.Common.{◌≡◌, ◌+◌, ◌-◌, ◌≤◌, length}
use Rattle.importing.specs.Splitting.{field_size}
use Rattle.importing.proofs.fields.field_size.Given as goal

abbrev pub invariant-loop-first : goal.invariant-loop-first
invariant-loop-first l = (length l.left ≤ length l.bytes) × (field_size l.bytes ≡ length l.bytes - length l.left + field_size l.left)

abbrev pub decreases-loop-first : goal.decreases-loop-first
decreases-loop-first l = length l.left
