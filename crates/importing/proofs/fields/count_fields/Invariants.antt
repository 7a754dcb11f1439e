-- The invariant: the count so far and what is left of the line decide the answer.
use Prim.Native.Nat.{◌+◌, ◌≤◌}
use mathlib.Core.Path.{◌≡◌}
use lib.ListN.{length}
use Rattle.tables.specs.Fields.{fields_of}
use Rattle.importing.specs.Splitting.{counted}
use Rattle.importing.proofs.fields.count_fields.Given as goal

abbrev pub invariant-loop-count : goal.invariant-loop-count
invariant-loop-count l = (l.count + length l.rest ≤ length l.line) × (counted 0 (fields_of l.line) ≡ counted l.count (fields_of l.rest))

abbrev pub decreases-loop-count : goal.decreases-loop-count
decreases-loop-count l = length l.rest
