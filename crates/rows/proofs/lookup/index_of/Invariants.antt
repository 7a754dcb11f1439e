use mathlib.Core.Path.{◌≡◌}
use Prim.Native.Nat.{◌+◌}
use Rattle.rows.specs.Rows.{index_of}
use Rattle.rows.proofs.Tables.{index_from}
use Rattle.rows.proofs.lookup.index_of.Given as goal

abbrev pub invariant-loop-index : goal.invariant-loop-index
invariant-loop-index l = index_of l.unit l.number ≡ l.index + index_from l.unit l.number l.index
