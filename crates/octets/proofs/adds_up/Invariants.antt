use Prim.Native.Nat.{◌+◌}
use mathlib.Core.Path.{◌≡◌}
use lib.ListN.{drop}
use Rattle.octets.specs.Octets.{sum}
use Rattle.octets.proofs.adds_up.Given as goal

-- `octets::adds_up` meets its contract.
abbrev pub invariant-loop-length : goal.invariant-loop-length
invariant-loop-length l = l.left + sum l.lengths ≡ l.total + sum (drop l.length-index l.lengths)
