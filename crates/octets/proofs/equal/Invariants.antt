use mathlib.Core.Bool.{◌&&◌}
use mathlib.Core.Path.{◌≡◌}
use lib.ListN.{length}
use Rattle.std.specs.Iterator.Adapters.{zip_first, zip_second}
use Rattle.std.specs.Slice.Iter.{iter_rest}
use Rattle.octets.specs.Octets.{same}
use Rattle.octets.proofs.equal.Given as goal

-- `octets::equal` meets its contract. The invariant: what was seen and what is left decide the answer.
abbrev pub invariant-loop-one : goal.invariant-loop-one
invariant-loop-one l = let left = iter_rest (zip_first l.one-iterator) in
    let right = iter_rest (zip_second l.one-iterator) in
    (length left ≡ length right) × (same l.left l.right ≡ (l.equal && same left right))
