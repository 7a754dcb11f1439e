use Prim.Native.Nat.{ℕ, ◌+◌, ◌≤◌}
use native.Mathlib.Omega.{arith}
use mathlib.Core.List.{List, []}
use mathlib.Core.Path.{◌≡◌, ap, sym, ◌∙◌}
use borrow.Author.Tests.{ne_eqb}
use lib.ListN.{length, drop, drop_of_length-le}
use Rattle.octets.specs.Octets.{sum}
use Rattle.octets.proofs.Sums.{sum_drop, balanced}
use Rattle.octets.proofs.adds_up.Goals as goal

pub returns-then-left-length : goal.returns-then-left-length
returns-then-left-length c = let start = c.args in
    let at = c.loop-length in
    let long : sum (start.lengths.now) ≡ start.total → ⊥ =
    λ (e : sum (start.lengths.now) ≡ start.total). omega (arith, sum_drop (start.lengths.now) at.length-index (omega arith)) in
    sym (ne_eqb _ _ long)

pub loop-length-preserved : goal.loop-length-preserved
loop-length-preserved c = let start = c.args in
    let at = c.loop-length in
    omega (arith, sum_drop start.lengths.now at.length-index (omega arith))

pub returns : goal.returns
unfolding sum
returns c = let start = c.args in
    let at = c.loop-length in
    let ends : length start.lengths.now ≤ at.length-index = omega arith in
    let none_left : drop at.length-index start.lengths.now ≡ [] = drop_of_length-le start.lengths.now ends in
    balanced at.left (sum start.lengths.now) start.total (at.invariant ∙ ap (λ (rest : List ℕ). start.total + sum rest) none_left)
