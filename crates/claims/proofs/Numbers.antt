-- Which refusals a list of rules gives, by their numbers.
use Prim.Native.Nat.{ℕ}
use mathlib.Core.Bool.{Bool, true, false, cond}
use mathlib.Core.List.{List, [], ◌∷◌}
use mathlib.Core.Option.{some}
use mathlib.Core.Path.{◌≡◌}
use Rattle.octets.proofs.Booleans.{both_true}
use Rattle.refusals.specs.Refusals.{number_of}
use Rattle.refusals.specs.declared.Refusal.{Refusal}
use Rattle.framing.specs.Refusal.{Rule, first_refusal}
use Rattle.block.specs.Encoding.{every}

-- a test that the number of each refusal of a list passes, that of the refusal given passes
pub number_passes :
    {A : Type 0} (test : ℕ → Bool) (rows : List (Rule A)) (asked : A) {refusal : Refusal}
    → every (λ (row : Rule A). test (number_of row.refusal)) rows ≡ true → first_refusal rows asked ≡ some refusal → test (number_of refusal) ≡ true
unfolding every first_refusal
number_passes test [] asked h e = absurd cc
number_passes {A} test (row ∷ rows) asked {refusal} h e =
    let both = both_true (test (number_of row.refusal)) (every (λ (r : Rule A). test (number_of r.refusal)) rows) h in
    by_row (row.applies asked) both.0 (number_passes test rows asked both.1) e
  where
    by_row :
        (applies : Bool) → test (number_of row.refusal) ≡ true → (first_refusal rows asked ≡ some refusal → test (number_of refusal) ≡ true)
        → cond applies (some row.refusal) (first_refusal rows asked) ≡ some refusal → test (number_of refusal) ≡ true
    by_row true passes later k = let same : row.refusal ≡ refusal = cc in rw (← same) passes
    by_row false passes later k = later k
