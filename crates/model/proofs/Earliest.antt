-- The first refusal of a list of rules, and what it says of their conditions.
use mathlib.Core.Bool.{Bool, true, false, cond}
use mathlib.Core.List.{List, [], ◌∷◌}
use mathlib.Core.Option.{none, some}
use mathlib.Core.Path.{◌≡◌, refl, subst}
use Rattle.refusals.specs.declared.Refusal.{Refusal}
use Rattle.framing.specs.Refusal.{Rule, first_refusal}
use Rattle.framing.proofs.Refusals.{not_refused}
use Rattle.model.specs.Refusals.{Earliest, first, later, NoneApplies}

module _ {Asked : Type 0} where
  pub first_earliest : (rows : List (Rule Asked)) (asked : Asked) {refusal : Refusal} → first_refusal rows asked ≡ some refusal → Earliest rows asked refusal
  unfolding first_refusal
  first_earliest [] asked e = absurd cc
  first_earliest (row ∷ rows) asked {refusal} e = decided (row.applies asked) refl e (first_earliest rows asked)
    where
      decided :
          (applies : Bool) → row.applies asked ≡ applies → cond applies (some row.refusal) (first_refusal rows asked) ≡ some refusal
          → (first_refusal rows asked ≡ some refusal → Earliest rows asked refusal) → Earliest (row ∷ rows) asked refusal
      decided true h e after = subst (λ (r : Refusal). Earliest (row ∷ rows) asked r) (cc) (first h)
      decided false h e after = later h (after e)

  pub earliest_first : {rows : List (Rule Asked)} {asked : Asked} {refusal : Refusal} → Earliest rows asked refusal → first_refusal rows asked ≡ some refusal
  unfolding first_refusal
  earliest_first (first h) = rw h
  earliest_first (later h after) = rw (h, earliest_first after)

  pub none_first : (rows : List (Rule Asked)) (asked : Asked) → NoneApplies rows asked → first_refusal rows asked ≡ none
  unfolding first_refusal
  none_first [] asked h = refl
  none_first (row ∷ rows) asked h = rw (h.0, none_first rows asked h.1)

  pub first_none : (rows : List (Rule Asked)) (asked : Asked) → first_refusal rows asked ≡ none → NoneApplies rows asked
  unfolding first_refusal
  first_none [] asked e = tt
  first_none (row ∷ rows) asked e =
      let passed : (row.applies asked ≡ false) × (first_refusal rows asked ≡ none) = not_refused row rows asked e in
      (passed.0, first_none rows asked passed.1)
