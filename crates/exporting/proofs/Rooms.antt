-- What is left of some room after a text.
use Prim.Native.Nat.{ℕ, ◌+◌, ◌-◌, ◌<◌}
use native.Mathlib.Omega.{arith}
use mathlib.Core.Bool.{Bool, true, false, cond}
use mathlib.Core.List.{List, [], ◌++◌}
use mathlib.Core.Path.{◌≡◌, refl, sym, ap, subst, ◌∙◌}
use borrow.Author.Tests.{le-leb, lt-leb, leb-true, leb-false}
use lib.Dec.{leb}
use lib.ListN.{length, length-append}
use Rattle.std.specs.Prelude.{Option, Some, None}
use Rattle.exporting.specs.Text.{room_after}

-- what the answer tells of the text's length
abbrev pub Tells : ℕ → ℕ → Option ℕ → Type 0
Tells space size (Some left) = size + left ≡ space
Tells space size None = space < size

module _ (space : ℕ) (text : List ℕ) where
  by_test : (t : Bool) → leb (length text) space ≡ t → Tells space (length text) (cond t (Some (space - length text)) None)
  by_test true e = omega (arith, leb-true (length text) space e)
  by_test false e = leb-false (length text) space e

  pub room_tells : {answer : Option ℕ} → room_after space text ≡ answer → Tells space (length text) answer
  room_tells e = subst (Tells space (length text)) e (by_test (leb (length text) space) refl)

pub none_after : (space : ℕ) {text : List ℕ} → text ≡ [] → Some space ≡ room_after space text
none_after space {text} e =
    let whole : space - 0 ≡ space = omega arith in
    ap Some (sym whole) ∙ sym (ap (room_after space) e ∙ rw (le-leb 0 space (omega arith)))

-- a text behind another
module _ (space : ℕ) (first second : List ℕ) where
  pub room_none : room_after space first ≡ None → None ≡ room_after space (first ++ second)
  room_none e = rw (lt-leb (length (first ++ second)) space (omega (arith, room_tells space first e, length-append first second)))

  pub room_on : {left : ℕ} → room_after space first ≡ Some left → room_after space (first ++ second) ≡ room_after left second
  room_on {left} e = by_rest (leb (length second) left) refl
    where
      both : length first + left ≡ space
      both = room_tells space first e

      by_rest : (t : Bool) → leb (length second) left ≡ t → room_after space (first ++ second) ≡ cond t (Some (left - length second)) None
      by_rest true h =
          let rest : space - length (first ++ second) ≡ left - length second = omega (arith, length-append first second, both) in
          rw (le-leb (length (first ++ second)) space (omega (arith, length-append first second, both, leb-true (length second) left h))) (ap Some rest)
      by_rest false h =
          rw (lt-leb (length (first ++ second)) space (omega (arith, length-append first second, both, leb-false (length second) left h)))
