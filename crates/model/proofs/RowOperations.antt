-- What a command does to its row: the operation that its function stands for, and that it is what `CarriedOut` says.
use Prim.Native.Nat.{ℕ}
use native.Mathlib.Omega.{arith}
use mathlib.Core.Bool.{Bool, true, false, cond, not, ◌&&◌, ◌||◌}
use mathlib.Core.List.{List, [], ◌∷◌}
use mathlib.Core.Logic.{inl, inr, ⊎_elim}
use Rattle.std.specs.Prelude.{Option, None, Some}
use mathlib.Core.Path.{◌≡◌, refl, sym, ap, subst, ◌∙◌}
use borrow.Author.Tests.{eqb-true, not-true}
use lib.Dec.{leb, eqb}
use lib.ListN.{length, get_or}
use Rattle.octets.specs.Octets.{between}
use Rattle.block.specs.Command.{Command}
use Rattle.store.specs.Laws as laws
use Rattle.store.specs.Laws.{Operation, Write, Raise, Lower, new_value, after, Least, Greatest, held_number}
use Rattle.rows.specs.Layout.{set_at}
use Rattle.store.specs.Layout.{slot_of, value_of, from_slot}
use Rattle.store.specs.Operations.{inverts, inverse, stored as stored_in}
use Rattle.rows.specs.Rows.{Set, Switch, Number, Text, Free, Clock, Calendar, Time, Row, rows, index_of, allows, row_of}
use Rattle.rows.specs.Sets.{low_first_number, member}
use Rattle.store.specs.declared.Store.{Store}
use Rattle.rows.proofs.Bools.{tested}
use Rattle.store.proofs.Laws.{unit_kept, read_back, raise_least, lower_greatest}
use Rattle.rows.proofs.Found.{each_number}
use Rattle.model.specs.Changes.{Writing, CarriedOut}

-- what a command does to its row, if anything
abbrev pub operation_by : ℕ → List ℕ → Option Operation
operation_by function value =
    cond (eqb function 2 || eqb function 3) (Some (Write value)) (cond (eqb function 4) (Some Raise) (cond (eqb function 5) (Some Lower) None))

abbrev pub operation_of : Command → Option Operation
operation_of c = operation_by c.function c.value

-- by the function of a command
by_function :
    (P : Option Operation → Type 0) (f : ℕ) (v : List ℕ)
    → (f ≡ 2 → P (Some (Write v))) → (f ≡ 3 → P (Some (Write v))) → (f ≡ 4 → P (Some Raise)) → (f ≡ 5 → P (Some Lower)) → P None
    → P (operation_by f v)
by_function P f v two three four five other = by_tests (eqb f 2) (eqb f 3) (eqb f 4) (eqb f 5) refl refl refl refl
  where
    by_tests :
        (is_two is_three is_four is_five : Bool) → eqb f 2 ≡ is_two → eqb f 3 ≡ is_three → eqb f 4 ≡ is_four → eqb f 5 ≡ is_five
        → P (cond (is_two || is_three) (Some (Write v)) (cond is_four (Some Raise) (cond is_five (Some Lower) None)))
    by_tests true is_three is_four is_five e₂ e₃ e₄ e₅ = two (eqb-true f 2 e₂)
    by_tests false true is_four is_five e₂ e₃ e₄ e₅ = three (eqb-true f 3 e₃)
    by_tests false false true is_five e₂ e₃ e₄ e₅ = four (eqb-true f 4 e₄)
    by_tests false false false true e₂ e₃ e₄ e₅ = five (eqb-true f 5 e₅)
    by_tests false false false false e₂ e₃ e₄ e₅ = other

-- only 02 to 05 do anything
pub operates : (f : ℕ) (v : List ℕ) (operation : Operation) → operation_by f v ≡ Some operation → between 2 5 f ≡ true
operates f v operation =
    by_function (λ (o : Option Operation). o ≡ Some operation → between 2 5 f ≡ true) f v
    (λ e h. ap (between 2 5) e) (λ e h. ap (between 2 5) e) (λ e h. ap (between 2 5) e) (λ e h. ap (between 2 5) e) (λ h. cc)

-- the store after it
abbrev pub done : Option Operation → Store → ℕ → Store
done None store n = store
done (Some operation) store n = after operation store n

pub same_slot : (left right : Store) (n : ℕ) → left.unit ≡ right.unit → slot_of left n ≡ slot_of right n → value_of left n ≡ value_of right n
same_slot left right n u e = λ i. from_slot (set_at (index_of (u i) n)) (e i)

-- a row that may be written has both functions
both_write : ℕ → Row → Bool
both_write n r = cond (leb 2 r.functions) (leb 3 r.functions) (not (leb 3 r.functions))

written_alike : (unit n : ℕ) → allows unit n 2 ≡ allows unit n 3
unfolding rows both_write
written_alike unit n =
    alike (allows unit n 2) (allows unit n 3) (tested (both_write n (row_of unit n)) (each_number both_write tt (λ k. tt) unit n))
  where
    alike : (a b : Bool) → cond a b (not b) ≡ true → a ≡ b
    alike true b h = sym h
    alike false b h = sym (not-true b h)

writing : (c : Command) → Writing c → (operation_of c ≡ Some (Write c.value)) × ((unit n : ℕ) → allows unit n 2 ≡ allows unit n c.function)
writing c (inl e) = (ap (λ (f : ℕ). operation_by f c.value) e, λ unit n. ap (allows unit n) (sym e))
writing c (inr e) = (ap (λ (f : ℕ). operation_by f c.value) e, λ unit n. written_alike unit n ∙ ap (allows unit n) (sym e))

-- a value that is no member and inverts no switch
not_stored :
    (set : Set) (v w : List ℕ) (allowed : Bool) → member set v ≡ false → (set ≡ Switch → v ≡ 2 ∷ [] → ⊥)
    → cond allowed (cond (member set v) (Some v) (cond (inverts set v) (Some w) None)) None ≡ None
not_stored set v w false h other = refl
not_stored set v w true h other = rw (h, not_inverted set other)
  where
    one_byte : (u : List ℕ) → eqb (length u) 1 ≡ true → eqb (get_or u 0 0) 2 ≡ true → u ≡ 2 ∷ []
    one_byte [] l e = cc
    one_byte (x ∷ []) l e = ap (λ (y : ℕ). y ∷ []) (eqb-true x 2 e)
    one_byte (x ∷ y ∷ u) l e = absurd (omega (arith, eqb-true (length (x ∷ y ∷ u)) 1 l))

    switch : (a b : Bool) → eqb (length v) 1 ≡ a → eqb (get_or v 0 0) 2 ≡ b → (v ≡ 2 ∷ [] → ⊥) → (a && b) ≡ false
    switch false b l e differs = refl
    switch true false l e differs = refl
    switch true true l e differs = absurd (differs (one_byte v l e))

    not_inverted : (t : Set) → (t ≡ Switch → v ≡ 2 ∷ [] → ⊥) → inverts t v ≡ false
    not_inverted Switch differs = switch (eqb (length v) 1) (eqb (get_or v 0 0) 2) refl refl (differs refl)
    not_inverted (Number size r) differs = refl
    not_inverted (Text shortest longest) differs = refl
    not_inverted (Free size) differs = refl
    not_inverted Clock differs = refl
    not_inverted Calendar differs = refl
    not_inverted Time differs = refl

-- a row that ends as a command's operation leaves it
module _ (c : Command) (n : ℕ) (from to : Store) (sized : laws.Sized from) (unit : to.unit ≡ from.unit) (room : slot_of to n ≡ slot_of (done (operation_of c) from n) n) where
  ends_as : (o : Option Operation) → operation_of c ≡ o → slot_of to n ≡ slot_of (done o from n) n
  ends_as o e = room ∙ ap (λ (p : Option Operation). slot_of (done p from n) n) e

  ends_held : (operation : Operation) (value : List ℕ) → operation_of c ≡ Some operation → new_value operation from n ≡ Some value → value_of to n ≡ value
  ends_held operation value e stored = same_slot _ _ n (unit ∙ sym (unit_kept operation from n)) (ends_as (Some operation) e) ∙ read_back operation from n value sized stored

  unchanged : (operation : Operation) → new_value operation from n ≡ None → slot_of (after operation from n) n ≡ slot_of from n
  unchanged operation nothing = ap (λ (o : Option (List ℕ)). slot_of (stored_in from n o) n) nothing

  inverted :
      (state other : List ℕ) → inverse state ≡ other → Writing c → allows from.unit n c.function ≡ true → (row_of from.unit n).set ≡ Switch → c.value ≡ 2 ∷ []
      → value_of from n ≡ state → value_of to n ≡ other
  inverted state other inverts_to w a switch two e =
      let by = writing c w in
      ends_held (Write c.value) other by.0
      ((λ i. cond ((by.1 from.unit n ∙ a) i) (cond (member (switch i) (two i)) (Some c.value) (cond (inverts (switch i) (two i)) (Some (inverse (e i))) None)) None)
      ∙ ap Some inverts_to)

  not_allowed : allows from.unit n c.function ≡ false → slot_of to n ≡ slot_of from n
  not_allowed h =
      room
      ∙ by_function (λ (o : Option Operation). slot_of (done o from n) n ≡ slot_of from n) c.function c.value
      (λ e. unchanged (Write c.value) (rw (refused e))) (λ e. unchanged (Write c.value) (rw (written_alike from.unit n ∙ refused e)))
      (λ e. unchanged Raise (rw (refused e))) (λ e. unchanged Lower (rw (refused e))) refl
    where
      refused : {f : ℕ} → c.function ≡ f → allows from.unit n f ≡ false
      refused e = ap (allows from.unit n) (sym e) ∙ h

  pub carried_out : CarriedOut c n from to
  carried_out =
      record {
        read = λ e. ends_as None (ap (λ (f : ℕ). operation_by f c.value) e);
        not_allowed = not_allowed;
        written = λ w a m. let by = writing c w in ends_held (Write c.value) c.value by.0 (rw (by.1 from.unit n ∙ a, m));
        switched_on = inverted (0 ∷ []) (1 ∷ []) refl;
        switched_off = inverted (1 ∷ []) (0 ∷ []) refl;
        not_written = λ w m other.
            ends_as (Some (Write c.value)) (writing c w).0
            ∙ unchanged (Write c.value) (not_stored (row_of from.unit n).set c.value (inverse (value_of from n)) (allows from.unit n 2) m other);
        raised = λ e a size r row.
            let kept : slot_of to n ≡ slot_of (after Raise from n) n = ends_as (Some Raise) (ap (λ (f : ℕ). operation_by f c.value) e) in
            ⊎_elim (λ h. inl (subst (Least r (held_number from n)) (sym (ap low_first_number (same_slot _ _ n (unit ∙ sym (unit_kept Raise from n)) kept))) h))
            (λ h. inr (kept ∙ ap (λ (s : Store). slot_of s n) h.0, h.1)) (raise_least from n size r sized a row);
        lowered = λ e a size r row.
            let kept : slot_of to n ≡ slot_of (after Lower from n) n = ends_as (Some Lower) (ap (λ (f : ℕ). operation_by f c.value) e) in
            ⊎_elim (λ h. inl (subst (Greatest r (held_number from n)) (sym (ap low_first_number (same_slot _ _ n (unit ∙ sym (unit_kept Lower from n)) kept))) h))
            (λ h. inr (kept ∙ ap (λ (s : Store). slot_of s n) h.0, h.1)) (lower_greatest from n size r sized a row);
      }
