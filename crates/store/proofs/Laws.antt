-- The laws of the store's operations.
use Prim.Native.Nat.{ℕ, ◌≤◌, ◌<◌}
use native.Mathlib.Omega.{arith}
use mathlib.Core.Bool.{Bool, true, false, cond, not, ◌&&◌, ◌||◌}
use mathlib.Core.List.{List}
use mathlib.Core.Logic.{◌⊎◌, inl, inr, ⊎_elim}
use Rattle.std.specs.Prelude.{Option, None, Some, option_map, Ok, Err}
use mathlib.Core.Path.{◌≡◌, refl, sym, ap, ◌∙◌, subst}
use borrow.Author.Tests.{eqb-false, leb-true, lt-leb, not-true}
use lib.Dec.{eqb, leb}
use lib.ListN.{length}
use Rattle.refusals.specs.declared.Refusal.TheVariants.{NotMeasured, MeasuredLength}
use Rattle.rows.specs.declared.Range.{Range}
use Rattle.store.specs.declared.Store.{Store}
use Rattle.rows.specs.Rows.{Set, Number, Row, rows, row_of, index_of, allows, known, is_identity}
use Rattle.rows.specs.Sets.{low_first_number, bytes_of, in_range, least_above, greatest_below}
use Rattle.rows.specs.Layout.{size_of}
use Rattle.store.specs.Layout.{slot_of, value_of, with_value}
use Rattle.store.specs.Operations.{accepted, neighbour, stored}
use Rattle.store.specs.Sound.{sound}
use Rattle.store.specs.Laws.{Operation, Write, Raise, Lower, Measure, new_value, after, held_number, Sized, Least, Greatest}
use Rattle.store.specs.Laws.{SizeKept, UnitKept, OthersKept, IdentityKept, ReadBack, SoundKept, HeldLegal, HeldLength, StartSized, StartHeld, StartIdentity, StartSound, RaiseLeast, LowerGreatest}
use Rattle.rows.proofs.Bools.{either, not_both, no_value, tested}
use Rattle.rows.proofs.Found.{each_number}
use Rattle.store.proofs.Frames.{size_with, other_slot}
use Rattle.store.proofs.NewValues.{numbered, numbered_row, Bytes, next_bytes, new_member}
use Rattle.store.proofs.Searches.{least_above_lem, none_above, greatest_below_lem, none_below}
use Rattle.store.proofs.Soundness as soundness
use Rattle.store.proofs.Starts as starts

-- what holds of a store, and of it with the new value, holds after an operation
kept : (P : Store → Type 0) (s : Store) (n : ℕ) (o : Option (List ℕ)) → P s → ((v : List ℕ) → o ≡ Some v → P (with_value s n v)) → P (stored s n o)
kept P s n None p q = p
kept P s n (Some v) p q = q v refl

pub size_kept : SizeKept
size_kept o s n sized = kept Sized s n (new_value o s n) sized (λ v e. size_with s sized (index_of s.unit n) v)

pub unit_kept : UnitKept
unit_kept o s n = kept (λ (t : Store). t.unit ≡ s.unit) s n (new_value o s n) refl (λ v h. refl)

pub others_kept : OthersKept
others_kept o s n m sized e =
    kept (λ (t : Store). slot_of t m ≡ slot_of s m) s n (new_value o s n) refl (λ v h. other_slot s sized n m v (eqb-false n m e))

pub read_back : ReadBack
read_back o s n v sized e =
    ap (λ (p : Option (List ℕ)). value_of (stored s n p) n) e ∙ soundness.read_value s n v sized (new_member o s n v e)

pub sound_kept : SoundKept
sound_kept o s n sized e =
    kept (λ (t : Store). sound t ≡ true) s n (new_value o s n) e (λ v h. soundness.sound_with s n v sized e (new_member o s n v h))

pub held_legal : HeldLegal
held_legal s n e k = soundness.held_legal s n e k

pub held_length : HeldLength
held_length s n e k = soundness.held_length s n e k

-- no operation has a value for the identity's rows
unwritten_identity : ℕ → Row → Bool
unwritten_identity n r = leb r.functions 1 || not (is_identity n)

identity_read_only : (unit n : ℕ) → is_identity n ≡ true → (row_of unit n).functions ≤ 1
unfolding rows unwritten_identity
identity_read_only unit n e =
    ⊎_elim
    (λ p. leb-true (row_of unit n).functions 1 p)
    (λ p. absurd (not_both e (not-true (is_identity n) p)))
    (either (leb (row_of unit n).functions 1) (not (is_identity n))
    (tested (unwritten_identity n (row_of unit n)) (each_number unwritten_identity tt (λ k. tt) unit n)))

not_allowed : {A : Type 0} (unit n f : ℕ) (x : Option A) (y : A) → is_identity n ≡ true → 1 < f → cond (allows unit n f) x None ≡ Some y → ⊥
not_allowed unit n f x y e k h =
    let no : allows unit n f ≡ false = lt-leb f (row_of unit n).functions (omega (arith, identity_read_only unit n e)) in
    no_value y (sym (ap (λ (b : Bool). cond b x None) no) ∙ h)

not_new : (o : Operation) (s : Store) (n : ℕ) (v : List ℕ) → is_identity n ≡ true → new_value o s n ≡ Some v → ⊥
not_new (Write w) s n v e h = not_allowed s.unit n 2 _ v e (omega arith) h
not_new Raise s n v e h = not_allowed s.unit n 4 _ v e (omega arith) h
not_new Lower s n v e h = not_allowed s.unit n 5 _ v e (omega arith) h
not_new (Measure w) s n v e h = choose (known s.unit n && not (allows s.unit n 2)) h
  where
    choose :
        (b : Bool) → accepted (cond (b && not (is_identity n)) (cond (eqb (length w) (size_of (row_of s.unit n).set)) (Ok tt) (Err MeasuredLength)) (Err NotMeasured)) w ≡ Some v
        → ⊥
    choose true k = no_value v (rw e at k)
    choose false k = no_value v k

pub identity_kept : IdentityKept
identity_kept o s n m sized e =
    kept (λ (t : Store). slot_of t m ≡ slot_of s m) s n (new_value o s n) refl
    (λ v h. other_slot s sized n m v (λ q. not_new o s n v (ap is_identity q ∙ e) h))

-- the start store
pub start_sized : StartSized
start_sized id unit = starts.start_sized id unit

pub start_held : StartHeld
start_held id unit n size e = starts.start_held id unit n size e

pub start_identity : StartIdentity
start_identity id unit size typed = starts.start_identity id unit size typed

pub start_sound : StartSound
start_sound id unit size = starts.start_sound id unit size

-- raising and lowering: the number found, or nothing changes
module _ (o : Operation) (s : Store) (n size : ℕ) (r : Range) (sized : Sized s) (row : (row_of s.unit n).set ≡ Number size r) where
  step : (found : Option ℕ) → ((y : ℕ) → found ≡ Some y → in_range r y ≡ true) → new_value o s n ≡ option_map (bytes_of size) found
      → ((y : ℕ) × (found ≡ Some y) × (held_number (after o s n) n ≡ y)) ⊎ ((found ≡ None) × (after o s n ≡ s))
  step None h e = inr (refl, ap (stored s n) e)
  step (Some y) h e =
      let bytes : Bytes size r (Some y) (bytes_of size y) = next_bytes size r (Some y) (bytes_of size y) (subst (λ (t : Set). numbered t ≡ true) row (numbered_row s.unit n)) h refl in
      let same : bytes.number ≡ y = cc bytes.found in
      inl (y, refl, ap low_first_number (read_back o s n (bytes_of size y) sized e) ∙ bytes.back ∙ same)

  -- the new value of a row that allows the function
  moves : (next : Range → ℕ → Option ℕ) (f : ℕ) → allows s.unit n f ≡ true
      → cond (allows s.unit n f) (neighbour next (row_of s.unit n).set (value_of s n)) None ≡ option_map (bytes_of size) (next r (held_number s n))
  moves next f e = rw (e, row)

pub raise_least : RaiseLeast
raise_least s n size r sized e row =
    ⊎_elim
    (λ (y, found, held). inl (subst (λ (z : ℕ). Least r (held_number s n) z) (sym held) (least_above_lem r (held_number s n) y found)))
    (λ (found, same). inr (same, none_above r (held_number s n) found))
    (step Raise s n size r sized row (least_above r (held_number s n)) (λ y h. (least_above_lem r (held_number s n) y h).within) (moves Raise s n size r sized row least_above 4 e))

pub lower_greatest : LowerGreatest
lower_greatest s n size r sized e row =
    ⊎_elim
    (λ (y, found, held). inl (subst (λ (z : ℕ). Greatest r (held_number s n) z) (sym held) (greatest_below_lem r (held_number s n) y found)))
    (λ (found, same). inr (same, none_below r (held_number s n) found))
    (step Lower s n size r sized row (greatest_below r (held_number s n)) (λ y h. (greatest_below_lem r (held_number s n) y h).within) (moves Lower s n size r sized row greatest_below 5 e))
