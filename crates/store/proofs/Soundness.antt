-- Each row of a sound store holds a value of its set, and storing such a value keeps it sound.
use Prim.Native.Nat.{ℕ, zero, suc, ◌≤◌, ◌<◌}
use native.Mathlib.Nat.{le_of_suc-le-suc, not-suc-le-zero}
use native.Mathlib.Omega.{arith}
use mathlib.Core.Bool.{Bool, true, false, ◌||◌, not, false≢true}
use mathlib.Core.List.{List, [], ◌∷◌}
use mathlib.Core.Logic.{⊎_elim}
use mathlib.Core.Path.{◌≡◌, refl, sym, ap, ◌∙◌, subst}
use borrow.Author.Tests.{eqb-true, eqb-false}
use lib.Dec.{eqb, leb}
use lib.ListN.{length, get_or}
use Rattle.octets.proofs.Booleans.{both_true}
use Rattle.rows.specs.Rows.{Set, Switch, Number, Text, Free, Clock, Calendar, Time, Row, rows, no_row, row_at, row_of, index_of, has, known}
use Rattle.rows.specs.Rule.{Fits}
use Rattle.rows.specs.Sets.{member}
use Rattle.rows.specs.Layout.{row_count, longest}
use Rattle.rows.proofs.Found.{found_or_not}
use Rattle.rows.proofs.Rule.{rows_follow, size_most}
use Rattle.rows.proofs.Tables.{rows_length}
use Rattle.store.specs.declared.Store.{Store}
use Rattle.store.specs.Layout.{from_slot, value_of, with_value}
use Rattle.store.specs.Operations.{legal}
use Rattle.store.specs.Sound.{sound, sound_rows}
use Rattle.store.specs.Laws.{Sized}
use Rattle.store.proofs.Frames.{own_slot, other_slot}
use Rattle.store.proofs.NewValues.{shortest_of, member_length, read_slot}

-- the row at an index of a list holds a value of its set, where the unit type has it
abbrev holds_at : Store → Row → Bool
holds_at s r = not (has s.unit r) || legal s r.number (value_of s r.number)

abbrev Holds : Store → List Row → ℕ → Type 0
Holds s l k = holds_at s (get_or l k no_row) ≡ true

each_holds : (s : Store) (l : List Row) → sound_rows s l ≡ true → (k : ℕ) → k < length l → Holds s l k
unfolding sound_rows
each_holds s [] e k h = absurd (not-suc-le-zero h)
each_holds s (r ∷ rs) e zero h = (both_true (holds_at s r) (sound_rows s rs) e).0
each_holds s (r ∷ rs) e (suc k) h = each_holds s rs (both_true (holds_at s r) (sound_rows s rs) e).1 k (le_of_suc-le-suc h)

pub all_hold : (s : Store) (l : List Row) → ((k : ℕ) → k < length l → Holds s l k) → sound_rows s l ≡ true
unfolding sound_rows
all_hold s [] h = refl
all_hold s (r ∷ rs) h = rw (h zero (omega arith)) (all_hold s rs (λ k q. h (suc k) (omega arith)))

-- a parameter that is known has a row
pub known_row : (unit n : ℕ) → known unit n ≡ true → (index_of unit n < row_count) × ((row_of unit n).number ≡ n) × (has unit (row_of unit n) ≡ true)
known_row unit n e = ⊎_elim (λ h. h) (λ q. absurd (false≢true (ap (λ (r : Row). leb 1 r.functions) q ∙ e))) (found_or_not unit n)

had : {a b : Bool} → a ≡ true → (not a || b) ≡ true → b ≡ true
had {a} {b} e h = ap (λ (c : Bool). not c || b) (sym e) ∙ h

pub held_legal : (s : Store) (n : ℕ) → sound s ≡ true → known s.unit n ≡ true → legal s n (value_of s n) ≡ true
held_legal s n e k =
    let found = known_row s.unit n k in
    subst (λ (m : ℕ). legal s m (value_of s m) ≡ true) found.1
    (had found.2 (each_holds s rows e (index_of s.unit n) (rw rows_length found.0)))

-- no value of a known parameter is empty
shortest_fits : (set : Set) → Fits set → 1 ≤ shortest_of set
unfolding shortest_of
shortest_fits Switch f = omega arith
shortest_fits (Number size r) f = f.0
shortest_fits (Text shortest most) f = f.0
shortest_fits (Free size) f = f.0
shortest_fits Clock f = omega arith
shortest_fits Calendar f = omega arith
shortest_fits Time f = omega arith

pub held_length : (s : Store) (n : ℕ) → sound s ≡ true → known s.unit n ≡ true → (1 ≤ length (value_of s n)) × (length (value_of s n) ≤ longest)
held_length s n e k =
    let row = row_of s.unit n in
    let bounds = member_length row.set (value_of s n) (held_legal s n e k) in
    let some : 1 ≤ shortest_of row.set = shortest_fits row.set (rows_follow (index_of s.unit n) (known_row s.unit n k).0).fits in
    (omega (arith, bounds.0), omega (arith, bounds.1, size_most (index_of s.unit n)))

-- a stored member is read back
pub read_value : (s : Store) (n : ℕ) (v : List ℕ) → Sized s → member (row_of s.unit n).set v ≡ true → value_of (with_value s n v) n ≡ v
read_value s n v sized e = ap (from_slot (row_of s.unit n).set) (own_slot s sized (index_of s.unit n) v) ∙ read_slot (row_of s.unit n).set v e

pub sound_with : (s : Store) (n : ℕ) (v : List ℕ) → Sized s → sound s ≡ true → member (row_of s.unit n).set v ≡ true → sound (with_value s n v) ≡ true
sound_with s n v sized e h = all_hold (with_value s n v) rows (λ k q. row (row_at k) (each_holds s rows e k q))
  where
    kept : (m : ℕ) → legal s m (value_of s m) ≡ true → legal (with_value s n v) m (value_of (with_value s n v) m) ≡ true
    kept m before = choose (eqb n m) refl
      where
        choose : (b : Bool) → eqb n m ≡ b → member (row_of s.unit m).set (value_of (with_value s n v) m) ≡ true
        choose true p =
            subst (λ (x : ℕ). member (row_of s.unit x).set (value_of (with_value s n v) x) ≡ true) (eqb-true n m p)
            (ap (member (row_of s.unit n).set) (read_value s n v sized h) ∙ h)
        choose false p =
            ap (λ (l : List ℕ). member (row_of s.unit m).set (from_slot (row_of s.unit m).set l)) (other_slot s sized n m v (eqb-false n m p))
            ∙ before

    row : (r : Row) → holds_at s r ≡ true → holds_at (with_value s n v) r ≡ true
    row r old = by (has s.unit r) old
      where
        by :
            (b : Bool) → (not b || legal s r.number (value_of s r.number)) ≡ true
            → (not b || legal (with_value s n v) r.number (value_of (with_value s n v) r.number)) ≡ true
        by true before = kept r.number before
        by false before = refl
