-- A value stored for one parameter: its slot holds it, every other slot stays as it was.
use Prim.Native.Nat.{ℕ, suc, ◌+◌, ◌-◌, ◌≤◌, ◌<◌}
use native.Mathlib.Omega.{arith}
use mathlib.Core.Bool.{Bool, true, false, cond}
use mathlib.Core.List.{List, ◌∷◌, ◌++◌, append_assoc}
use mathlib.Core.Logic.{⊎_elim}
use mathlib.Core.Path.{◌≡◌, sym, ap, ◌∙◌}
use lib.ListN.{length, take, drop, length-append, length-drop, take-append-drop}
use lib.Seq.{take-append-le, take_at, drop-append-le, drop_at, drop-drop, length-take-le}
use Rattle.octets.specs.Octets.{overwrite}
use Rattle.store.specs.declared.Store.{Store}
use Rattle.rows.specs.Rows.{Set, row_at, index_of}
use Rattle.rows.specs.Layout.{row_count, store_size, size_of, is_text, width_of, of_micra, set_at, place_at}
use Rattle.store.specs.Layout.{filled, to_slot, slot_at, slot_of, with_value_at, with_value}
use Rattle.rows.proofs.Found.{found_row, one_product, place_order}
use Rattle.rows.proofs.Tables.{in_or_past}
use Rattle.octets.proofs.Overwriting.{length_overwrite}
use Rattle.store.proofs.Slots.{past, place_within, length_filled}

-- a slot is as wide as its row
pub slot_width : (set : Set) (v : List ℕ) → length (to_slot set v) ≡ width_of set
slot_width set v = choose (is_text set)
  where
    choose : (b : Bool) → length (cond b (length (take (size_of set) v) ∷ filled (size_of set) v) (filled (size_of set) v)) ≡ cond b (suc (size_of set)) (size_of set)
    choose true = ap suc (length_filled (size_of set) v)
    choose false = length_filled (size_of set) v

-- bytes of a list that has others put in: those put, those before them, those after them
own_part : (l : List ℕ) (at : ℕ) (v : List ℕ) (w : ℕ) → length v ≡ w → at + w ≤ length l → take w (drop at (overwrite l at v)) ≡ v
own_part l at v w e h =
    ap (λ (t : List ℕ). take w (drop at t)) (append_assoc (take at l) v (drop (at + length v) l))
    ∙ ap (λ (t : List ℕ). take w t) (drop_at (take at l) (v ++ drop (at + length v) l) at (length-take-le at l (omega arith)))
    ∙ take_at v (drop (at + length v) l) w e

front : (x y : List ℕ) (b w : ℕ) → b + w ≤ length x → take w (drop b (x ++ y)) ≡ take w (drop b x)
front x y b w h =
    ap (λ (t : List ℕ). take w t) (drop-append-le b x y (omega arith))
    ∙ take-append-le w (drop b x) y (omega (arith, length-drop b x))

part_before : (l : List ℕ) (at : ℕ) (v : List ℕ) (b w : ℕ) → at ≤ length l → b + w ≤ at → take w (drop b (overwrite l at v)) ≡ take w (drop b l)
part_before l at v b w h k =
    let n : length (take at l) ≡ at = length-take-le at l h in
    ap (λ (t : List ℕ). take w (drop b t)) (append_assoc (take at l) v (drop (at + length v) l))
    ∙ front (take at l) (v ++ drop (at + length v) l) b w (omega arith)
    ∙ sym (front (take at l) (drop at l) b w (omega arith))
    ∙ ap (λ (t : List ℕ). take w (drop b t)) (take-append-drop at l)

rest_after : (l : List ℕ) (at : ℕ) (v : List ℕ) (b : ℕ) → at + length v ≤ length l → at + length v ≤ b → drop b (overwrite l at v) ≡ drop b l
rest_after l at v b h k =
    let n : length (take at l ++ v) ≡ at + length v =
    length-append (take at l) v ∙ ap (λ (i : ℕ). i + length v) (length-take-le at l (omega arith)) in
    let e : at + length v + (b - (at + length v)) ≡ b = omega arith in
    ap (λ (i : ℕ). drop i (overwrite l at v)) (sym e)
    ∙ sym (drop-drop (b - (at + length v)) (at + length v) (overwrite l at v))
    ∙ ap (λ (t : List ℕ). drop (b - (at + length v)) t) (drop_at (take at l ++ v) (drop (at + length v) l) (at + length v) n)
    ∙ drop-drop (b - (at + length v)) (at + length v) l
    ∙ ap (λ (i : ℕ). drop i l) e

module _ (s : Store) (sized : length s.bytes ≡ store_size) where
  ends : (k : ℕ) (v : List ℕ) → place_at k + length (to_slot (set_at k) v) ≤ length s.bytes
  ends k v = omega (arith, slot_width (set_at k) v, place_within k)

  pub size_with : (k : ℕ) (v : List ℕ) → length (with_value_at s k v).bytes ≡ store_size
  size_with k v = length_overwrite s.bytes (place_at k) (to_slot (set_at k) v) (ends k v) ∙ sized

  pub own_slot : (k : ℕ) (v : List ℕ) → slot_at (with_value_at s k v).bytes k ≡ to_slot (set_at k) v
  own_slot k v = own_part s.bytes (place_at k) (to_slot (set_at k) v) (width_of (set_at k)) (slot_width (set_at k) v) (omega (arith, place_within k))

  after : (j k : ℕ) (v : List ℕ) → place_at k + width_of (set_at k) ≤ place_at j → slot_at (with_value_at s k v).bytes j ≡ slot_at s.bytes j
  after j k v h =
      ap (λ (t : List ℕ). take (width_of (set_at j)) t)
      (rest_after s.bytes (place_at k) (to_slot (set_at k) v) (place_at j) (ends k v) (omega (arith, slot_width (set_at k) v)))

  -- two different rows of the table
  apart_slot : (j k : ℕ) (v : List ℕ) → j < row_count → k < row_count → of_micra (row_at j) ≡ of_micra (row_at k) → (j ≡ k → ⊥) → slot_at (with_value_at s k v).bytes j ≡ slot_at s.bytes j
  apart_slot j k v hj hk same ne =
      ⊎_elim
      (λ h. part_before s.bytes (place_at k) (to_slot (set_at k) v) (place_at j) (width_of (set_at j)) (omega (arith, place_within k)) (place_order j k h hk same))
      (λ h. after j k v (place_order k j (strict h) hj (sym same)))
      (in_or_past j k)
    where
      strict : k ≤ j → k < j
      strict h = ⊎_elim (λ p. p) (λ p. absurd (ne (omega arith))) (in_or_past k j)

  -- past the last row nothing is put, and nothing stands
  past_put : (k j : ℕ) (v : List ℕ) → row_count ≤ k → slot_at (with_value_at s k v).bytes j ≡ slot_at s.bytes j
  past_put k j v h = after j k v (omega (arith, past k h))

  past_slot : (k j : ℕ) (v : List ℕ) → row_count ≤ j → slot_at (with_value_at s k v).bytes j ≡ slot_at s.bytes j
  past_slot k j v h =
      let none : width_of (set_at j) ≡ 0 = (past j h).1 in
      rw none

  pub other_slot : (n m : ℕ) (v : List ℕ) → (n ≡ m → ⊥) → slot_of (with_value s n v) m ≡ slot_of s m
  other_slot n m v ne =
      let unit = s.unit in
      ⊎_elim
      (λ hm. ⊎_elim
      (λ hn. apart_slot (index_of unit m) (index_of unit n) v hm hn (one_product unit m n hm hn)
      (λ e. ne (sym (found_row unit n hn).0 ∙ ap (λ (k : ℕ). (row_at k).number) (sym e) ∙ (found_row unit m hm).0)))
      (λ hn. past_put (index_of unit n) (index_of unit m) v hn)
      (in_or_past (index_of unit n) row_count))
      (λ hm. past_slot (index_of unit n) (index_of unit m) v hm)
      (in_or_past (index_of unit m) row_count)
