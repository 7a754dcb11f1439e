-- The start store: each row that the unit type has holds its start value, and the code's constants are it but for the identity.
use Prim.Native.Nat.{ℕ, zero, suc, ◌+◌, ◌-◌, ◌≤◌, ◌<◌}
use native.Mathlib.Nat.{le_of_suc-le-suc, not-suc-le-zero}
use native.Mathlib.Omega.{arith}
use mathlib.Core.Bool.{Bool, true, false, cond, not, ◌||◌}
use mathlib.Core.List.{List, [], ◌∷◌, ◌++◌, append_assoc}
use mathlib.Core.Path.{◌≡◌, refl, sym, ap, ◌∙◌}
use lib.Dec.{leb→le}
use lib.ListN.{length, get_or, take, drop, replicate, length-append, length-replicate}
use lib.Seq.{take_at, drop_at}
use Rattle.octets.specs.Octets.{between}
use Rattle.rows.specs.Layout.{row_count, store_size, width_of, is_micra, of_micra, places_from, set_at}
use Rattle.rows.specs.Rows.{Row, rows, no_row, row_at, row_of, index_in, index_of, has, known}
use Rattle.rows.specs.Sets.{member}
use Rattle.rows.specs.Start.{lowest, start_value}
use Rattle.rows.proofs.Found.{index_of_row, product_at, identity_known}
use Rattle.rows.proofs.Rule.{rows_follow}
use Rattle.rows.proofs.Tables.{rows_length}
use Rattle.store.specs.declared.Store.{Store}
use Rattle.store.specs.Layout.{store_of, filled, to_slot, from_slot, slot_at, value_of}
use Rattle.store.specs.Operations.{legal}
use Rattle.store.specs.Sound.{sound}
use Rattle.store.specs.Start.{of_product, start_slots, product_size, start_bytes, start, with_identity}
use Rattle.store.proofs.Frames.{slot_width}
use Rattle.store.proofs.NewValues.{read_slot}
use Rattle.store.proofs.Slots.{length_filled}
use Rattle.store.proofs.Soundness.{known_row, all_hold}

-- the slot of a row, if it is the product's
abbrev slot_if : Bool → ℕ → List ℕ → Row → List ℕ
slot_if micra unit id r = cond (of_product micra r) (to_slot r.set (start_value unit id r)) []

-- where the next row of either product begins
abbrev next : ℕ → ℕ → Bool → Row → ℕ
next own other micra r = cond micra (own + cond (of_micra r) (width_of r.set) 0) (other + cond (of_micra r) 0 (width_of r.set))

with_slot :
    (unit : ℕ) (id front : List ℕ) (r : Row) (base : ℕ) (b : Bool) → length front ≡ base
    → length (front ++ cond b (to_slot r.set (start_value unit id r)) []) ≡ base + cond b (width_of r.set) 0
with_slot unit id front r base true e =
    omega (arith, length-append front (to_slot r.set (start_value unit id r)), slot_width r.set (start_value unit id r))
with_slot unit id front r base false e = omega (arith, length-append {A = ℕ} front [])

turned : (b : Bool) (n : ℕ) → cond (not b) n 0 ≡ cond b 0 n
turned true n = refl
turned false n = refl

slot_end :
    (micra : Bool) (unit : ℕ) (id front : List ℕ) (own other : ℕ) (r : Row) → length front ≡ cond micra own other
    → length (front ++ slot_if micra unit id r) ≡ next own other micra r
slot_end true unit id front own other r e = with_slot unit id front r own (of_micra r) e
slot_end false unit id front own other r e =
    with_slot unit id front r other (not (of_micra r)) e ∙ ap (λ (n : ℕ). other + n) (turned (of_micra r) (width_of r.set))

of_own : (micra : Bool) (r : Row) → of_micra r ≡ micra → of_product micra r ≡ true
of_own true r e = e
of_own false r e = ap not e

-- the slots of a product stand where its rows are placed
slot_from :
    (micra : Bool) (unit : ℕ) (id rest front : List ℕ) (own other : ℕ) (l : List Row) (k : ℕ) → length front ≡ cond micra own other → k < length l
    → of_micra (get_or l k no_row) ≡ micra
    → take (width_of (get_or l k no_row).set) (drop (get_or (places_from own other l) k 0) (front ++ start_slots micra unit id rest l))
    ≡ to_slot (get_or l k no_row).set (start_value unit id (get_or l k no_row))
unfolding places_from start_slots
slot_from micra unit id rest front own other [] k f h e = absurd (not-suc-le-zero h)
slot_from micra unit id rest front own other (r ∷ rs) zero f h e =
    let slot = to_slot r.set (start_value unit id r) in
    let later = start_slots micra unit id rest rs in
    (λ i. take (width_of r.set) (drop (cond (e i) own other) (front ++ (cond (of_own micra r e i) slot [] ++ later))))
    ∙ ap (take (width_of r.set)) (drop_at front (slot ++ later) (cond micra own other) f)
    ∙ take_at slot later (width_of r.set) (slot_width r.set (start_value unit id r))
slot_from micra unit id rest front own other (r ∷ rs) (suc k) f h e =
    let places = places_from (own + cond (of_micra r) (width_of r.set) 0) (other + cond (of_micra r) 0 (width_of r.set)) rs in
    ap (λ (l : List ℕ). take (width_of (get_or rs k no_row).set) (drop (get_or places k 0) l)) (sym (append_assoc front (slot_if micra unit id r) (start_slots micra unit id rest rs)))
    ∙ slot_from micra unit id rest (front ++ slot_if micra unit id r) _ _ rs k (slot_end micra unit id front own other r f) (le_of_suc-le-suc h) e

start_slot : (id : List ℕ) (unit k : ℕ) → k < row_count → has unit (row_at k) ≡ true → slot_at (start id unit).bytes k ≡ to_slot (set_at k) (start_value unit id (row_at k))
unfolding start_bytes start
start_slot id unit k h e = slot_from (is_micra unit) unit id _ [] 0 0 rows k (none (is_micra unit)) (rw rows_length h) (product_at unit k h e)
  where
    none : (b : Bool) → ◌≡◌ {A = ℕ} 0 (cond b 0 0)
    none true = refl
    none false = refl

start_at : (id : List ℕ) (unit k : ℕ) → length id ≡ 16 → k < row_count → has unit (row_at k) ≡ true → from_slot (set_at k) (slot_at (start id unit).bytes k) ≡ start_value unit id (row_at k)
start_at id unit k size h e =
    ap (from_slot (set_at k)) (start_slot id unit k h e) ∙ read_slot (set_at k) (start_value unit id (row_at k)) ((rows_follow k h).start_legal unit id size)

pub start_held : (id : List ℕ) (unit n : ℕ) → length id ≡ 16 → known unit n ≡ true → value_of (start id unit) n ≡ start_value unit id (row_of unit n)
unfolding start
start_held id unit n size e =
    let row = known_row unit n e in
    start_at id unit (index_of unit n) size row.0 row.2

pub start_identity :
    (id : List ℕ) (unit : ℕ) → length id ≡ 16 → between 2 5 unit ≡ true
    → (value_of (start id unit) 0x007C ≡ id) × (value_of (start id unit) 0x00B9 ≡ unit ∷ 0 ∷ [])
unfolding start_value
start_identity id unit size typed =
    let own = identity_known unit typed in
    let id_number : (row_of unit 0x007C).number ≡ 0x007C = (known_row unit 0x007C own.0).1 in
    let type_number : (row_of unit 0x00B9).number ≡ 0x00B9 = (known_row unit 0x00B9 own.1).1 in
    (start_held id unit 0x007C size own.0 ∙ rw id_number, start_held id unit 0x00B9 size own.1 ∙ rw type_number)

-- every row that the unit type has holds a value of its set
pub start_sound : (id : List ℕ) (unit : ℕ) → length id ≡ 16 → sound (start id unit) ≡ true
unfolding start
start_sound id unit size = all_hold (start id unit) rows (λ k h. by k (rw rows_length at h) (has unit (row_at k)) refl)
  where
    by :
        (k : ℕ) → k < row_count → (b : Bool) → has unit (row_at k) ≡ b
        → (not b || legal (start id unit) (row_at k).number (value_of (start id unit) (row_at k).number)) ≡ true
    by k h true e =
        ap (λ (j : ℕ). member (set_at j) (from_slot (set_at j) (slot_at (start id unit).bytes j))) (index_of_row unit k h e)
        ∙ ap (member (set_at k)) (start_at id unit k size h e)
        ∙ (rows_follow k h).start_legal unit id size
    by k h false e = refl

-- the bytes are as many as a store has
slots_length : (micra : Bool) (unit : ℕ) (id rest : List ℕ) (l : List Row) → length (start_slots micra unit id rest l) ≡ product_size micra l + length rest
unfolding start_slots product_size
slots_length micra unit id rest [] = omega arith
slots_length micra unit id rest (r ∷ rs) = by (slots_length micra unit id rest rs) (of_product micra r)
  where
    by :
        length (start_slots micra unit id rest rs) ≡ product_size micra rs + length rest → (b : Bool)
        → length (cond b (to_slot r.set (start_value unit id r)) [] ++ start_slots micra unit id rest rs)
        ≡ cond b (width_of r.set) 0 + product_size micra rs + length rest
    by e true =
        omega (arith, length-append (to_slot r.set (start_value unit id r)) (start_slots micra unit id rest rs), slot_width r.set (start_value unit id r))
    by e false = omega arith

product_within : (micra : Bool) → product_size micra rows ≤ store_size
unfolding rows product_size
product_within true = leb→le (product_size true rows) store_size tt
product_within false = leb→le (product_size false rows) store_size tt

pub start_sized : (id : List ℕ) (unit : ℕ) → length (start id unit).bytes ≡ store_size
unfolding start_bytes start
start_sized id unit =
    let micra = is_micra unit in
    let left = store_size - product_size micra rows in
    omega (arith, slots_length micra unit id (replicate left 0) rows, product_within micra, length-replicate {A = ℕ} left 0)

-- the start bytes with a zero ID and no unit type, which the code has as constants, with the identity put in
unfoldable pub blank : Bool → ℕ → Store
blank micra unit = store_of unit (start_bytes micra 0 (replicate 16 0))

put_id : (unit at : ℕ) (id l : List ℕ) → store_of unit (take at l ++ filled 16 id ++ drop (at + length (filled 16 id)) l) ≡ store_of unit (take at l ++ filled 16 id ++ drop (at + 16) l)
put_id unit at id l = ap (λ (n : ℕ). store_of unit (take at l ++ filled 16 id ++ drop (at + n) l)) (length_filled 16 id)

-- the first unit type of a product
abbrev pub first_unit : Bool → ℕ
first_unit micra = cond micra 2 3

pub with_identity_lem : (micra : Bool) (id : List ℕ) (unit : ℕ) → with_identity (blank micra unit) (first_unit micra) id ≡ store_of unit (start_bytes micra unit id)
unfolding rows index_in places_from lowest start_value start_slots product_size start_bytes blank
with_identity_lem true id unit = put_id unit 65 id (start_bytes true unit (replicate 16 0))
with_identity_lem false id unit = put_id unit 41 id (start_bytes false unit (replicate 16 0))
