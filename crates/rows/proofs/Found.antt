-- A unit type's rows: each is found by its number, and their slots do not overlap.
use Prim.Native.Nat.{ℕ, zero, suc, ◌+◌, ◌≤◌, ◌<◌}
use native.Mathlib.Nat.{le_of_suc-le-suc, not-suc-le-zero}
use native.Mathlib.Omega.{arith}
use mathlib.Core.Bool.{Bool, true, false, cond, false≢true, ◌&&◌}
use mathlib.Core.List.{List, [], ◌∷◌}
use mathlib.Core.Logic.{◌⊎◌, inl, inr, ⊎_elim}
use mathlib.Core.Path.{◌≡◌, refl, sym, ◌∙◌, subst}
use borrow.Author.Tests.{eq-eqb, ne_eqb, eqb-true, leb-true}
use lib.Dec.{T, eqb, leb, leb→le}
use lib.ListN.{length, get_or}
use Rattle.octets.specs.Octets.{between}
use Rattle.octets.proofs.Booleans.{both_true}
use Rattle.rows.specs.Rows.{Row, rows, no_row, row_at, row_of, has, known, named, index_in, index_of}
use Rattle.rows.specs.Layout.{row_count, store_size, width_of, is_micra, of_micra, places_from, set_at, place_at}
use Rattle.rows.proofs.Bools.{both}
use Rattle.rows.proofs.Rule.{numbers_ascend}
use Rattle.rows.proofs.Tables.{rows_length, no_row_lem, in_or_past, every, own_row, each_row}

-- a number that is found stands in its row, and the unit type has it
found_in : (unit n : ℕ) (l : List Row) → index_in unit n l < length l → named unit n (get_or l (index_in unit n l) no_row) ≡ true
unfolding index_in
found_in unit n [] h = absurd (not-suc-le-zero h)
found_in unit n (r ∷ rs) h = choose (named unit n r) refl (λ k. found_in unit n rs k) h
  where
    choose :
        (b : Bool) → named unit n r ≡ b → (index_in unit n rs < length rs → named unit n (get_or rs (index_in unit n rs) no_row) ≡ true)
        → cond b 0 (suc (index_in unit n rs)) < suc (length rs)
        → named unit n (get_or (r ∷ rs) (cond b 0 (suc (index_in unit n rs))) no_row) ≡ true
    choose true e rest k = e
    choose false e rest k = rest (le_of_suc-le-suc k)

pub found_row : (unit n : ℕ) → index_of unit n < row_count → ((row_of unit n).number ≡ n) × (has unit (row_of unit n) ≡ true)
found_row unit n h =
    let both = both_true (eqb (row_of unit n).number n) (has unit (row_of unit n)) (found_in unit n rows (rw rows_length h)) in
    (eqb-true _ _ both.0, both.1)

-- each row that a unit type has is found by its number
index_at_most : (unit n : ℕ) (l : List Row) (k : ℕ) → k < length l → named unit n (get_or l k no_row) ≡ true → index_in unit n l ≤ k
unfolding index_in
index_at_most unit n [] k h e = absurd (not-suc-le-zero h)
index_at_most unit n (r ∷ rs) zero h e = rw e (omega arith)
index_at_most unit n (r ∷ rs) (suc k) h e = choose (named unit n r) (index_at_most unit n rs k (le_of_suc-le-suc h) e)
  where
    choose : (b : Bool) → index_in unit n rs ≤ k → cond b 0 (suc (index_in unit n rs)) ≤ suc k
    choose true p = omega arith
    choose false p = omega arith

pub index_of_row : (unit k : ℕ) → k < row_count → has unit (row_at k) ≡ true → index_of unit (row_at k).number ≡ k
index_of_row unit k h e =
    let n = (row_at k).number in
    let most = index_at_most unit n rows k (rw rows_length h) (rw (eq-eqb n n refl) e) in
    let own = found_row unit n (omega (arith, most)) in
    ⊎_elim
    (λ p. absurd (omega (arith, own.0, numbers_ascend unit (index_of unit n) k p h own.1 e)))
    (λ p. omega (arith, most))
    (in_or_past (index_of unit n) k)

-- slots of one product stand one behind the other
abbrev own_place : Bool → ℕ → ℕ → ℕ
own_place b own other = cond b own other

places_from_lem : (own other : ℕ) (l : List Row) (k : ℕ) → k < length l → cond (of_micra (get_or l k no_row)) own other ≤ get_or (places_from own other l) k 0
unfolding places_from
places_from_lem own other [] k h = absurd (not-suc-le-zero h)
places_from_lem own other (r ∷ rs) zero h = omega arith
places_from_lem own other (r ∷ rs) (suc k) h =
    choose (of_micra (get_or rs k no_row)) (of_micra r) (places_from_lem (own + cond (of_micra r) (width_of r.set) 0) (other + cond (of_micra r) 0 (width_of r.set)) rs k (le_of_suc-le-suc h))
  where
    choose : (b c : Bool) {p : ℕ} → cond b (own + cond c (width_of r.set) 0) (other + cond c 0 (width_of r.set)) ≤ p → cond b own other ≤ p
    choose true c q = omega arith
    choose false c q = omega arith

places_order :
    (own other : ℕ) (l : List Row) (j k : ℕ) → j < k → k < length l → of_micra (get_or l j no_row) ≡ of_micra (get_or l k no_row)
    → get_or (places_from own other l) j 0 + width_of (get_or l j no_row).set ≤ get_or (places_from own other l) k 0
unfolding places_from
places_order own other [] j k q h e = absurd (not-suc-le-zero h)
places_order own other (r ∷ rs) j zero q h e = absurd (not-suc-le-zero q)
places_order own other (r ∷ rs) zero (suc k) q h e =
    choose (of_micra (get_or rs k no_row)) (of_micra r) e (places_from_lem (own + cond (of_micra r) (width_of r.set) 0) (other + cond (of_micra r) 0 (width_of r.set)) rs k (le_of_suc-le-suc h))
  where
    choose :
        (b c : Bool) {p : ℕ} → c ≡ b → cond b (own + cond c (width_of r.set) 0) (other + cond c 0 (width_of r.set)) ≤ p
        → cond c own other + width_of r.set ≤ p
    choose true true same x = omega arith
    choose false false same x = omega arith
    choose true false same x = absurd (false≢true same)
    choose false true same x = absurd (false≢true (sym same))
places_order own other (r ∷ rs) (suc j) (suc k) q h e = places_order (own + cond (of_micra r) (width_of r.set) 0) (other + cond (of_micra r) 0 (width_of r.set)) rs j k (le_of_suc-le-suc q) (le_of_suc-le-suc h) e

pub place_order : (j k : ℕ) → j < k → k < row_count → of_micra (row_at j) ≡ of_micra (row_at k) → place_at j + width_of (set_at j) ≤ place_at k
place_order j k q h e = places_order 0 0 rows j k q (rw rows_length h) e

-- every slot ends within the store: computed
within : List Row → List ℕ → Bool
within (r ∷ rs) (p ∷ ps) = leb (p + width_of r.set) store_size && within rs ps
within (r ∷ rs) [] = false
within [] ps = true

within_at : (l : List Row) (ps : List ℕ) → T (within l ps) → (k : ℕ) → k < length l → get_or ps k 0 + width_of (get_or l k no_row).set ≤ store_size
unfolding within
within_at [] ps t k h = absurd (not-suc-le-zero h)
within_at (r ∷ rs) [] t k h = absurd t
within_at (r ∷ rs) (p ∷ ps) t zero h = leb→le (p + width_of r.set) store_size (both (leb (p + width_of r.set) store_size) (within rs ps) t).0
within_at (r ∷ rs) (p ∷ ps) t (suc k) h = within_at rs ps (both (leb (p + width_of r.set) store_size) (within rs ps) t).1 k (le_of_suc-le-suc h)

all_within : T (within rows (places_from 0 0 rows))
unfolding rows places_from within
all_within = tt

pub place_within : (k : ℕ) → k < row_count → place_at k + width_of (set_at k) ≤ store_size
place_within k h = within_at rows (places_from 0 0 rows) all_within k (rw rows_length h)

-- what holds of each of the four unit types
four : (P : ℕ → Type 0) → P 2 → P 3 → P 4 → P 5 → (u : ℕ) → 2 ≤ u → u ≤ 5 → P u
four P a b c d u low high =
    ⊎_elim (λ h. subst P (two h) a) (λ h. ⊎_elim (λ k. subst P (three h k) b) (λ k. ⊎_elim (λ m. subst P (fourth k m) c) (λ m. subst P (five m) d) (in_or_past u 5)) (in_or_past u 4)) (in_or_past u 3)
  where
    two : u < 3 → 2 ≡ u
    two h = omega arith

    three : 3 ≤ u → u < 4 → 3 ≡ u
    three h k = omega arith

    fourth : 4 ≤ u → u < 5 → 4 ≡ u
    fourth h k = omega arith

    five : 5 ≤ u → 5 ≡ u
    five h = omega arith

-- each unit type has the rows of the identity
abbrev Identified : ℕ → Type 0
Identified unit = (known unit 0x007C ≡ true) × (known unit 0x00B9 ≡ true)

pub identity_known : (unit : ℕ) → between 2 5 unit ≡ true → Identified unit
unfolding rows index_in
identity_known unit h =
    let bounds = both_true (leb 2 unit) (leb unit 5) h in
    four Identified (refl, refl) (refl, refl) (refl, refl) (refl, refl) unit (leb-true 2 unit bounds.0) (leb-true unit 5 bounds.1)

-- the rows of a unit type are of its product
apart : Row → Bool
apart r = cond (of_micra r) (leb r.last 2) (leb 3 r.first)

all_apart : T (every apart rows)
unfolding rows apart
all_apart = tt

product_of : (unit : ℕ) (r : Row) → T (apart r) → has unit r ≡ true → of_micra r ≡ is_micra unit
unfolding apart
product_of unit r t h = by (of_micra r) refl t
  where
    bounds : (leb r.first unit ≡ true) × (leb unit r.last ≡ true)
    bounds = both_true (leb r.first unit) (leb unit r.last) h

    by : (b : Bool) → of_micra r ≡ b → T (cond b (leb r.last 2) (leb 3 r.first)) → b ≡ is_micra unit
    by true e u =
        let two : unit ≡ 2 =
        omega (arith, eqb-true r.first 2 e, leb→le r.last 2 u, leb-true r.first unit bounds.0, leb-true unit r.last bounds.1) in
        sym (eq-eqb unit 2 two)
    by false e u = sym (ne_eqb unit 2 (λ two. absurd (omega (arith, leb→le 3 r.first u, leb-true r.first unit bounds.0))))

pub product_at : (unit k : ℕ) → k < row_count → has unit (row_at k) ≡ true → of_micra (row_at k) ≡ is_micra unit
product_at unit k h e = product_of unit (row_at k) (own_row apart rows all_apart k (rw rows_length h)) e

pub one_product : (unit n m : ℕ) → index_of unit n < row_count → index_of unit m < row_count → of_micra (row_of unit n) ≡ of_micra (row_of unit m)
one_product unit n m hn hm =
    product_at unit (index_of unit n) hn (found_row unit n hn).1 ∙ sym (product_at unit (index_of unit m) hm (found_row unit m hm).1)

-- a number is found, or the unit type has no row with it
pub found_or_not :
    (unit n : ℕ) → ((index_of unit n < row_count) × ((row_of unit n).number ≡ n) × (has unit (row_of unit n) ≡ true)) ⊎ (no_row ≡ row_of unit n)
found_or_not unit n =
    ⊎_elim (λ h. inl (h, (found_row unit n h).0, (found_row unit n h).1)) (λ h. inr (no_row_lem (index_of unit n) h)) (in_or_past (index_of unit n) row_count)

-- a test of number and row, computed over the whole table, holds of every number
pub each_number :
    (f : ℕ → Row → Bool) → T (every (λ (r : Row). f r.number r) rows) → ((n : ℕ) → T (f n no_row)) → (unit n : ℕ) → T (f n (row_of unit n))
each_number f t u unit n =
    ⊎_elim
    (λ h. rw h.1 at (each_row (λ (r : Row). f r.number r) t (u 0) (index_of unit n)))
    (λ e. rw e at (u n))
    (found_or_not unit n)
