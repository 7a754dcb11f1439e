-- A temperature stored by its type is stored as its bytes.
use Prim.Native.Nat.{ℕ, suc, ◌-◌, ◌<◌, ◌/◌, ◌%◌}
use native.Mathlib.Omega.{arith}
use mathlib.Core.Bool.{Bool, true, false}
use mathlib.Core.List.{List, [], ◌∷◌}
use mathlib.Core.Logic.{⊎_elim}
use mathlib.Core.Path.{◌≡◌, refl, sym, ap, ◌∙◌}
use borrow.Author.Tests.{lt-ltb, le-ltb}
use lib.Dec.{eqb}
use lib.ListN.{length, get_or, replicate}
use Rattle.rows.specs.declared.Quantity.TheVariants as quantity
use Rattle.store.specs.declared.Store.{Store}
use Rattle.store.specs.declared.temperatures.Reading.TheVariants.{Temperature}
use Rattle.store.specs.declared.tenths.Tenths.{Tenths}
use Rattle.rows.specs.Rows.{Set, row_at}
use Rattle.rows.specs.Sets.{low_first_number, bytes_of}
use Rattle.rows.specs.Layout.{size_of, is_text, set_at, place_at}
use Rattle.store.specs.Layout.{filled, to_slot, overwritten, with_value_at}
use Rattle.store.specs.Temperatures.{sensor_missing, short_circuit, is_mark, tenths_of, bits_of, reading_of}
use Rattle.rows.proofs.Quantities.{tenths_slot, degrees_slot}
use Rattle.rows.proofs.Tables.{in_or_past}

-- a slot of one byte, and of two
filled_one : (v : List ℕ) → filled 1 v ≡ get_or v 0 0 ∷ []
filled_one [] = refl
filled_one (x ∷ rest) =
    let none : 1 - suc (length rest) ≡ 0 = omega arith in
    ap (λ (n : ℕ). x ∷ replicate n 0) none

filled_two : (v : List ℕ) → filled 2 v ≡ get_or v 0 0 ∷ get_or v 1 0 ∷ []
filled_two [] = refl
filled_two (x ∷ []) = refl
filled_two (x ∷ y ∷ rest) =
    let none : 2 - suc (suc (length rest)) ≡ 0 = omega arith in
    ap (λ (n : ℕ). x ∷ y ∷ replicate n 0) none

-- the slot of a row that is no text
same_slot : (size : ℕ) (set : Set) (v : List ℕ) → (size_of set ≡ size) × (is_text set ≡ false) → to_slot set v ≡ filled size v
same_slot size set v (sized, plain) = rw (plain, sized)

-- bits as tenths, and back
bits_back : (bits : ℕ) → bits < 0x10000 → bits_of (tenths_of bits).tenths ≡ bits
bits_back bits h = ⊎_elim (λ k. simp (lt-ltb bits 0x8000 k)) (λ k. simp (le-ltb bits 0x8000 k) (omega arith)) (in_or_past bits 0x8000)

-- a temperature that is read of two bytes is no mark, and has their bits
record Told (v : List ℕ) (t : Tenths) : Type 0 where
  no_mark : is_mark (bits_of t.tenths) ≡ false
  same : bits_of t.tenths ≡ low_first_number v

told : (v : List ℕ) (t : Tenths) → ((i : ℕ) → get_or v i 0 < 256) → reading_of (low_first_number v) ≡ Temperature t → Told v t
told v t b e = by (eqb (low_first_number v) sensor_missing) refl (eqb (low_first_number v) short_circuit) refl
  where
    by : (m : Bool) → eqb (low_first_number v) sensor_missing ≡ m → (s : Bool) → eqb (low_first_number v) short_circuit ≡ s → Told v t
    by true p s q = let z : ◌≡◌ {A = ℕ} 0 1 = cc (rw p at e) in absurd (omega arith)
    by false p true q = let z : ◌≡◌ {A = ℕ} 0 1 = cc (rw (p, q) at e) in absurd (omega arith)
    by false p false q =
        let read : t ≡ tenths_of (low_first_number v) = cc (rw (p, q) at e) in
        let same : bits_of t.tenths ≡ low_first_number v = ap (λ (x : Tenths). bits_of x.tenths) read ∙ bits_back (low_first_number v) (omega (arith, b 0, b 1)) in
        record { no_mark = rw (same, p, q); same = same }

pub tenths_stored : (s : Store) (k : ℕ) (v : List ℕ) (t : Tenths) → ((i : ℕ) → get_or v i 0 < 256) → (row_at k).quantity ≡ quantity.Tenths
    → reading_of (low_first_number v) ≡ Temperature t → with_value_at s k (bytes_of 2 (bits_of t.tenths)) ≡ with_value_at s k v
tenths_stored s k v t b e read =
    let fit = tenths_slot k e in
    let low : low_first_number v % 256 ≡ get_or v 0 0 = omega (arith, b 0, b 1) in
    let top : low_first_number v / 256 ≡ get_or v 1 0 = omega (arith, b 0, b 1) in
    let high : get_or v 1 0 % 256 ≡ get_or v 1 0 = omega (arith, b 1) in
    ap (overwritten s (place_at k))
    (same_slot 2 (set_at k) (bytes_of 2 (bits_of t.tenths)) fit
    ∙ rw ((told v t b read).same, low, top, high) (sym (filled_two v))
    ∙ sym (same_slot 2 (set_at k) v fit))

pub degrees_stored : (s : Store) (k : ℕ) (v : List ℕ) → (row_at k).quantity ≡ quantity.WholeDegrees → with_value_at s k (get_or v 0 0 ∷ []) ≡ with_value_at s k v
degrees_stored s k v e =
    let fit = degrees_slot k e in
    ap (overwritten s (place_at k))
    (same_slot 1 (set_at k) (get_or v 0 0 ∷ []) fit
    ∙ sym (filled_one v)
    ∙ sym (same_slot 1 (set_at k) v fit))
