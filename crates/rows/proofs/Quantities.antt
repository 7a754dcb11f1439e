-- What the quantity of a row says of its slot.
use Prim.Native.Nat.{ℕ}
use native.Mathlib.Omega.{arith}
use mathlib.Core.Bool.{Bool, true, false, not, ◌&&◌}
use mathlib.Core.List.{List, [], ◌∷◌}
use mathlib.Core.Path.{◌≡◌, refl, sym, ap, ◌∙◌}
use borrow.Author.Tests.{eqb-true, not-true}
use lib.Dec.{eqb}
use lib.ListN.{length, get_or}
use Rattle.octets.proofs.Booleans.{both_true}
use Rattle.rows.specs.declared.Quantity.{Quantity}
use Rattle.rows.specs.declared.Quantity.TheVariants as quantity
use Rattle.rows.specs.Columns.{quantity_number, quantity_of}
use Rattle.rows.specs.Rows.{Set, Row, rows, row_at}
use Rattle.rows.specs.Sets.{low_first_number}
use Rattle.rows.specs.Layout.{size_of, is_text, set_at}
use Rattle.rows.proofs.Bools.{tested}
use Rattle.rows.proofs.Tables.{each_row}

-- the slots of each quantity's rows, by one test of the whole table
holds : ℕ → Set → Bool
holds size set = eqb (size_of set) size && not (is_text set)

fits : Quantity → Set → Bool
fits quantity.Plain set = true
fits quantity.Tenths set = holds 2 set
fits quantity.WholeDegrees set = holds 1 set

fits_row : Row → Bool
fits_row r = fits r.quantity r.set

row_fits : (k : ℕ) (q : Quantity) → (row_at k).quantity ≡ q → fits q (set_at k) ≡ true
unfolding rows fits_row fits holds
row_fits k q e = ap (λ (p : Quantity). fits p (set_at k)) (sym e) ∙ tested (fits_row (row_at k)) (each_row fits_row tt tt k)

held_by : (k size : ℕ) → holds size (set_at k) ≡ true → (size_of (set_at k) ≡ size) × (is_text (set_at k) ≡ false)
unfolding holds
held_by k size e =
    let both = both_true (eqb (size_of (set_at k)) size) (not (is_text (set_at k))) e in
    (eqb-true (size_of (set_at k)) size both.0, not-true (is_text (set_at k)) both.1)

pub tenths_slot : (k : ℕ) → (row_at k).quantity ≡ quantity.Tenths → (size_of (set_at k) ≡ 2) × (is_text (set_at k) ≡ false)
unfolding fits
tenths_slot k e = held_by k 2 (row_fits k quantity.Tenths e)

pub degrees_slot : (k : ℕ) → (row_at k).quantity ≡ quantity.WholeDegrees → (size_of (set_at k) ≡ 1) × (is_text (set_at k) ≡ false)
unfolding fits
degrees_slot k e = held_by k 1 (row_fits k quantity.WholeDegrees e)

-- the one byte of whole degrees is its number
pub degrees_number : (k : ℕ) (v : List ℕ) → (row_at k).quantity ≡ quantity.WholeDegrees → length v ≡ size_of (set_at k) → get_or v 0 0 ≡ low_first_number v
degrees_number k v e h = by v (h ∙ (degrees_slot k e).0)
  where
    by : (w : List ℕ) → length w ≡ 1 → get_or w 0 0 ≡ low_first_number w
    by [] p = refl
    by (x ∷ []) p = omega arith
    by (x ∷ y ∷ rest) p = absurd (omega arith)

-- a quantity from its number
pub quantity_back : (q : Quantity) → quantity_of (quantity_number q) ≡ q
quantity_back quantity.Plain = refl
quantity_back quantity.Tenths = refl
quantity_back quantity.WholeDegrees = refl
