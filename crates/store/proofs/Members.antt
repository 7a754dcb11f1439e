-- The rows of a store in turn.
use Prim.Native.Nat.{ℕ, suc, ◌+◌, ◌≤◌, ◌<◌}
use native.Mathlib.Numerals.{add-one}
use mathlib.Core.Bool.{Bool, true, false, not, ◌&&◌, ◌||◌}
use mathlib.Core.List.{List}
use mathlib.Core.Path.{◌≡◌, refl, ap, ◌∙◌}
use lib.ListN.{drop, drop_of_length-le}
use lib.Seq.{drop-cons}
use Rattle.rows.specs.Rows.{Row, rows, no_row, row_at, has}
use Rattle.rows.specs.Sets.{member}
use Rattle.rows.specs.Layout.{row_count, set_at}
use Rattle.rows.proofs.Found.{index_of_row}
use Rattle.rows.proofs.Tables.{rows_length}
use Rattle.store.specs.declared.Store.{Store}
use Rattle.store.specs.Layout.{value_at, value_of}
use Rattle.store.specs.Operations.{legal}
use Rattle.store.specs.Sound.{sound_rows}

-- whether the row at an index holds a value of its set, by its number and by its index
own_row : (s : Store) (k : ℕ) → k < row_count
    → (not (has s.unit (row_at k)) || legal s (row_at k).number (value_of s (row_at k).number))
    ≡ (not (has s.unit (row_at k)) || member (set_at k) (value_at s.bytes k))
own_row s k h = by (has s.unit (row_at k)) refl
  where
    by : (b : Bool) → has s.unit (row_at k) ≡ b
        → (not b || legal s (row_at k).number (value_of s (row_at k).number)) ≡ (not b || member (set_at k) (value_at s.bytes k))
    by true e = ap (λ (j : ℕ). member (set_at j) (value_at s.bytes j)) (index_of_row s.unit k h e)
    by false e = refl

-- the rows from an index on
pub sound_turn : (s : Store) (k : ℕ) → k < row_count
    → sound_rows s (drop k rows) ≡ ((not (has s.unit (row_at k)) || member (set_at k) (value_at s.bytes k)) && sound_rows s (drop (k + 1) rows))
unfolding sound_rows
sound_turn s k h =
    ap (λ (l : List Row). sound_rows s l) (drop-cons rows k no_row (rw rows_length h))
    ∙ rw add-one (ap (λ (b : Bool). b && sound_rows s (drop (suc k) rows)) (own_row s k h))

pub sound_end : (s : Store) (k : ℕ) → row_count ≤ k → sound_rows s (drop k rows) ≡ true
unfolding sound_rows
sound_end s k h = rw (drop_of_length-le rows {i = k} (rw rows_length h))
