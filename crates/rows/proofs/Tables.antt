-- What the table of rows is to the code's columns, and what every row of it passes.
use Prim.Native.Nat.{ℕ, zero, suc, ◌+◌, ◌≤◌, ◌<◌}
use native.Mathlib.Nat.{le_of_suc-le-suc, not-suc-le-zero}
use native.Mathlib.Numerals.{add-one}
use native.Mathlib.Omega.{arith}
use mathlib.Core.Bool.{Bool, true, false, cond, ◌&&◌}
use mathlib.Core.List.{List, [], ◌∷◌, map}
use mathlib.Core.Logic.{◌⊎◌, inl, inr, ⊎_elim}
use mathlib.Core.Path.{◌≡◌, refl, sym, ◌∙◌}
use lib.Dec.{T}
use lib.ListN.{length, get_or, drop, drop_of_length-le, get_or-eq_default}
use lib.Seq.{drop-cons}
use Rattle.rows.specs.Rows.{Row, rows, no_row, row_at, named, index_in}
use Rattle.rows.specs.Layout.{row_count, places_from}
use Rattle.rows.proofs.Bools.{both}

-- an index is a row's, or past the last
pub in_or_past : (k n : ℕ) → (k < n) ⊎ (n ≤ k)
in_or_past k zero = inr (omega arith)
in_or_past zero (suc n) = inl (omega arith)
in_or_past (suc k) (suc n) = ⊎_elim (λ h. inl (omega arith)) (λ h. inr (omega arith)) (in_or_past k n)

pub rows_length : length rows ≡ row_count
unfolding rows
rows_length = refl

-- a column's entry is the property of the row at that index, and past the last row that of the row without unit types
in_column : {A : Type 0} (f : Row → A) (l : List Row) (k : ℕ) → get_or (map f l) k (f no_row) ≡ f (get_or l k no_row)
in_column f [] k = refl
in_column f (r ∷ rs) zero = refl
in_column f (r ∷ rs) (suc k) = in_column f rs k

pub column : {A : Type 0} (f : Row → A) (k : ℕ) → get_or (map f rows) k (f no_row) ≡ f (row_at k)
column f k = in_column f rows k

-- past the last row there is none
pub no_row_lem : (k : ℕ) → row_count ≤ k → no_row ≡ row_at k
no_row_lem k h = sym (get_or-eq_default rows no_row (rw rows_length h))

pub places_length : length (places_from 0 0 rows) ≡ row_count
unfolding rows places_from
places_length = refl

-- looking for a unit type's row from an index on
abbrev pub index_from : ℕ → ℕ → ℕ → ℕ
index_from unit n k = index_in unit n (drop k rows)

from_row : (unit n k : ℕ) → k < row_count → index_from unit n k ≡ cond (named unit n (row_at k)) 0 (suc (index_from unit n (k + 1)))
unfolding index_in
from_row unit n k h = rw (drop-cons rows k no_row (rw rows_length h), add-one)

pub index_here : (unit n k : ℕ) → k < row_count → named unit n (row_at k) ≡ true → index_from unit n k ≡ 0
index_here unit n k h e = from_row unit n k h ∙ rw e

pub index_on : (unit n k : ℕ) → k < row_count → named unit n (row_at k) ≡ false → index_from unit n k ≡ suc (index_from unit n (k + 1))
index_on unit n k h e = from_row unit n k h ∙ rw e

pub index_end : (unit n k : ℕ) → row_count ≤ k → index_from unit n k ≡ 0
unfolding index_in
index_end unit n k h = rw (drop_of_length-le rows {i = k} (rw rows_length h))

-- a test that every row passes, computed once over the whole table, holds at each index
abbrev pub every : (Row → Bool) → List Row → Bool
every f [] = true
every f (r ∷ rs) = f r && every f rs

at_row : (f : Row → Bool) (l : List Row) → T (every f l) → T (f no_row) → (k : ℕ) → T (f (get_or l k no_row))
at_row f [] t u k = u
at_row f (r ∷ rs) t u zero = (both (f r) (every f rs) t).0
at_row f (r ∷ rs) t u (suc k) = at_row f rs (both (f r) (every f rs) t).1 u k

pub own_row : (f : Row → Bool) (l : List Row) → T (every f l) → (k : ℕ) → k < length l → T (f (get_or l k no_row))
own_row f [] t k h = absurd (not-suc-le-zero h)
own_row f (r ∷ rs) t zero h = (both (f r) (every f rs) t).0
own_row f (r ∷ rs) t (suc k) h = own_row f rs (both (f r) (every f rs) t).1 k (le_of_suc-le-suc h)

pub each_row : (f : Row → Bool) → T (every f rows) → T (f no_row) → (k : ℕ) → T (f (row_at k))
each_row f t u k = at_row f rows t u k
