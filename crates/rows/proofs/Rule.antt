-- The rule of the table, computed once over both products and carried to each row.
use Prim.Native.Nat.{ℕ, zero, suc, ◌^◌, ◌≤◌, ◌<◌}
use native.Mathlib.Nat.{le_of_suc-le-suc, not-suc-le-zero}
use native.Mathlib.Omega.{arith}
use mathlib.Core.Bool.{Bool, true, false, cond, ◌&&◌, ◌||◌}
use mathlib.Core.List.{List, [], ◌∷◌}
use mathlib.Core.Logic.{⊎_elim}
use mathlib.Core.Path.{◌≡◌, refl, sym, ◌∙◌, subst}
use borrow.Author.Tests.{eq-eqb, eqb-true, leb-true, ltb-true}
use lib.Dec.{T, eqb, leb, ltb, leb→le, ltb→lt, eqb→eq}
use lib.ListN.{length, get_or, replicate}
use Rattle.calendar.specs.Dates.{days_of_months, days_of_years}
use Rattle.rows.specs.Rows.{Set, Switch, Number, Text, Free, Clock, Calendar, Time, Row, rows, no_row, row_at, has}
use Rattle.rows.specs.Sets.{greatest, printable, member}
use Rattle.rows.specs.Layout.{row_count, longest, size_of}
use Rattle.rows.specs.Columns.{range_of}
use Rattle.rows.specs.Start.{lowest, start_value}
use Rattle.rows.specs.Rule.{Fits, Follows, RowsFollow, NumbersAscend}
use Rattle.octets.proofs.Booleans.{both_true}
use Rattle.rows.proofs.Bools.{both, either, tested}
use Rattle.rows.proofs.Tables.{rows_length, no_row_lem, in_or_past, every, own_row}

fits : Set → Bool
fits Switch = true
fits (Number size r) = leb 1 size && leb size 2 && ltb (greatest r) (256 ^ size) && leb 1 r.step
fits (Text shortest most) = leb 1 shortest && leb shortest most && leb most longest
fits (Free size) = leb 1 size && leb size longest
fits Clock = true
fits Calendar = true
fits Time = true

fits_right : (s : Set) → T (fits s) → Fits s
unfolding fits
fits_right Switch t = tt
fits_right (Number size r) t =
    let three = both (leb 1 size && leb size 2 && ltb (greatest r) (256 ^ size)) (leb 1 r.step) t in
    let two = both (leb 1 size && leb size 2) (ltb (greatest r) (256 ^ size)) three.0 in
    let one = both (leb 1 size) (leb size 2) two.0 in
    (leb→le 1 size one.0, leb→le size 2 one.1, ltb→lt (greatest r) (256 ^ size) two.1, leb→le 1 r.step three.1)
fits_right (Text shortest most) t =
    let two = both (leb 1 shortest && leb shortest most) (leb most longest) t in
    let one = both (leb 1 shortest) (leb shortest most) two.0 in
    (leb→le 1 shortest one.0, leb→le shortest most one.1, leb→le most longest two.1)
fits_right (Free size) t =
    let one = both (leb 1 size) (leb size longest) t in
    (leb→le 1 size one.0, leb→le size longest one.1)
fits_right Clock t = tt
fits_right Calendar t = tt
fits_right Time t = tt

-- any bytes of a size
free : ℕ → Set → Bool
free n Switch = false
free n (Number size r) = false
free n (Text shortest most) = false
free n (Free size) = eqb size n
free n Clock = false
free n Calendar = false
free n Time = false

free_member : (n : ℕ) (s : Set) (v : List ℕ) → T (free n s) → length v ≡ n → member s v ≡ true
unfolding free
free_member n Switch v t e = absurd t
free_member n (Number size r) v t e = absurd t
free_member n (Text shortest most) v t e = absurd t
free_member n (Free size) v t e = eq-eqb (length v) size (e ∙ sym (eqb→eq size n t))
free_member n Clock v t e = absurd t
free_member n Calendar v t e = absurd t
free_member n Time v t e = absurd t

-- the ID and the unit type are a board's own
starts : Row → Bool
starts r =
    cond (eqb r.number 0x007C) (free 16 r.set)
    (cond (eqb r.number 0x00B9) (free 2 r.set)
    (member r.set (start_value 0 [] r)))

start_right : (unit : ℕ) (id : List ℕ) → length id ≡ 16 → (r : Row) → T (starts r) → member r.set (start_value unit id r) ≡ true
unfolding starts start_value
start_right unit id e r t = choose (eqb r.number 0x007C) (eqb r.number 0x00B9) refl refl t
  where
    choose :
        (a b : Bool) → eqb r.number 0x007C ≡ a → eqb r.number 0x00B9 ≡ b
        → T (cond a (free 16 r.set) (cond b (free 2 r.set) (member r.set (start_value 0 [] r))))
        → member r.set (start_value unit id r) ≡ true
    choose true b p q u = let n : r.number ≡ 0x007C = eqb-true r.number 0x007C p in rw n (free_member 16 r.set id u e)
    choose false true p q u = let n : r.number ≡ 0x00B9 = eqb-true r.number 0x00B9 q in rw n (free_member 2 r.set (unit ∷ 0 ∷ []) u refl)
    choose false false p q u = rw (p, q) (tested _ (rw (p, q) at u))

-- the test of a row, and of a row and one behind it: a greater number, or a later product
ruled : Row → Bool
ruled r = fits r.set && starts r

before : Row → Row → Bool
before r next = ltb r.number next.number || ltb r.last next.first

follow : List Row → Bool
follow [] = true
follow (r ∷ rs) = (ruled r && every (before r) rs) && follow rs

-- computed once, over both products
all_follow : T (follow rows)
unfolding rows follow ruled before fits free starts lowest start_value printable days_of_months days_of_years
all_follow = tt

-- and carried to each row
follow_parts : (r : Row) (rs : List Row) → T (follow (r ∷ rs)) → T (ruled r) × T (every (before r) rs) × T (follow rs)
unfolding follow
follow_parts r rs t =
    let two = both (ruled r && every (before r) rs) (follow rs) t in
    let one = both (ruled r) (every (before r) rs) two.0 in
    (one.0, one.1, two.1)

ruled_at : (l : List Row) → T (follow l) → (k : ℕ) → k < length l → T (ruled (get_or l k no_row))
ruled_at [] t k h = absurd (not-suc-le-zero h)
ruled_at (r ∷ rs) t zero h = (follow_parts r rs t).0
ruled_at (r ∷ rs) t (suc k) h = ruled_at rs (follow_parts r rs t).2 k (le_of_suc-le-suc h)

-- two rows of one unit type are of one product
shared : (unit : ℕ) (r next : Row) → has unit r ≡ true → has unit next ≡ true → T (before r next) → r.number < next.number
unfolding before
shared unit r next h g t =
    ⊎_elim
    (λ p. ltb-true r.number next.number p)
    (λ p. absurd (omega (arith, ltb-true r.last next.first p, leb-true unit r.last (both_true (leb r.first unit) (leb unit r.last) h).1, leb-true next.first unit (both_true (leb next.first unit) (leb unit next.last) g).0)))
    (either (ltb r.number next.number) (ltb r.last next.first) (tested (before r next) t))

ascends_at :
    (unit : ℕ) (l : List Row) → T (follow l) → (j k : ℕ) → j < k → k < length l → has unit (get_or l j no_row) ≡ true → has unit (get_or l k no_row) ≡ true
    → (get_or l j no_row).number < (get_or l k no_row).number
ascends_at unit [] t j k q h g e = absurd (not-suc-le-zero h)
ascends_at unit (r ∷ rs) t j zero q h g e = absurd (not-suc-le-zero q)
ascends_at unit (r ∷ rs) t zero (suc k) q h g e =
    shared unit r (get_or rs k no_row) g e (own_row (before r) rs (follow_parts r rs t).1 k (le_of_suc-le-suc h))
ascends_at unit (r ∷ rs) t (suc j) (suc k) q h g e = ascends_at unit rs (follow_parts r rs t).2 j k (le_of_suc-le-suc q) (le_of_suc-le-suc h) g e

follows_right : (r : Row) → T (ruled r) → Follows r
unfolding ruled
follows_right r t =
    let parts = both (fits r.set) (starts r) t in
    let id : List ℕ = replicate 16 0 in
    record {
      fits = fits_right r.set parts.0;
      some_value = (start_value 0 id r, start_right 0 id refl r parts.1);
      start_legal = λ unit own e. start_right unit own e r parts.1;
    }

pub rows_follow : RowsFollow
rows_follow k h = follows_right (row_at k) (ruled_at rows all_follow k (rw rows_length h))

pub numbers_ascend : NumbersAscend
numbers_ascend unit j k q h g e = ascends_at unit rows all_follow j k q (rw rows_length h) g e

-- what follows of sizes and steps, past the last row too
size_fits : (s : Set) → Fits s → size_of s ≤ longest
size_fits Switch f = omega arith
size_fits (Number size r) f = omega (arith, f.1)
size_fits (Text shortest most) f = f.2
size_fits (Free size) f = f.1
size_fits Clock f = omega arith
size_fits Calendar f = omega arith
size_fits Time f = omega arith

step_fits : (s : Set) → Fits s → 0 < (range_of s).step
step_fits Switch f = omega arith
step_fits (Number size r) f = f.3
step_fits (Text shortest most) f = omega arith
step_fits (Free size) f = omega arith
step_fits Clock f = omega arith
step_fits Calendar f = omega arith
step_fits Time f = omega arith

-- what every row has, and the one that stands for none
pub everywhere : (P : Row → Type 0) → ((k : ℕ) → k < row_count → P (row_at k)) → P no_row → (k : ℕ) → P (row_at k)
everywhere P rows none k = ⊎_elim (λ h. rows k h) (λ h. subst P (no_row_lem k h) none) (in_or_past k row_count)

pub size_most : (k : ℕ) → size_of (row_at k).set ≤ longest
size_most k = everywhere (λ (r : Row). size_of r.set ≤ longest) (λ j h. size_fits (row_at j).set (rows_follow j h).fits) (omega arith) k

pub step_pos : (k : ℕ) → 0 < (range_of (row_at k).set).step
step_pos k = everywhere (λ (r : Row). 0 < (range_of r.set).step) (λ j h. step_fits (row_at j).set (rows_follow j h).fits) (omega arith) k
