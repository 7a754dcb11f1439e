-- Where the rows' slots lie in the store, and what stands in them.
use Prim.Native.Nat.{ℕ, suc, ◌+◌, ◌-◌, ◌≤◌}
use native.Mathlib.Nat.{add_assoc}
use native.Mathlib.Omega.{arith}
use mathlib.Core.Bool.{Bool, true, false, cond}
use mathlib.Core.List.{List, [], ◌∷◌, ◌++◌, append_assoc}
use mathlib.Core.Logic.{⊎_elim}
use mathlib.Core.Path.{◌≡◌, sym, ap, ◌∙◌}
use lib.ListN.{length, take, drop, replicate, length-append, length-take, length-replicate, get_or-eq_default}
use lib.Seq.{take_at, drop_at, drop-drop, length-take-le}
use Rattle.octets.specs.Octets.{overwrite}
use Rattle.store.specs.declared.Store.{Store}
use Rattle.rows.specs.Rows.{Set, Row, rows}
use Rattle.rows.specs.Layout.{row_count, store_size, size_of, is_text, width_of, places_from, set_at, place_at}
use Rattle.store.specs.Layout.{store_of, filled, overwritten, with_value_at}
use Rattle.rows.proofs.Found as found
use Rattle.rows.proofs.Tables.{places_length, no_row_lem, in_or_past}

-- past the last row there is no slot
pub past : (k : ℕ) → row_count ≤ k → (place_at k ≡ 0) × (width_of (set_at k) ≡ 0)
past k h =
    (get_or-eq_default (places_from 0 0 rows) 0 (rw places_length h), ap (λ (r : Row). width_of r.set) (sym (no_row_lem k h)))

pub place_within : (k : ℕ) → place_at k + width_of (set_at k) ≤ store_size
place_within k = ⊎_elim (λ h. found.place_within k h) (λ h. omega (arith, past k h)) (in_or_past k row_count)

pub size_width : (s : Set) → size_of s ≤ width_of s
size_width s = choose (is_text s)
  where
    choose : (b : Bool) → size_of s ≤ cond b (suc (size_of s)) (size_of s)
    choose true = omega arith
    choose false = omega arith

-- bytes put after others are put with them
pub overwrite_append : (l : List ℕ) (at : ℕ) (x y : List ℕ) → at + length x + length y ≤ length l
    → overwrite (overwrite l at x) (at + length x) y ≡ overwrite l at (x ++ y)
overwrite_append l at x y h =
    let head : length (take at l ++ x) ≡ at + length x =
    length-append (take at l) x ∙ ap (λ (n : ℕ). n + length x) (length-take-le at l (omega arith)) in
    ap (λ (t : List ℕ). t ++ y ++ drop (at + length x + length y) (take at l ++ x ++ drop (at + length x) l)) (take_at (take at l ++ x) (drop (at + length x) l) (at + length x) head)
    ∙ ap (λ (t : List ℕ). take at l ++ x ++ y ++ t)
    (sym (drop-drop (length y) (at + length x) (take at l ++ x ++ drop (at + length x) l))
    ∙ ap (λ (t : List ℕ). drop (length y) t) (drop_at (take at l ++ x) (drop (at + length x) l) (at + length x) head)
    ∙ drop-drop (length y) (at + length x) l
    ∙ ap (λ (n : ℕ). drop n l) (add_assoc at (length x) (length y) ∙ ap (λ (n : ℕ). at + n) (sym (length-append x y))))
    ∙ ap (λ (t : List ℕ). t ++ drop (at + length (x ++ y)) l) (append_assoc (take at l) x y)

pub put_append : (s : Store) (at : ℕ) (x y : List ℕ) → length s.bytes ≡ store_size → at + length x + length y ≤ store_size
    → overwritten (overwritten s at x) (at + length x) y ≡ overwritten s at (x ++ y)
put_append s at x y n h =
    ap (store_of s.unit) (overwrite_append s.bytes at x y (omega arith))

-- what a value of a slot's size leaves of it
pub kept_length : (size : ℕ) (v : List ℕ) → length (take size v) ≤ size
kept_length size v = omega (arith, length-take size v)

pub length_filled : (size : ℕ) (v : List ℕ) → length (filled size v) ≡ size
length_filled size v = omega (arith, length-append (take size v) (replicate (size - length v) 0), length-take size v, length-replicate {A = ℕ} (size - length v) 0)

-- a text in its slot, after its length
pub text_within : (k : ℕ) → is_text (set_at k) ≡ true → place_at k + 1 + size_of (set_at k) ≤ store_size
text_within k e =
    let width : width_of (set_at k) ≡ suc (size_of (set_at k)) = rw e in
    omega (arith, place_within k)

pub stored_text : (s : Store) (k : ℕ) (v : List ℕ) → length s.bytes ≡ store_size → is_text (set_at k) ≡ true
    → overwritten (overwritten s (place_at k) (length (take (size_of (set_at k)) v) ∷ [])) (place_at k + 1) (filled (size_of (set_at k)) v) ≡ with_value_at s k v
stored_text s k v n e =
    let size = size_of (set_at k) in
    put_append s (place_at k) (length (take size v) ∷ []) (filled size v) n (omega (arith, text_within k e, length_filled size v)) ∙ rw e
