-- Counts from zeros are how many records have each pair.
use Prim.Native.Nat.{ℕ, ◌+◌, ◌<◌, ◌≤◌}
use native.Mathlib.Omega.{arith}
use mathlib.Core.Bool.{Bool, true, false, cond, ◌&&◌}
use mathlib.Core.List.{List, [], ◌∷◌}
use mathlib.Core.Path.{◌≡◌, refl, sym, ◌∙◌}
use borrow.Author.Tests.{eqb-true, eqb-false, lt-ltb}
use lib.Dec.{eqb}
use lib.ListN.{length, get_or, length-set, length-replicate, get_or-replicate}
use lib.Seq.{get_or-set_same, get_or-set_other}
use Rattle.captures.specs.Form.{Record}
use Rattle.counts.specs.Counting.{numbers_per_board, number_of, count_of, place_of, place, count_limit, more, counted, counted_one}
use Rattle.counts.specs.Statements.{zeros, PairsCounted}
use Rattle.counts.proofs.Numbers.{numbers_bounded}

pub length_counted : (counts : List ℕ) (records : List Record) → length (counted counts records) ≡ length counts
unfolding counted
length_counted counts [] = refl
length_counted counts (r ∷ rs) = length_counted (counted_one counts r) rs ∙ length-set counts (place r) (more (get_or counts (place r) 0))

at_most_one : (t : Bool) → cond t 1 0 ≤ 1
at_most_one true = omega arith
at_most_one false = omega arith

module _ (index number : ℕ) (small : number < numbers_per_board) where
  -- one record more
  one_at :
      (counts : List ℕ) (r : Record) → place_of index number < length counts → get_or counts (place_of index number) 0 < count_limit
      → get_or (counted_one counts r) (place_of index number) 0
      ≡ cond (eqb r.index index && eqb (number_of r) number) 1 0 + get_or counts (place_of index number) 0
  one_at counts r inside room = by_index (eqb r.index index) refl
    where
      Goal : Bool → Bool → Type 0
      Goal s t = get_or (counted_one counts r) (place_of index number) 0 ≡ cond (s && t) 1 0 + get_or counts (place_of index number) 0

      other : (place r ≡ place_of index number → ⊥) → get_or (counted_one counts r) (place_of index number) 0 ≡ get_or counts (place_of index number) 0
      other differs = get_or-set_other counts (place r) (place_of index number) (more (get_or counts (place r) 0)) 0 (λ e. differs (sym e))

      by_number : r.index ≡ index → (t : Bool) → eqb (number_of r) number ≡ t → Goal true t
      by_number e true h =
          let here : place r ≡ place_of index number = λ i. place_of (e i) (eqb-true (number_of r) number h i) in
          rw here
          (get_or-set_same counts (place_of index number) (more (get_or counts (place_of index number) 0)) 0 inside
          ∙ rw (lt-ltb (get_or counts (place_of index number) 0) count_limit room) (omega arith))
      by_number e false h = other (λ same. eqb-false (number_of r) number h (omega arith)) ∙ omega arith

      by_index : (s : Bool) → eqb r.index index ≡ s → Goal s (eqb (number_of r) number)
      by_index true h = by_number (eqb-true r.index index h) (eqb (number_of r) number) refl
      by_index false h =
          other (λ same. eqb-false r.index index h (omega (arith, numbers_bounded r.direction r.packet))) ∙ omega arith

  counted_at :
      (records : List Record) (counts : List ℕ) → place_of index number < length counts
      → get_or counts (place_of index number) 0 + length records ≤ count_limit
      → get_or (counted counts records) (place_of index number) 0 ≡ count_of records index number + get_or counts (place_of index number) 0
  unfolding counted count_of
  counted_at [] counts inside room = omega arith
  counted_at (r ∷ rs) counts inside room =
      let one = one_at counts r inside (omega arith) in
      let rest = counted_at rs (counted_one counts r) (simp length-set inside) (omega (arith, at_most_one (eqb r.index index && eqb (number_of r) number))) in
      omega arith

pub pairs_counted : PairsCounted
pairs_counted size records index number few small inside =
    let nothing : get_or (zeros size) (place_of index number) 0 ≡ 0 = get_or-replicate size (place_of index number) 0 0 inside in
    counted_at index number small records (zeros size) (simp length-replicate inside) (omega arith) ∙ omega arith
