-- What an operation stores is a member of the row's set, and a member is read back as it was stored.
use Prim.Native.Nat.{ℕ, zero, suc, ◌-◌, ◌≤◌, ◌<◌}
use native.Mathlib.Omega.{arith}
use mathlib.Core.Bool.{Bool, true, false, cond, not, false≢true, ◌&&◌, ◌||◌}
use mathlib.Core.List.{List, [], ◌∷◌, ◌++◌, append-nil}
use mathlib.Core.Logic.{⊎_elim}
use Rattle.std.specs.Prelude.{Option, None, Some, option_map, Ok, Err}
use mathlib.Core.Path.{◌≡◌, refl, sym, ap, ◌∙◌, subst}
use borrow.Author.Tests.{eq-eqb, eqb-true, leb-true, lt-ltb, ltb-true, not-true}
use lib.Dec.{eqb, leb, ltb}
use lib.ListN.{length, get_or, take, drop, replicate}
use lib.Seq.{take_all, take_at}
use Rattle.octets.specs.Octets.{between}
use Rattle.refusals.specs.declared.Refusal.TheVariants.{NotMeasured, MeasuredLength}
use Rattle.rows.specs.declared.Range.{Range}
use Rattle.store.specs.declared.Store.{Store}
use Rattle.rows.specs.Rows.{Set, Switch, Number, Text, Free, Clock, Calendar, Time, Row, rows, row_at, row_of, allows, known, is_identity, index_of}
use Rattle.rows.specs.Rule.{Fits}
use Rattle.rows.specs.Sets.{low_first_number, bytes_of, in_range, greatest, printable, is_clock, is_calendar, is_time, member, least_above, greatest_below}
use Rattle.rows.specs.Layout.{size_of, is_text}
use Rattle.store.specs.Layout.{filled, to_slot, from_slot, value_of}
use Rattle.store.specs.Operations.{inverts, inverse, neighbour, measurable, accepted}
use Rattle.store.specs.Laws.{Operation, Write, Raise, Lower, Measure, new_value}
use Rattle.octets.proofs.Booleans.{both_true}
use Rattle.rows.proofs.Bools.{either, not_both, no_value, tested}
use Rattle.store.proofs.Searches.{range_most, least_above_lem, greatest_below_lem}
use Rattle.rows.proofs.Rule.{everywhere, rows_follow}
use Rattle.rows.proofs.Tables.{each_row}

-- how long a member is: as long as its slot, a text at least its shortest
unfoldable pub shortest_of : Set → ℕ
shortest_of Switch = 1
shortest_of (Number size r) = size
shortest_of (Text shortest longest) = shortest
shortest_of (Free size) = size
shortest_of Clock = 3
shortest_of Calendar = 4
shortest_of Time = 2

exact : (n size : ℕ) (rest : Bool) → (eqb n size && rest) ≡ true → (size ≤ n) × (n ≤ size)
exact n size rest e =
    let same : n ≡ size = eqb-true n size (both_true (eqb n size) rest e).0 in
    (omega arith, omega arith)

pub member_length : (set : Set) (v : List ℕ) → member set v ≡ true → (shortest_of set ≤ length v) × (length v ≤ size_of set)
unfolding shortest_of
member_length Switch v e = exact (length v) 1 (leb (get_or v 0 0) 1) e
member_length (Number size r) v e = exact (length v) size (in_range r (low_first_number v)) e
member_length (Text shortest longest) v e =
    let bounds = both_true (leb shortest (length v)) (leb (length v) longest) (both_true (between shortest longest (length v)) (printable v) e).0 in
    (leb-true shortest (length v) bounds.0, leb-true (length v) longest bounds.1)
member_length (Free size) v e = let same : length v ≡ size = eqb-true (length v) size e in (omega arith, omega arith)
member_length Clock v e = exact (length v) 3 (is_clock v) e
member_length Calendar v e = exact (length v) 4 (is_calendar v) e
member_length Time v e = exact (length v) 2 (is_time v) e

plain_length : (set : Set) → is_text set ≡ false → shortest_of set ≡ size_of set
unfolding shortest_of
plain_length Switch e = refl
plain_length (Number size r) e = refl
plain_length (Text shortest longest) e = absurd (false≢true (sym e))
plain_length (Free size) e = refl
plain_length Clock e = refl
plain_length Calendar e = refl
plain_length Time e = refl

-- a value that fits its slot is read back
filled_short : (size : ℕ) (v : List ℕ) → length v ≤ size → filled size v ≡ v ++ replicate (size - length v) 0
filled_short size v h = ap (λ (l : List ℕ). l ++ replicate (size - length v) 0) (take_all size v h)

filled_exact : (size : ℕ) (v : List ℕ) → size ≤ length v → length v ≤ size → filled size v ≡ v
filled_exact size v k h =
    let none : size - length v ≡ 0 = omega arith in
    filled_short size v h ∙ ap (λ (n : ℕ). v ++ replicate n 0) none ∙ append-nil v

-- a slot and its value, by whether it is a text's
abbrev slot_by : Bool → ℕ → List ℕ → List ℕ
slot_by text size v = cond text (length (take size v) ∷ filled size v) (filled size v)

abbrev value_by : Bool → List ℕ → List ℕ
value_by text slot = cond text (take (get_or slot 0 0) (drop 1 slot)) slot

pub read_slot : (set : Set) (v : List ℕ) → member set v ≡ true → from_slot set (to_slot set v) ≡ v
read_slot set v e = choose (is_text set) refl (member_length set v e)
  where
    choose : (b : Bool) → is_text set ≡ b → (shortest_of set ≤ length v) × (length v ≤ size_of set) → value_by b (slot_by b (size_of set) v) ≡ v
    choose true t (k, h) =
        ap (λ (l : List ℕ). take (length (take (size_of set) v)) l) (filled_short (size_of set) v h)
        ∙ take_at v (replicate (size_of set - length v) 0) (length (take (size_of set) v)) (ap length (sym (take_all (size_of set) v h)))
    choose false t (k, h) = filled_exact (size_of set) v (omega (arith, plain_length set t)) h

-- the inverse of a switch is a member
inverse_member : (set : Set) (v held : List ℕ) → inverts set v ≡ true → member set (inverse held) ≡ true
inverse_member Switch v held e = choose (eqb (get_or held 0 0) 0)
  where
    choose : (b : Bool) → member Switch (cond b (1 ∷ []) (0 ∷ [])) ≡ true
    choose true = refl
    choose false = refl
inverse_member (Number size r) v held e = absurd (false≢true e)
inverse_member (Text shortest longest) v held e = absurd (false≢true e)
inverse_member (Free size) v held e = absurd (false≢true e)
inverse_member Clock v held e = absurd (false≢true e)
inverse_member Calendar v held e = absurd (false≢true e)
inverse_member Time v held e = absurd (false≢true e)

write_member : (set : Set) (v held w : List ℕ) (a b c : Bool) → member set v ≡ b → inverts set v ≡ c
    → cond a (cond b (Some v) (cond c (Some (inverse held)) None)) None ≡ Some w → member set w ≡ true
write_member set v held w true true c p q h = let same : v ≡ w = cc in ap (member set) (sym same) ∙ p
write_member set v held w true false true p q h =
    let same : inverse held ≡ w = cc in
    ap (member set) (sym same) ∙ inverse_member set v held q
write_member set v held w true false false p q h = absurd (no_value w h)
write_member set v held w false b c p q h = absurd (no_value w h)

-- a number's row has one or two bytes, enough for each number of its range
pub numbered : Set → Bool
numbered Switch = true
numbered (Number size r) = eqb size 1 && ltb (greatest r) 256 || eqb size 2 && ltb (greatest r) 65536
numbered (Text shortest longest) = true
numbered (Free size) = true
numbered Clock = true
numbered Calendar = true
numbered Time = true

numbered_fits : (s : Set) → Fits s → numbered s ≡ true
unfolding numbered
numbered_fits Switch f = refl
numbered_fits (Number zero r) f = absurd (omega (arith, f.0))
numbered_fits (Number (suc zero) r) f = rw (lt-ltb (greatest r) 256 f.2) refl
numbered_fits (Number (suc (suc zero)) r) f = rw (lt-ltb (greatest r) 65536 f.2) refl
numbered_fits (Number (suc (suc (suc n))) r) f = absurd (omega (arith, f.1))
numbered_fits (Text shortest longest) f = refl
numbered_fits (Free size) f = refl
numbered_fits Clock f = refl
numbered_fits Calendar f = refl
numbered_fits Time f = refl

pub numbered_row : (unit n : ℕ) → numbered (row_of unit n).set ≡ true
unfolding numbered
numbered_row unit n =
    everywhere (λ (r : Row). numbered r.set ≡ true) (λ k h. numbered_fits (row_at k).set (rows_follow k h).fits) refl (index_of unit n)

number_back : (size x : ℕ) (r : Range) → numbered (Number size r) ≡ true → x ≤ greatest r → (length (bytes_of size x) ≡ size) × (low_first_number (bytes_of size x) ≡ x)
unfolding numbered
number_back size x r e h =
    ⊎_elim
    (λ p. let q = both_true (eqb size 1) (ltb (greatest r) 256) p in
    let small : x < 256 = omega (arith, ltb-true (greatest r) 256 q.1) in
    subst (λ (k : ℕ). (length (bytes_of k x) ≡ k) × (low_first_number (bytes_of k x) ≡ x)) (sym (eqb-true size 1 q.0)) (refl, omega arith))
    (λ p. let q = both_true (eqb size 2) (ltb (greatest r) 65536) p in
    let small : x < 65536 = omega (arith, ltb-true (greatest r) 65536 q.1) in
    subst (λ (k : ℕ). (length (bytes_of k x) ≡ k) × (low_first_number (bytes_of k x) ≡ x)) (sym (eqb-true size 2 q.0)) (refl, omega arith))
    (either (eqb size 1 && ltb (greatest r) 256) (eqb size 2 && ltb (greatest r) 65536) e)

-- the bytes of a neighbour are that number
pub record Bytes (size : ℕ) (r : Range) (o : Option ℕ) (w : List ℕ) : Type 0 where
  pub number : ℕ
  pub found : o ≡ Some number
  pub within : in_range r number ≡ true
  pub sized : length w ≡ size
  pub back : low_first_number w ≡ number

pub next_bytes : (size : ℕ) (r : Range) (o : Option ℕ) (w : List ℕ) → numbered (Number size r) ≡ true → ((y : ℕ) → o ≡ Some y → in_range r y ≡ true)
    → option_map (bytes_of size) o ≡ Some w → Bytes size r o w
next_bytes size r None w e h k = absurd (no_value w k)
next_bytes size r (Some y) w e h k =
    let same : bytes_of size y ≡ w = cc in
    let num = number_back size y r e (range_most r y (h y refl)) in
    record {
      number = y;
      found = refl;
      within = h y refl;
      sized = ap length (sym same) ∙ num.0;
      back = ap low_first_number (sym same) ∙ num.1;
    }

-- both searches stay in the range
abbrev Stays : (Range → ℕ → Option ℕ) → Type 0
Stays next = (r : Range) (x y : ℕ) → next r x ≡ Some y → in_range r y ≡ true

neighbour_member : (next : Range → ℕ → Option ℕ) → Stays next → (set : Set) (held w : List ℕ) → numbered set ≡ true
    → neighbour next set held ≡ Some w → member set w ≡ true
neighbour_member next stays (Number size r) held w e h =
    let found : Bytes size r (next r (low_first_number held)) w = next_bytes size r (next r (low_first_number held)) w e (λ y k. stays r (low_first_number held) y k) h in
    rw (eq-eqb (length w) size found.sized, found.back) found.within
neighbour_member next stays Switch held w e h = absurd (no_value w h)
neighbour_member next stays (Text shortest longest) held w e h = absurd (no_value w h)
neighbour_member next stays (Free size) held w e h = absurd (no_value w h)
neighbour_member next stays Clock held w e h = absurd (no_value w h)
neighbour_member next stays Calendar held w e h = absurd (no_value w h)
neighbour_member next stays Time held w e h = absurd (no_value w h)

allowed_member : (next : Range → ℕ → Option ℕ) → Stays next → (unit n : ℕ) (held w : List ℕ) (a : Bool)
    → cond a (neighbour next (row_of unit n).set held) None ≡ Some w → member (row_of unit n).set w ≡ true
allowed_member next stays unit n held w true h = neighbour_member next stays (row_of unit n).set held w (numbered_row unit n) h
allowed_member next stays unit n held w false h = absurd (no_value w h)

-- a row that is not written takes any bytes of its size
abbrev is_free : Set → Bool
is_free Switch = false
is_free (Number size r) = false
is_free (Text shortest longest) = false
is_free (Free size) = true
is_free Clock = false
is_free Calendar = false
is_free Time = false

free_set : (set : Set) → is_free set ≡ true → Free (size_of set) ≡ set
free_set Switch e = absurd (false≢true e)
free_set (Number size r) e = absurd (false≢true e)
free_set (Text shortest longest) e = absurd (false≢true e)
free_set (Free size) e = refl
free_set Clock e = absurd (false≢true e)
free_set Calendar e = absurd (false≢true e)
free_set Time e = absurd (false≢true e)

unwritten_free : Row → Bool
unwritten_free r = leb 2 r.functions || is_free r.set

free_row : (unit n : ℕ) → allows unit n 2 ≡ false → Free (size_of (row_of unit n).set) ≡ (row_of unit n).set
unfolding rows unwritten_free
free_row unit n e =
    ⊎_elim
    (λ p. absurd (not_both p e))
    (λ p. free_set (row_of unit n).set p)
    (either (allows unit n 2) (is_free (row_of unit n).set) (tested (unwritten_free (row_of unit n)) (each_row unwritten_free tt tt (index_of unit n))))

measure_member : (unit n : ℕ) (v w : List ℕ) (a b : Bool) → measurable unit n ≡ a → eqb (length v) (size_of (row_of unit n).set) ≡ b
    → accepted (cond a (cond b (Ok tt) (Err MeasuredLength)) (Err NotMeasured)) v ≡ Some w → member (row_of unit n).set w ≡ true
measure_member unit n v w true true p q h =
    let same : v ≡ w = cc in
    let unwritten : allows unit n 2 ≡ false =
    not-true (allows unit n 2) (both_true (known unit n) (not (allows unit n 2)) (both_true (known unit n && not (allows unit n 2)) (not (is_identity n)) p).0).1 in
    ap (member (row_of unit n).set) (sym same) ∙ ap (λ (s : Set). member s v) (sym (free_row unit n unwritten)) ∙ q
measure_member unit n v w true false p q h = absurd (no_value w h)
measure_member unit n v w false b p q h = absurd (no_value w h)

pub new_member : (operation : Operation) (s : Store) (n : ℕ) (w : List ℕ) → new_value operation s n ≡ Some w → member (row_of s.unit n).set w ≡ true
new_member (Write v) s n w h =
    write_member (row_of s.unit n).set v (value_of s n) w (allows s.unit n 2) (member (row_of s.unit n).set v) (inverts (row_of s.unit n).set v) refl refl h
new_member Raise s n w h = allowed_member least_above (λ r x y k. (least_above_lem r x y k).within) s.unit n (value_of s n) w (allows s.unit n 4) h
new_member Lower s n w h = allowed_member greatest_below (λ r x y k. (greatest_below_lem r x y k).within) s.unit n (value_of s n) w (allows s.unit n 5) h
new_member (Measure v) s n w h = measure_member s.unit n v w (measurable s.unit n) (eqb (length v) (size_of (row_of s.unit n).set)) refl refl h
