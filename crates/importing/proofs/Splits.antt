-- The fields of a line are its first field, and those of what stands after it.
use Prim.Native.Nat.{ℕ, ◌+◌, ◌-◌, ◌<◌, ◌≤◌}
use native.Mathlib.Omega.{arith}
use mathlib.Core.Bool.{Bool, true, false, cond}
use mathlib.Core.List.{List, [], ◌∷◌}
use mathlib.Core.Option
use mathlib.Core.Option.{Option, none, some, map}
use mathlib.Core.Path.{◌≡◌, refl, sym, ap, ◌∙◌}
use borrow.Author.Tests.{eqb-true}
use lib.Dec.{eqb}
use lib.ListN.{length, take, drop, length-drop}
use Rattle.tables.specs.Fields.{quote, comma, before, opening, inside, closed}
use Rattle.importing.specs.Splitting.{field_size, size_behind, first_field, after_field, first_fields, end_at, field_end, counted}
use Rattle.importing.specs.declared.fields.FieldEnd.{FieldEnd}
use Rattle.importing.specs.declared.fields.FieldEnd.TheVariants as ends
use Rattle.std.specs.Prelude as answers

-- the fields, by what ends the first one
abbrev pub fields_by : FieldEnd → List ℕ → List ℕ → Option (List (List ℕ))
fields_by ends.Wrong field after = none
fields_by ends.Line field after = some (field ∷ [])
fields_by ends.Comma field after = map (λ (list : List (List ℕ)). field ∷ list) (opening after)

before_map : (c : ℕ) (field : List ℕ) (o : Option (List (List ℕ))) → before c (map (λ (list : List (List ℕ)). field ∷ list) o) ≡ map (λ (list : List (List ℕ)). (c ∷ field) ∷ list) o
before_map c field none = refl
before_map c field (some list) = refl

before_by : (c : ℕ) (e : FieldEnd) (field after : List ℕ) → before c (fields_by e field after) ≡ fields_by e (c ∷ field) after
before_by c ends.Wrong field after = refl
before_by c ends.Line field after = refl
before_by c ends.Comma field after = before_map c field (opening after)

-- behind a quote that ends a field
comma_by : (is_comma : Bool) (s : List ℕ) → cond is_comma (map (λ (list : List (List ℕ)). [] ∷ list) (opening s)) none ≡ fields_by (cond is_comma ends.Comma ends.Wrong) [] s
comma_by true s = refl
comma_by false s = refl

-- from the quote that ends a field on
abbrev closing : List ℕ → List ℕ
closing s = drop (field_size s) s

before_inside : (c : ℕ) (field s : List ℕ) → before c (fields_by (end_at (closing s)) field (drop 2 (closing s))) ≡ fields_by (end_at (closing s)) (c ∷ field) (drop 2 (closing s))
before_inside c field s = before_by c (end_at (closing s)) field (drop 2 (closing s))

-- in a field
abbrev InsideBy : List ℕ → Type 0
InsideBy s = inside s ≡ fields_by (end_at (closing s)) (take (field_size s) s) (drop 2 (closing s))

abbrev ClosedBy : ℕ → List ℕ → Type 0
ClosedBy c s = closed s ≡ fields_by (end_at (drop (size_behind s) (c ∷ s))) (take (size_behind s) (c ∷ s)) (drop 2 (drop (size_behind s) (c ∷ s)))

doubled : (c d : ℕ) (s : List ℕ) → c ≡ quote → eqb d quote ≡ true → InsideBy s → ClosedBy c (d ∷ s)
unfolding closed size_behind
doubled c d s is_quote e after =
    rw e
    (ap (λ (o : Option (List (List ℕ))). before quote (before quote o)) after
    ∙ ap (before quote) (before_inside quote (take (field_size s) s) s)
    ∙ before_inside quote (quote ∷ take (field_size s) s) s
    ∙ λ i. fields_by (end_at (closing s)) (sym is_quote i ∷ sym (eqb-true d quote e) i ∷ take (field_size s) s) (drop 2 (closing s)))

behind_by : (is_quote : Bool) (c d : ℕ) (s : List ℕ) → c ≡ quote → eqb d quote ≡ is_quote → InsideBy s → ClosedBy c (d ∷ s)
unfolding closed size_behind
behind_by true c d s first e after = doubled c d s first e after
behind_by false c d s first e after = rw e (comma_by (eqb d comma) s)

on_by : (c : ℕ) (s : List ℕ) → eqb c quote ≡ false → InsideBy s → InsideBy (c ∷ s)
unfolding inside field_size
on_by c s e after = rw e (ap (before c) after ∙ before_inside c (take (field_size s) s) s)

quote_by : (c : ℕ) (s : List ℕ) → eqb c quote ≡ true → ClosedBy c s → InsideBy (c ∷ s)
unfolding inside field_size
quote_by c s e after = rw e after

inside_by : (s : List ℕ) → InsideBy s
unfolding inside field_size closed size_behind
inside_by [] = refl
inside_by (c ∷ []) = by_quote (eqb c quote) refl
  where
    by_quote : (t : Bool) → eqb c quote ≡ t → InsideBy (c ∷ [])
    by_quote true e = quote_by c [] e refl
    by_quote false e = on_by c [] e refl
inside_by (c ∷ d ∷ s) = by_quote (eqb c quote) refl (inside_by s) (inside_by (d ∷ s))
  where
    by_quote : (t : Bool) → eqb c quote ≡ t → InsideBy s → InsideBy (d ∷ s) → InsideBy (c ∷ d ∷ s)
    by_quote true e after other = quote_by c (d ∷ s) e (behind_by (eqb d quote) c d s (eqb-true c quote e) refl after)
    by_quote false e after other = on_by c (d ∷ s) e other

opening_by : (is_quote : Bool) (s : List ℕ) → cond is_quote (inside s) none ≡ fields_by (cond is_quote (end_at (closing s)) ends.Wrong) (take (field_size s) s) (drop 2 (closing s))
opening_by true s = inside_by s
opening_by false s = refl

pub fields_step : (line : List ℕ) → opening line ≡ fields_by (field_end line) (first_field line) (after_field line)
unfolding opening
fields_step [] = refl
fields_step (c ∷ s) = opening_by (eqb c quote) s

-- what ends a field, by how much is left from its last quote on
pub line_end : (l : List ℕ) → length l ≡ 1 → end_at l ≡ ends.Line
line_end [] h = absurd (omega arith)
line_end (q ∷ []) h = refl
line_end (q ∷ c ∷ s) h = absurd (omega arith)

-- a line with a field is not empty
some_line : (line : List ℕ) → (field_end line ≡ ends.Wrong → ⊥) → 0 < length line
some_line [] right = absurd (right refl)
some_line (c ∷ s) right = omega arith

-- counting the fields
count_more : (count : ℕ) (field : List ℕ) (o : Option (List (List ℕ))) → counted count (map (λ (list : List (List ℕ)). field ∷ list) o) ≡ counted (count + 1) o
count_more count field none = refl
count_more count field (some list) = ap answers.Some (omega arith)

module _ (line : List ℕ) (count : ℕ) where
  by_end : {e : FieldEnd} → field_end line ≡ e → counted count (opening line) ≡ counted count (fields_by e (first_field line) (after_field line))
  by_end h = ap (counted count) (fields_step line ∙ ap (λ (e : FieldEnd). fields_by e (first_field line) (after_field line)) h)

  pub count_comma : field_end line ≡ ends.Comma → counted count (opening line) ≡ counted (count + 1) (opening (after_field line))
  count_comma h = by_end h ∙ count_more count (first_field line) (opening (after_field line))

  pub count_line : field_end line ≡ ends.Line → counted count (opening line) ≡ answers.Some (count + 1)
  count_line h = by_end h

  pub count_wrong : field_end line ≡ ends.Wrong → counted count (opening line) ≡ answers.None
  count_wrong h = by_end h

-- less is left where another field follows
pub less_left : (line : List ℕ) → field_end line ≡ ends.Comma → length (after_field line) + 1 ≤ length line
less_left line e =
    let some : 0 < length line = some_line line (λ wrong. cc) in
    let shorter : length (after_field line) ≤ length line - 1 = simp length-drop (omega arith) in
    omega arith

-- what the answer of `count_fields` tells
module _ {answer : answers.Option ℕ} where
  pub some_counted : (o : Option (List (List ℕ))) {count : ℕ} → answer ≡ counted 0 o → answer ≡ answers.Some count → (o ≡ some (Option.get_or o [])) × (count ≡ length (Option.get_or o []))
  some_counted none e h = ((cc), (cc))
  some_counted (some list) {count} e h =
      let all : count ≡ 0 + length list = cc in
      (refl, omega arith)

  pub none_counted : (o : Option (List (List ℕ))) → answer ≡ counted 0 o → answer ≡ answers.None → o ≡ none
  none_counted none e h = refl
  none_counted (some list) e h = cc

-- the fields are the first ones, one after the other
added : (field : List ℕ) (o : Option (List (List ℕ))) {first : List ℕ} {rest : List (List ℕ)} → map (λ (list : List (List ℕ)). field ∷ list) o ≡ some (first ∷ rest) → (field ≡ first) × (o ≡ some rest)
added field none h = ((cc), (cc))
added field (some list) h = ((cc), (cc))

none_added : (field : List ℕ) (o : Option (List (List ℕ))) → map (λ (list : List (List ℕ)). field ∷ list) o ≡ some [] → ⊥
none_added field none h = let impossible : ◌≡◌ {A = ℕ} 0 1 = cc in omega arith
none_added field (some list) h = let impossible : ◌≡◌ {A = ℕ} 0 1 = cc in omega arith

module _ (field after : List ℕ) where
  no_fields : (e : FieldEnd) → fields_by e field after ≡ some [] → ⊥
  no_fields ends.Wrong h = let impossible : ◌≡◌ {A = ℕ} 0 1 = cc in omega arith
  no_fields ends.Line h = let impossible : ◌≡◌ {A = ℕ} 0 1 = cc in omega arith
  no_fields ends.Comma h = none_added field (opening after) h

  first_of :
      (e : FieldEnd) {first : List ℕ} (rest : List (List ℕ)) → fields_by e field after ≡ some (first ∷ rest)
      → (opening after ≡ some rest → first_fields (length rest) after ≡ rest) → field ∷ first_fields (length rest) after ≡ first ∷ rest
  unfolding first_fields
  first_of ends.Wrong rest h again = cc
  first_of ends.Line [] h again = cc
  first_of ends.Line (other ∷ rest) h again = cc
  first_of ends.Comma rest h again =
      let parts = added field (opening after) h in
      λ i. parts.0 i ∷ again parts.1 i

pub first_fields_lem : (list : List (List ℕ)) (line : List ℕ) → opening line ≡ some list → first_fields (length list) line ≡ list
unfolding first_fields
first_fields_lem [] line h = absurd (no_fields (first_field line) (after_field line) (field_end line) (sym (fields_step line) ∙ h))
first_fields_lem (first ∷ rest) line h =
    first_of (first_field line) (after_field line) (field_end line) rest (sym (fields_step line) ∙ h) (λ found. first_fields_lem rest (after_field line) found)
