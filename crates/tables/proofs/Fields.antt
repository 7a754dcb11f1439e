-- Fields that were written are read, and fields that are read are those that stand in the line.
use Prim.Native.Nat.{ℕ}
use mathlib.Core.Bool.{Bool, true, false, cond}
use mathlib.Core.List.{List, [], ◌∷◌, ◌++◌}
use mathlib.Core.Option.{Option, none, some, map}
use mathlib.Core.Path.{◌≡◌, refl, ap, ◌∙◌}
use borrow.Author.Tests.{eqb-true}
use lib.Dec.{eqb}
use Rattle.tables.specs.Fields.{quote, comma, before, opening, inside, closed, quoted, fields_of}

-- no quote
abbrev pub NoQuote : List ℕ → Type 0
NoQuote [] = Unit {0}
NoQuote (c ∷ s) = (eqb c quote ≡ false) × NoQuote s

abbrev pub NoQuotes : List (List ℕ) → Type 0
NoQuotes [] = Unit {0}
NoQuotes (f ∷ fs) = NoQuote f × NoQuotes fs

-- a field's bytes before what stands behind its quote
inside_written : (f rest : List ℕ) (fs : List (List ℕ)) → NoQuote f → closed rest ≡ some ([] ∷ fs) → inside (f ++ (quote ∷ rest)) ≡ some (f ∷ fs)
unfolding inside
inside_written [] rest fs h e = e
inside_written (c ∷ s) rest fs h e = rw (h.0, inside_written s rest fs h.1 e)

pub fields_written : (f : List ℕ) (fs : List (List ℕ)) → NoQuotes (f ∷ fs) → opening (quoted (f ∷ fs)) ≡ some (f ∷ fs)
unfolding opening closed quoted
fields_written f [] h = inside_written f [] [] h.0 refl
fields_written f (g ∷ fs) h =
    inside_written f (comma ∷ quoted (g ∷ fs)) (g ∷ fs) h.0 (ap (map (λ (fields : List (List ℕ)). [] ∷ fields)) (fields_written g fs h.1))

-- a field from its first byte on, and what stands behind it
abbrev following : List (List ℕ) → List ℕ
following [] = []
following (field ∷ fields) = comma ∷ quoted (field ∷ fields)

abbrev standing : List (List ℕ) → List ℕ
standing [] = []
standing (field ∷ fields) = field ++ quote ∷ following fields

quoted_standing : (field : List ℕ) (fields : List (List ℕ)) → quoted (field ∷ fields) ≡ quote ∷ standing (field ∷ fields)
unfolding quoted
quoted_standing field [] = refl
quoted_standing field (other ∷ fields) = refl

-- some field, and these bytes are its text and what follows
abbrev Stands : Option (List (List ℕ)) → List ℕ → Type 0
Stands none line = Unit {0}
Stands (some []) line = ⊥
Stands (some (field ∷ fields)) line = standing (field ∷ fields) ≡ line

abbrev Starts : Option (List (List ℕ)) → List ℕ → Type 0
Starts none line = Unit {0}
Starts (some []) line = ⊥
Starts (some (field ∷ fields)) line = quoted (field ∷ fields) ≡ line

stands_before : (c : ℕ) (found : Option (List (List ℕ))) (line : List ℕ) → Stands found line → Stands (before c found) (c ∷ line)
stands_before c none line h = tt
stands_before c (some []) line h = tt
stands_before c (some (field ∷ fields)) line h = ap (λ (l : List ℕ). c ∷ l) h

starts_next : (found : Option (List (List ℕ))) (line : List ℕ) → Starts found line → Stands (map (λ (fields : List (List ℕ)). [] ∷ fields) found) (quote ∷ comma ∷ line)
starts_next none line h = tt
starts_next (some []) line h = absurd h
starts_next (some (field ∷ fields)) line h = ap (λ (l : List ℕ). quote ∷ comma ∷ l) h

stands_starts : (found : Option (List (List ℕ))) (line : List ℕ) → Stands found line → Starts found (quote ∷ line)
stands_starts none line h = tt
stands_starts (some []) line h = h
stands_starts (some (field ∷ fields)) line h = quoted_standing field fields ∙ ap (λ (l : List ℕ). quote ∷ l) h

-- by whether a byte is a quote, or else a comma
quote_or : (c : ℕ) (s : List ℕ) (at_quote other : Option (List (List ℕ))) → Stands at_quote (quote ∷ s) → Stands other (c ∷ s) → Stands (cond (eqb c quote) at_quote other) (c ∷ s)
quote_or c s at_quote other h k = by_test (eqb c quote) refl
  where
    by_test : (t : Bool) → eqb c quote ≡ t → Stands (cond t at_quote other) (c ∷ s)
    by_test false e = k
    by_test true e = rw (eqb-true c quote e) h

quote_opens : (c : ℕ) (s : List ℕ) (found : Option (List (List ℕ))) → Starts found (quote ∷ s) → Starts (cond (eqb c quote) found none) (c ∷ s)
quote_opens c s found h = by_test (eqb c quote) refl
  where
    by_test : (t : Bool) → eqb c quote ≡ t → Starts (cond t found none) (c ∷ s)
    by_test false e = tt
    by_test true e = rw (eqb-true c quote e) h

behind_quote :
    (c : ℕ) (s : List ℕ) (doubled next : Option (List (List ℕ))) → Stands doubled (quote ∷ quote ∷ s) → Stands next (quote ∷ comma ∷ s)
    → Stands (cond (eqb c quote) doubled (cond (eqb c comma) next none)) (quote ∷ c ∷ s)
behind_quote c s doubled next h k = by_tests (eqb c quote) refl (eqb c comma) refl
  where
    by_tests : (t : Bool) → eqb c quote ≡ t → (u : Bool) → eqb c comma ≡ u → Stands (cond t doubled (cond u next none)) (quote ∷ c ∷ s)
    by_tests true e u f = rw (eqb-true c quote e) h
    by_tests false e true f = rw (eqb-true c comma f) k
    by_tests false e false f = tt

mutual
  unfolding opening

  opened : (line : List ℕ) → Starts (opening line) line
  opened [] = tt
  opened (c ∷ s) = quote_opens c s (inside s) (stands_starts (inside s) s (within s))

  within : (line : List ℕ) → Stands (inside line) line
  within [] = tt
  within (c ∷ s) = quote_or c s (closed s) (before c (inside s)) (ending s) (stands_before c (inside s) s (within s))

  -- behind a quote
  ending : (line : List ℕ) → Stands (closed line) (quote ∷ line)
  ending [] = refl
  ending (c ∷ s) =
      behind_quote c s (before quote (before quote (inside s))) (map (λ (fields : List (List ℕ)). [] ∷ fields) (opening s))
      (stands_before quote (before quote (inside s)) (quote ∷ s) (stands_before quote (inside s) s (within s)))
      (starts_next (opening s) s (opened s))

pub fields_quoted : (line : List ℕ) (fields : List (List ℕ)) → fields_of line ≡ some fields → quoted fields ≡ line
fields_quoted line fields e = by_found fields (rw e at (opened line))
  where
    by_found : (fields : List (List ℕ)) → Starts (some fields) line → quoted fields ≡ line
    by_found [] h = absurd h
    by_found (field ∷ fields) h = h
