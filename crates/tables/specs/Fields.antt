-- The fields of a line: each in quotes, with a comma between two (RFC 4180).
use Rattle.std.specs.Prelude.{ℕ, cond, List, [], ◌∷◌, ◌++◌, eqb}
use Rattle.std.proofs.Math.Option.{Option, none, some, map}

abbrev pub quote : ℕ
quote = 0x22

abbrev pub comma : ℕ
comma = 0x2C

-- a line of fields, each as it stands between its quotes
unfoldable pub quoted : List (List ℕ) → List ℕ
quoted [] = []
quoted (field ∷ []) = quote ∷ field ++ quote ∷ []
quoted (field ∷ other ∷ fields) = quote ∷ field ++ quote ∷ comma ∷ quoted (other ∷ fields)

-- a byte before the first field
abbrev pub before : ℕ → Option (List (List ℕ)) → Option (List (List ℕ))
before c none = none
before c (some []) = none
before c (some (field ∷ fields)) = some ((c ∷ field) ∷ fields)

-- What is left of a line. The fields are as they stand between their quotes, so that a doubled quote is two bytes; none where the
-- quoting fails.
unfoldable mutual
  -- where a field starts
  pub opening : List ℕ → Option (List (List ℕ))
  opening [] = none
  opening (c ∷ s) = cond (eqb c quote) (inside s) none

  -- in a field
  pub inside : List ℕ → Option (List (List ℕ))
  inside [] = none
  inside (c ∷ s) = cond (eqb c quote) (closed s) (before c (inside s))

  -- behind a quote: it is doubled, or ends the field
  pub closed : List ℕ → Option (List (List ℕ))
  closed [] = some ([] ∷ [])
  closed (c ∷ s) =
      cond (eqb c quote) (before quote (before quote (inside s)))
      (cond (eqb c comma) (map (λ (fields : List (List ℕ)). [] ∷ fields) (opening s))
      none)

abbrev pub fields_of : List ℕ → Option (List (List ℕ))
fields_of line = opening line
