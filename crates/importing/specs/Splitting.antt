-- The first field of a line, what ends it, and what stands after it.
use Rattle.std.specs.Prelude.{ℕ, zero, suc, ◌+◌, cond, List, [], ◌∷◌, eqb, length, take, drop, get_or}
use Rattle.std.proofs.Math.Option.{Option, none, some}
use Rattle.std.specs.Prelude as answers
use Rattle.tables.specs.Fields.{quote, comma}
use Rattle.importing.specs.declared.fields.FieldEnd.{FieldEnd}
use Rattle.importing.specs.declared.fields.FieldEnd.TheVariants as ends

unfoldable mutual
  -- the bytes before the quote that ends a field, or all where none does
  pub field_size : List ℕ → ℕ
  field_size [] = 0
  field_size (c ∷ s) = cond (eqb c quote) (size_behind s) (suc (field_size s))

  -- behind a quote: it is doubled, or ends the field
  pub size_behind : List ℕ → ℕ
  size_behind [] = 0
  size_behind (c ∷ s) = cond (eqb c quote) (suc (suc (field_size s))) 0

-- from the quote that ends the first field on
abbrev pub closing_of : List ℕ → List ℕ
closing_of line = drop (field_size (drop 1 line)) (drop 1 line)

abbrev pub first_field : List ℕ → List ℕ
first_field line = take (field_size (drop 1 line)) (drop 1 line)

abbrev pub after_field : List ℕ → List ℕ
after_field line = drop 2 (closing_of line)

-- the first so many fields
unfoldable pub first_fields : ℕ → List ℕ → List (List ℕ)
first_fields zero line = []
first_fields (suc count) line = first_field line ∷ first_fields count (after_field line)

-- what ends a field, from its last quote on
abbrev pub end_at : List ℕ → FieldEnd
end_at [] = ends.Wrong
end_at (q ∷ []) = ends.Line
end_at (q ∷ c ∷ s) = cond (eqb c comma) ends.Comma ends.Wrong

abbrev pub field_end : List ℕ → FieldEnd
field_end line = cond (eqb (get_or line 0 0) quote) (end_at (closing_of line)) ends.Wrong

-- how many fields there are, after so many; none where the quoting fails
abbrev pub counted : ℕ → Option (List (List ℕ)) → answers.Option ℕ
counted count none = answers.None
counted count (some list) = answers.Some (count + length list)
