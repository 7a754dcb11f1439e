-- Where the fields of a row stand in its line.
use Prim.Native.Nat.{ℕ, ◌+◌, ◌≤◌}
use native.Mathlib.Omega.{arith}
use mathlib.Core.List.{List, [], ◌∷◌, ◌++◌, append_assoc}
use mathlib.Core.Path.{◌≡◌, refl, sym, ap, ◌∙◌}
use lib.ListN.{length, get_or, length-append}
use Rattle.tables.specs.Fields.{quote, comma, quoted}
use Rattle.tables.specs.Importing.{field_at}

-- a field that starts a line, and one that ends it
pub record Starts (line field : List ℕ) : Type 0 where
  pub after : List ℕ
  pub first : line ≡ quote ∷ (field ++ after)

pub record Ends (line field : List ℕ) : Type 0 where
  pub front : List ℕ
  pub opened : 1 ≤ length front
  pub last : line ≡ front ++ (field ++ quote ∷ [])

first_quoted : (field : List ℕ) (fields : List (List ℕ)) → Starts (quoted (field ∷ fields)) field
unfolding quoted
first_quoted field [] = record { after = quote ∷ []; first = refl }
first_quoted field (other ∷ fields) = record { after = quote ∷ comma ∷ quoted (other ∷ fields); first = refl }

last_quoted : (field : List ℕ) (fields : List (List ℕ)) → Ends (quoted (field ∷ fields)) (get_or (field ∷ fields) (length fields) [])
unfolding quoted
last_quoted field [] = record { front = quote ∷ []; opened = omega arith; last = refl }
last_quoted field (other ∷ fields) =
    let rest : Ends (quoted (other ∷ fields)) (get_or (other ∷ fields) (length fields) []) = last_quoted other fields in
    record {
      front = quote ∷ (field ++ (quote ∷ comma ∷ rest.front));
      opened = omega arith;
      last =
          ap (λ (l : List ℕ). quote ∷ (field ++ (quote ∷ comma ∷ l))) rest.last
          ∙ ap (λ (l : List ℕ). quote ∷ l) (sym (append_assoc field (quote ∷ comma ∷ rest.front) (get_or (other ∷ fields) (length fields) [] ++ quote ∷ [])));
    }

-- the board's field and the value's, of five
pub board_first : (fields : List (List ℕ)) → length fields ≡ 5 → Starts (quoted fields) (field_at 0 fields)
board_first [] h = absurd (omega arith)
board_first (field ∷ fields) h = first_quoted field fields

pub value_last : (fields : List (List ℕ)) → length fields ≡ 5 → Ends (quoted fields) (field_at 4 fields)
value_last [] h = absurd (omega arith)
value_last (field ∷ fields) h =
    let four : length fields ≡ 4 = omega arith in
    rw four at (last_quoted field fields)

-- how long they are at most
pub value_within : {line field : List ℕ} → Ends line field → length field + 2 ≤ length line
value_within {line} {field} place = omega (arith, place.opened, simp length-append at (ap length place.last))
