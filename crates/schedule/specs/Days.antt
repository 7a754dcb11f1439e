-- Days and periods: those that an entry has, and those that a written day stands for.
use Rattle.std.specs.Prelude.{ℕ, Bool, true, false, cond, not, ◌&&◌, ◌||◌, List, [], ◌∷◌, eqb, get_or}
use Rattle.octets.specs.Octets.{between}

-- Monday is 1, Sunday 7
abbrev pub is_day : ℕ → Bool
is_day day = between 1 7 day

abbrev pub is_period : ℕ → Bool
is_period period = between 1 4 period

-- whether a day and a period have an entry
abbrev pub has_entry : ℕ → ℕ → Bool
has_entry day period = is_day day && is_period period

-- the days that a written day stands for: 0 is every day, 8 Monday to Friday, 9 Saturday and Sunday
abbrev pub days_of : ℕ → List ℕ
days_of day =
    cond (eqb day 0) (1 ∷ 2 ∷ 3 ∷ 4 ∷ 5 ∷ 6 ∷ 7 ∷ [])
    (cond (eqb day 8) (1 ∷ 2 ∷ 3 ∷ 4 ∷ 5 ∷ [])
    (cond (eqb day 9) (6 ∷ 7 ∷ [])
    (cond (is_day day) (day ∷ [])
    [])))

unfoldable pub contains : List ℕ → ℕ → Bool
contains [] day = false
contains (first ∷ rest) day = eqb first day || contains rest day

abbrev pub is_empty : List ℕ → Bool
is_empty [] = true
is_empty (first ∷ rest) = false

-- a day that may be written
abbrev pub is_writable : ℕ → Bool
is_writable day = not (is_empty (days_of day))

-- the first of the days that a written day stands for
abbrev pub first_day : ℕ → ℕ
first_day day = get_or (days_of day) 0 0
