-- How the code stands for the days of a write: a range of days.
use Rattle.std.specs.Prelude.{ℕ, zero, suc, cond, ◌&&◌, List, [], ◌∷◌, eqb, length, Option, None, Some}
use Rattle.std.specs.declared.ops.Range.{Range}
use Rattle.schedule.specs.Days.{is_day, is_period}
use Rattle.schedule.specs.Operations.{day_in, period_in}

-- the days from a first until before an end
abbrev pub days_until : ℕ → ℕ → Range ℕ
days_until first end = record { start = first; end = end }

abbrev pub span_of : ℕ → Option (Range ℕ)
span_of day =
    cond (eqb day 0) (Some (days_until 1 8))
    (cond (eqb day 8) (Some (days_until 1 6))
    (cond (eqb day 9) (Some (days_until 6 8))
    (cond (is_day day) (Some (days_until day (suc day)))
    None)))

-- of a value: none where it is no value of a write
abbrev pub span_in : List ℕ → Option (Range ℕ)
span_in value = cond (eqb (length value) 6 && is_period (period_in value)) (span_of (day_in value)) None

-- as many days as the count, from the first on
unfoldable pub days_from : ℕ → ℕ → List ℕ
days_from zero first = []
days_from (suc count) first = first ∷ days_from count (suc first)
