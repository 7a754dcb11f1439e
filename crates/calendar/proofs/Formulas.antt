-- The code's formulas are the definition's counts: computed for each month of the hundred years, and carried to each.
use Prim.Native.Nat.{ℕ, zero, suc, ◌+◌, ◌-◌, ◌*◌, ◌/◌, ◌%◌, ◌≤◌, ◌<◌}
use native.Mathlib.Nat.{le_of_suc-le-suc, not-suc-le-zero, eq-or-lt_of_le}
use native.Mathlib.Numerals.{unary_clauses}
use native.Mathlib.Omega.{arith}
use mathlib.Core.Bool.{Bool, true, cond, ◌&&◌}
use mathlib.Core.List.{List, [], ◌∷◌}
use mathlib.Core.Logic.{⊎_elim}
use mathlib.Core.Path.{◌≡◌, refl, sym, ◌∙◌}
use borrow.Author.Tests.{eqb-true, leb-true}
use lib.Dec.{eqb, leb}
use lib.ListN.{get_or}
use Rattle.octets.proofs.Booleans.{both_true}
use Rattle.calendar.specs.Dates.{days_in, days_of_months, days_of_years}

-- a test of each number below a bound
unfoldable pub every_below : ℕ → (ℕ → Bool) → Bool
every_below zero f = true
every_below (suc n) f = f n && every_below n f

pub at_each : (n : ℕ) (f : ℕ → Bool) → every_below n f ≡ true → (k : ℕ) → k < n → f k ≡ true
unfolding every_below
at_each zero f all k h = absurd (not-suc-le-zero h)
at_each (suc n) f all k h =
    let parts = both_true (f n) (every_below n f) all in
    ⊎_elim (λ e. rw e parts.0) (λ below. at_each n f parts.1 k below) (eq-or-lt_of_le (le_of_suc-le-suc h))

-- the days of a common year's first months, by their number
abbrev first_months : List ℕ
first_months = 0 ∷ 31 ∷ 59 ∷ 90 ∷ 120 ∷ 151 ∷ 181 ∷ 212 ∷ 243 ∷ 273 ∷ 304 ∷ 334 ∷ 365 ∷ []

-- the formulas of the code
abbrev pub months_by : ℕ → ℕ → ℕ
months_by year months = get_or first_months months 0 + cond (leb 2 months && eqb (year % 4) 0) 1 0

abbrev pub years_by : ℕ → ℕ
years_by years = 365 * years + (years + 3) / 4

month_agrees : ℕ → ℕ → Bool
month_agrees year months = eqb (months_by year months) (days_of_months (2000 + year) months) && leb (months_by year months) 366

year_agrees : ℕ → Bool
year_agrees year = eqb (years_by year) (days_of_years year) && every_below 13 (month_agrees year)

all_agree : every_below 100 year_agrees ≡ true
unfolding days_of_months days_of_years every_below month_agrees year_agrees
all_agree = refl

agrees : (year : ℕ) → year < 100 → (eqb (years_by year) (days_of_years year) ≡ true) × (every_below 13 (month_agrees year) ≡ true)
unfolding year_agrees
agrees year h = both_true (eqb (years_by year) (days_of_years year)) (every_below 13 (month_agrees year)) (at_each 100 year_agrees all_agree year h)

pub years_by_lem : (year : ℕ) → year < 100 → years_by year ≡ days_of_years year
years_by_lem year h = eqb-true _ _ (agrees year h).0

-- what the formula gives, by whatever way the code has it
pub months_by_lem : (year months days : ℕ) → year < 100 → months ≤ 12 → months_by year months ≡ days → (days ≡ days_of_months (2000 + year) months) × (days ≤ 366)
unfolding month_agrees
months_by_lem year months days h m e =
    let parts = both_true (eqb (months_by year months) (days_of_months (2000 + year) months)) (leb (months_by year months) 366) (at_each 13 (month_agrees year) (agrees year h).1 months (omega arith)) in
    (sym e ∙ eqb-true _ _ parts.0, rw (sym e) (leb-true _ _ parts.1))

-- a month's days come to those before it
pub months_and_next : (year month : ℕ) → 0 < month → days_of_months year month ≡ days_of_months year (month - 1) + days_in year month
unfolding days_of_months
months_and_next year zero h = absurd (not-suc-le-zero h)
months_and_next year (suc before) h = simp unary_clauses
