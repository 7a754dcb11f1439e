-- The days of a year, and each day's weekday after that of the day before.
use Prim.Native.Nat.{ℕ, suc, ◌+◌, ◌-◌, ◌≤◌}
use native.Mathlib.Nat.{add-sub_cancel}
use native.Mathlib.Numerals.{add-one}
use native.Mathlib.Omega.{arith}
use mathlib.Core.Bool.{Bool, true, false, cond}
use mathlib.Core.Path.{◌≡◌, refl}
use borrow.Author.Tests.{leb-true, eqb-true, eqb-false}
use lib.Dec.{eqb, leb}
use lib.ListN.{get_or}
use Rattle.calendar.specs.Dates.{is_leap, month_lengths, days_in, days_of_months, days_of_years, days_to, weekday_after}
use Rattle.calendar.specs.Statements.{YearsCounted, next_weekday, WeekdaysFollow}
use Rattle.calendar.proofs.Formulas.{every_below, at_each, months_and_next}

leap_day : (leap : Bool) → cond leap 366 365 ≡ 337 + cond leap 29 28
leap_day true = refl
leap_day false = refl

pub years_counted : YearsCounted
unfolding days_of_months
years_counted year = omega (arith, leap_day (is_leap year))

-- a day on is a weekday on
follows_by : (days : ℕ) (sunday : Bool) → eqb (weekday_after days) 7 ≡ sunday → weekday_after (days + 1) ≡ cond sunday 1 (weekday_after days + 1)
follows_by days true e = omega (arith, eqb-true (weekday_after days) 7 e)
follows_by days false e = omega (arith, eqb-false (weekday_after days) 7 e)

follows : (next days : ℕ) → next ≡ days + 1 → weekday_after next ≡ next_weekday (weekday_after days)
follows next days e = rw e (follows_by days (eqb (weekday_after days) 7) refl)

-- each month has a first day
positive : (leap : Bool) → every_below 12 (λ m. leb 1 (get_or (month_lengths leap) m 0)) ≡ true
unfolding every_below
positive true = refl
positive false = refl

has_days : (year month : ℕ) → 1 ≤ month → month ≤ 12 → 1 ≤ days_in year month
has_days year month l h =
    leb-true _ _ (at_each 12 (λ m. leb 1 (get_or (month_lengths (is_leap year)) m 0)) (positive (is_leap year)) (month - 1) (omega arith))

no_days : (year : ℕ) → days_of_months year 0 ≡ 0
unfolding days_of_months
no_days year = refl

month_on : (year month : ℕ) → 1 ≤ month → month ≤ 12 → days_to year (month + 1) 1 ≡ days_to year month (days_in (2000 + year) month) + 1
month_on year month l h =
    rw (add-sub_cancel month 1) (omega (arith, months_and_next (2000 + year) month l, has_days (2000 + year) month l h))

year_on : (year : ℕ) → days_to (year + 1) 1 1 ≡ days_to year 12 (days_in (2000 + year) 12) + 1
unfolding days_of_years
year_on year = rw (add-one, no_days (2000 + suc year)) (omega (arith, months_and_next (2000 + year) 12 (omega arith)))

pub weekdays_follow : WeekdaysFollow
unfolding days_of_months days_of_years
weekdays_follow =
    record {
      first = refl;
      day = λ year month day h. follows (days_to year month (day + 1)) (days_to year month day) (omega arith);
      month = λ year month l h. follows (days_to year (month + 1) 1) (days_to year month (days_in (2000 + year) month)) (month_on year month l (omega arith));
      year = λ year. follows (days_to (year + 1) 1 1) (days_to year 12 (days_in (2000 + year) 12)) (year_on year);
    }
