-- Years have the days that they should, and weekdays follow one another.
use Rattle.std.specs.Prelude.{ℕ, ◌+◌, ◌≤◌, ◌<◌, cond, ◌≡◌, eqb}
use Rattle.calendar.specs.Dates.{is_leap, days_in, days_of_months, weekday_of}

-- a year has 365 days, a leap year 366
abbrev pub YearsCounted : Type 0
YearsCounted = (year : ℕ) → days_of_months year 12 ≡ cond (is_leap year) 366 365

-- Monday follows Sunday
abbrev pub next_weekday : ℕ → ℕ
next_weekday weekday = cond (eqb weekday 7) 1 (weekday + 1)

-- 1 January 2000 was a Saturday, and every day has the weekday after that of the day before
pub record WeekdaysFollow : Type 0 where
  pub first : weekday_of 0 1 1 ≡ 6
  pub day : (year month day : ℕ) → 1 ≤ day → weekday_of year month (day + 1) ≡ next_weekday (weekday_of year month day)
  pub month : (year month : ℕ) → 1 ≤ month → month < 12 → weekday_of year (month + 1) 1 ≡ next_weekday (weekday_of year month (days_in (2000 + year) month))
  pub year : (year : ℕ) → weekday_of (year + 1) 1 1 ≡ next_weekday (weekday_of year 12 (days_in (2000 + year) 12))
