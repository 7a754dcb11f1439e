-- Dates of the Gregorian calendar and their weekdays, for the years 2000 to 2099.
use Rattle.std.specs.Prelude.{ℕ, zero, suc, ◌+◌, ◌-◌, ◌%◌, Bool, cond, not, ◌&&◌, ◌||◌, List, [], ◌∷◌, eqb, leb, get_or}
use Rattle.octets.specs.Octets.{between}

-- every fourth year is a leap year, but of the full centuries only every fourth
abbrev pub is_leap : ℕ → Bool
is_leap year = eqb (year % 4) 0 && (not (eqb (year % 100) 0) || eqb (year % 400) 0)

-- the days of January, February and so on, in a leap year or in another
abbrev pub month_lengths : Bool → List ℕ
month_lengths leap = 31 ∷ cond leap 29 28 ∷ 31 ∷ 30 ∷ 31 ∷ 30 ∷ 31 ∷ 31 ∷ 30 ∷ 31 ∷ 30 ∷ 31 ∷ []

-- January is month 1
abbrev pub days_in : ℕ → ℕ → ℕ
days_in year month = get_or (month_lengths (is_leap year)) (month - 1) 0

-- the days of a year's first months
unfoldable pub days_of_months : ℕ → ℕ → ℕ
days_of_months year zero = 0
days_of_months year (suc months) = days_of_months year months + days_in year (suc months)

-- the days of the first years from 2000 on
unfoldable pub days_of_years : ℕ → ℕ
days_of_years zero = 0
days_of_years (suc years) = days_of_years years + days_of_months (2000 + years) 12

-- the days from 1 January 2000 to a date; year 0 is 2000
abbrev pub days_to : ℕ → ℕ → ℕ → ℕ
days_to year month day = days_of_years year + days_of_months (2000 + year) (month - 1) + (day - 1)

-- 1 is Monday, 7 Sunday; 1 January 2000 was a Saturday
abbrev pub weekday_after : ℕ → ℕ
weekday_after days = 1 + (5 + days) % 7

abbrev pub weekday_of : ℕ → ℕ → ℕ → ℕ
weekday_of year month day = weekday_after (days_to year month day)

-- a legal calendar value of the papers: the day exists in its month, and the weekday is its own
abbrev pub is_date : ℕ → ℕ → ℕ → ℕ → Bool
is_date day weekday month year =
    leb year 99 && between 1 12 month && between 1 (days_in (2000 + year) month) day && eqb weekday (weekday_of year month day)
