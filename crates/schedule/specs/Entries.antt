-- The entries of the schedule: one for each day and period.
use Rattle.std.specs.Prelude.{ℕ, ◌+◌, ◌*◌, ◌-◌, Bool, cond, ◌&&◌, ◌||◌, List, [], ◌∷◌, eqb, leb, get_or, set, replicate}
use Rattle.std.specs.List.{list_all}
use Rattle.octets.specs.Octets.{between}
use Rattle.rows.specs.declared.WholeDegrees.{WholeDegrees}
use Rattle.schedule.specs.Days.{has_entry}
use Rattle.schedule.specs.declared.Entry.{Entry}
use Rattle.schedule.specs.declared.Schedule.{Schedule}

abbrev pub degrees : ℕ → WholeDegrees
degrees number = record { degrees = number }

abbrev pub entry : ℕ → WholeDegrees → ℕ → ℕ → Entry
entry speed temperature minute hour = record { speed = speed; temperature = temperature; minute = minute; hour = hour }

-- 0 is ventilation only
abbrev pub is_temperature : WholeDegrees → Bool
is_temperature temperature = eqb temperature.degrees 0 || between 15 30 temperature.degrees

-- speed 0 to 5, a temperature, and the minute and hour at which the period ends
abbrev pub legal : Entry → Bool
legal e = leb e.speed 5 && is_temperature e.temperature && leb e.minute 59 && leb e.hour 23

-- an entry's four bytes
abbrev pub bytes_of : Entry → List ℕ
bytes_of e = e.speed ∷ e.temperature.degrees ∷ e.minute ∷ e.hour ∷ []

-- the lowest values
abbrev pub lowest : Entry
lowest = entry 0 (degrees 0) 0 0

abbrev pub entry_count : ℕ
entry_count = 28

-- where an entry stands: Monday's four periods first
abbrev pub place_of : ℕ → ℕ → ℕ
place_of day period = 4 * day + period - 5

-- the entry of a day and a period; the lowest values for a day or a period that does not exist
abbrev pub entry_at : Schedule → ℕ → ℕ → Entry
entry_at schedule day period = cond (has_entry day period) (get_or schedule.entries (place_of day period) lowest) lowest

-- the entries with another one for a day and a period, if these exist
abbrev pub with_entry : List Entry → ℕ → ℕ → Entry → List Entry
with_entry entries day period new = cond (has_entry day period) (set entries (place_of day period) new) entries

-- the same for a period of each of these days
unfoldable pub with_days : List Entry → List ℕ → ℕ → Entry → List Entry
with_days entries [] period new = entries
with_days entries (day ∷ days) period new = with_days (with_entry entries day period new) days period new

-- as set-up leaves it
abbrev pub start : Schedule
start = record { entries = replicate entry_count lowest }

unfoldable pub all_legal : List Entry → Bool
all_legal = list_all legal

-- each entry's fields are in their ranges
abbrev pub sound : Schedule → Bool
sound schedule = all_legal schedule.entries
