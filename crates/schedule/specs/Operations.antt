-- What a command of the schedule's parameter makes of the entries, and what it is answered with. Its value begins with a day and a period.
use Rattle.std.specs.Prelude.{ℕ, Bool, cond, ◌&&◌, List, ◌∷◌, eqb, length, get_or}
use Rattle.schedule.specs.Days.{is_period, has_entry, days_of, is_writable, first_day}
use Rattle.schedule.specs.Entries.{entry, degrees, legal, bytes_of, entry_at, with_days}
use Rattle.schedule.specs.declared.Answer.{Answer}
use Rattle.schedule.specs.declared.Answer.TheVariants as answer
use Rattle.schedule.specs.declared.Entry.{Entry}
use Rattle.schedule.specs.declared.Schedule.{Schedule}

-- the parameter's number
abbrev pub schedule_number : ℕ
schedule_number = 0x0077

abbrev pub day_in : List ℕ → ℕ
day_in value = get_or value 0 0

abbrev pub period_in : List ℕ → ℕ
period_in value = get_or value 1 0

-- the entry that a written value has after them
abbrev pub entry_in : List ℕ → Entry
entry_in value = entry (get_or value 2 0) (degrees (get_or value 3 0)) (get_or value 4 0) (get_or value 5 0)

-- a value that reads an entry, and one that writes entries; their fields are not looked at
abbrev pub reads : List ℕ → Bool
reads value = eqb (length value) 2 && has_entry (day_in value) (period_in value)

abbrev pub writes : List ℕ → Bool
writes value = eqb (length value) 6 && is_writable (day_in value) && is_period (period_in value)

-- 01 is answered with the entry asked for
abbrev pub asked_by : List ℕ → Answer
asked_by value = cond (reads value) (answer.Entry (day_in value) (period_in value)) answer.Unknown

-- 03 is answered with the entry of the first day written
abbrev pub addressed_by : List ℕ → Answer
addressed_by value = cond (writes value) (answer.Entry (first_day (day_in value)) (period_in value)) answer.Unknown

-- 02 is answered with nothing, and a function but these three is one that the parameter does not have
abbrev pub answered : ℕ → List ℕ → Answer
answered function value =
    cond (eqb function 1) (asked_by value)
    (cond (eqb function 2) answer.Silence
    (cond (eqb function 3) (addressed_by value)
    answer.Unknown))

-- the value reported for an entry: six bytes
abbrev pub report_of : Schedule → ℕ → ℕ → List ℕ
report_of schedule day period = day ∷ period ∷ bytes_of (entry_at schedule day period)

-- a value whose entry is stored
abbrev pub stores : List ℕ → Bool
stores value = writes value && legal (entry_in value)

-- with a value's entry on each day written
abbrev pub with_entry_in : Schedule → List ℕ → Schedule
with_entry_in schedule value = record { entries = with_days schedule.entries (days_of (day_in value)) (period_in value) (entry_in value) }

-- the schedule after 02 or 03
abbrev pub written : Schedule → List ℕ → Schedule
written schedule value = cond (stores value) (with_entry_in schedule value) schedule
