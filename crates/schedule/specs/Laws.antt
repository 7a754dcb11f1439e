-- What holds of the schedule's operations.
use Rattle.std.specs.Prelude.{ℕ, Bool, true, cond, ◌&&◌, List, [], ◌∷◌, ◌≡◌, eqb, length, drop}
use Rattle.schedule.specs.Days.{is_day, is_period, days_of, contains}
use Rattle.schedule.specs.Entries.{entry_count, entry_at, start, sound}
use Rattle.schedule.specs.Operations.{day_in, period_in, entry_in, answered, report_of, stores, written}
use Rattle.schedule.specs.declared.Answer.TheVariants as answer
use Rattle.schedule.specs.declared.Schedule.{Schedule}

-- a schedule as the code has it
abbrev pub Sized : Schedule → Type 0
Sized schedule = length schedule.entries ≡ entry_count

-- whether a written value is for an entry: its day is among those written, its period is the one written
abbrev pub is_for : List ℕ → ℕ → ℕ → Bool
is_for value day period = contains (days_of (day_in value)) day && eqb (period_in value) period

-- a write changes exactly the entries that it is for, each to the one written; a bad field, or a value of another form, changes none
abbrev pub WriteExact : Type 0
WriteExact =
    (schedule : Schedule) (value : List ℕ) (day period : ℕ) → Sized schedule → is_day day ≡ true → is_period period ≡ true
    → entry_at (written schedule value) day period ≡ cond (stores value && is_for value day period) (entry_in value) (entry_at schedule day period)

-- a read of an entry just written gives back what was written: the day, then the bytes after the day
abbrev pub ReadBack : Type 0
ReadBack =
    (schedule : Schedule) (value : List ℕ) (day : ℕ) → Sized schedule → stores value ≡ true → contains (days_of (day_in value)) day ≡ true
    → (answered 1 (day ∷ period_in value ∷ []) ≡ answer.Entry day (period_in value))
    × (report_of (written schedule value) day (period_in value) ≡ day ∷ drop 1 value)

abbrev pub SizeKept : Type 0
SizeKept = (schedule : Schedule) (value : List ℕ) → Sized schedule → Sized (written schedule value)

abbrev pub SoundKept : Type 0
SoundKept = (schedule : Schedule) (value : List ℕ) → sound schedule ≡ true → sound (written schedule value) ≡ true

abbrev pub StartSized : Type 0
StartSized = Sized start

abbrev pub StartSound : Type 0
StartSound = sound start ≡ true
