-- The laws of the schedule's operations.
use Prim.Native.Nat.{ℕ}
use native.Mathlib.Omega.{arith}
use mathlib.Core.Bool.{Bool, true, false, cond, ◌&&◌, ◌||◌, and-false}
use mathlib.Core.List.{List, [], ◌∷◌}
use mathlib.Core.Path.{◌≡◌, refl, ap, ◌∙◌}
use borrow.Author.Tests.{eq-eqb, eqb-true, eqb-false}
use lib.Dec.{eqb}
use lib.ListN.{length, get_or, drop, length-set, drop_of_length-le}
use lib.Seq.{drop-cons, get_or-set_same, get_or-set_other}
use Rattle.octets.proofs.Booleans.{both_true}
use Rattle.schedule.specs.declared.Entry.{Entry}
use Rattle.schedule.specs.declared.Schedule.{Schedule}
use Rattle.schedule.specs.Days.{is_period, has_entry, days_of, is_writable, contains}
use Rattle.schedule.specs.Entries.{legal, bytes_of, lowest, entry_count, place_of, entry_at, with_entry, with_days, all_legal, sound}
use Rattle.schedule.specs.Operations.{day_in, period_in, entry_in, writes, stores, with_entry_in, written}
use Rattle.schedule.specs.Laws.{Sized, is_for, WriteExact, ReadBack, SizeKept, SoundKept, StartSized, StartSound}
use Rattle.schedule.proofs.Places.{bounds, entry_kept}
use Rattle.schedule.proofs.Spans.{contained_days}
use Rattle.schedule.proofs.Soundness.{legal_set}

-- an entry in the place of those of one period on some days
module _ (period : ℕ) (new : Entry) where
  length_entry : (entries : List Entry) (day : ℕ) → length (with_entry entries day period new) ≡ length entries
  length_entry entries day =
      entry_kept (λ (l : List Entry). length l ≡ length entries) entries day period new refl (λ e. length-set entries (place_of day period) new)

  length_days : (days : List ℕ) (entries : List Entry) → length (with_days entries days period new) ≡ length entries
  unfolding with_days
  length_days [] entries = refl
  length_days (day ∷ days) entries = length_days days (with_entry entries day period new) ∙ length_entry entries day

  legal_days : (days : List ℕ) (entries : List Entry) → all_legal entries ≡ true → legal new ≡ true → all_legal (with_days entries days period new) ≡ true
  unfolding with_days
  legal_days [] entries e h = e
  legal_days (day ∷ days) entries e h =
      legal_days days (with_entry entries day period new)
      (entry_kept (λ (l : List Entry). all_legal l ≡ true) entries day period new e (λ k. legal_set entries (place_of day period) new e h))
      h

-- the entry of a day and a period, once another stands at a day and a period
module _ (entries : List Entry) (new : Entry) (sized : length entries ≡ entry_count) (written day period other : ℕ) (asked : has_entry day other ≡ true) where
  set_there : written ≡ day → period ≡ other → get_or (with_entry entries written period new) (place_of day other) lowest ≡ new
  set_there d p =
      let within = bounds day other asked in
      rw (d, p, asked) (get_or-set_same entries (place_of day other) new lowest (omega arith))

  set_elsewhere :
      (written ≡ day → period ≡ other → ⊥)
      → get_or (with_entry entries written period new) (place_of day other) lowest ≡ get_or entries (place_of day other) lowest
  set_elsewhere differ =
      let within = bounds day other asked in
      entry_kept (λ (l : List Entry). get_or l (place_of day other) lowest ≡ get_or entries (place_of day other) lowest) entries written period new refl
      (λ e. let place = bounds written period e in
      get_or-set_other entries (place_of written period) (place_of day other) new lowest (λ same. differ (omega arith) (omega arith)))

  set_turn : (later : Bool)
      → cond (later && eqb period other) new (get_or (with_entry entries written period new) (place_of day other) lowest)
      ≡ cond ((eqb written day || later) && eqb period other) new (get_or entries (place_of day other) lowest)
  set_turn later = choose (eqb written day) later (eqb period other) refl refl
    where
      choose : (a later b : Bool) → eqb written day ≡ a → eqb period other ≡ b
          → cond (later && b) new (get_or (with_entry entries written period new) (place_of day other) lowest)
          ≡ cond ((a || later) && b) new (get_or entries (place_of day other) lowest)
      choose a later false p q = rw (and-false later, and-false (a || later)) (set_elsewhere (λ d e. eqb-false period other q e))
      choose true true true p q = refl
      choose true false true p q = set_there (eqb-true written day p) (eqb-true period other q)
      choose false true true p q = refl
      choose false false true p q = set_elsewhere (λ d e. eqb-false written day p d)

days_at : (days : List ℕ) (entries : List Entry) (period : ℕ) (new : Entry) (day other : ℕ) → length entries ≡ entry_count → has_entry day other ≡ true
    → get_or (with_days entries days period new) (place_of day other) lowest
    ≡ cond (contains days day && eqb period other) new (get_or entries (place_of day other) lowest)
unfolding with_days contains
days_at [] entries period new day other sized asked = refl
days_at (first ∷ rest) entries period new day other sized asked =
    days_at rest (with_entry entries first period new) period new day other (length_entry period new entries first ∙ sized) asked
    ∙ set_turn entries new sized first day period other asked (contains rest day)

-- what a value has whose entry is stored
record Stored (value : List ℕ) : Type 0 where
  six : length value ≡ 6
  period : is_period (period_in value) ≡ true
  entry : legal (entry_in value) ≡ true

stored : (value : List ℕ) → stores value ≡ true → Stored value
stored value e =
    let whole = both_true (writes value) (legal (entry_in value)) e in
    let form = both_true (eqb (length value) 6 && is_writable (day_in value)) (is_period (period_in value)) whole.0 in
    record { six = eqb-true (length value) 6 (both_true (eqb (length value) 6) (is_writable (day_in value)) form.0).0; period = form.1; entry = whole.1 }

-- what holds of a schedule, and of it with the entry stored, holds after a write
kept : (P : Schedule → Type 0) (schedule : Schedule) (value : List ℕ) → P schedule
    → (Stored value → P (with_entry_in schedule value)) → P (written schedule value)
kept P schedule value p q = choose (stores value) refl
  where
    choose : (b : Bool) → stores value ≡ b → P (cond b (with_entry_in schedule value) schedule)
    choose true e = q (stored value e)
    choose false e = p

pub size_kept : SizeKept
size_kept schedule value sized =
    kept Sized schedule value sized (λ s. length_days (period_in value) (entry_in value) (days_of (day_in value)) schedule.entries ∙ sized)

pub sound_kept : SoundKept
sound_kept schedule value e =
    kept (λ (s : Schedule). sound s ≡ true) schedule value e
    (λ s. legal_days (period_in value) (entry_in value) (days_of (day_in value)) schedule.entries e s.entry)

pub write_exact : WriteExact
write_exact schedule value day period sized d p = rw (d, p) (choose (stores value) refl)
  where
    choose : (b : Bool) → stores value ≡ b
        → get_or (cond b (with_entry_in schedule value) schedule).entries (place_of day period) lowest
        ≡ cond (b && is_for value day period) (entry_in value) (get_or schedule.entries (place_of day period) lowest)
    choose true e = days_at (days_of (day_in value)) schedule.entries (period_in value) (entry_in value) day period sized (rw (d, p))
    choose false e = refl

-- the bytes of a value of six after its first
six_bytes : (value : List ℕ) → length value ≡ 6 → period_in value ∷ bytes_of (entry_in value) ≡ drop 1 value
six_bytes value e =
    rw (
      drop-cons value 1 0 (omega arith),
      drop-cons value 2 0 (omega arith),
      drop-cons value 3 0 (omega arith),
      drop-cons value 4 0 (omega arith),
      drop-cons value 5 0 (omega arith),
      drop_of_length-le value {i = 6} (omega arith),
    )

pub read_back : ReadBack
read_back schedule value day sized e h =
    let whole = stored value e in
    let d = contained_days (day_in value) day h in
    let entry : entry_at (written schedule value) day (period_in value) ≡ entry_in value =
    write_exact schedule value day (period_in value) sized d whole.period ∙ rw (e, h, eq-eqb (period_in value) (period_in value) refl) in (
      rw (d, whole.period),
      ap (λ (e : Entry). day ∷ period_in value ∷ bytes_of e) entry ∙ ap (λ (l : List ℕ). day ∷ l) (six_bytes value whole.six),
    )

pub start_sized : StartSized
start_sized = refl

pub start_sound : StartSound
unfolding all_legal
start_sound = refl
