-- The days that a written day stands for, and its span, which has the same.
use Prim.Native.Nat.{ℕ, suc, ◌+◌, ◌-◌, ◌≤◌, ◌<◌}
use native.Mathlib.Numerals.{add-one}
use native.Mathlib.Omega.{arith}
use mathlib.Core.Bool.{Bool, true, false, cond, ◌&&◌, and-false, false≢true}
use mathlib.Core.List.{List, [], ◌∷◌}
use mathlib.Core.Logic.{⊎_elim}
use mathlib.Core.Path.{◌≡◌, refl, subst}
use borrow.Author.Tests.{eqb-true}
use lib.Dec.{eqb}
use lib.ListN.{length, get_or}
use Rattle.octets.proofs.Booleans.{both_true}
use Rattle.rows.proofs.Bools.{either}
use Rattle.schedule.specs.declared.Entry.{Entry}
use Rattle.std.specs.Prelude.{Option, None, Some}
use Rattle.std.specs.declared.ops.Range.{Range}
use Rattle.schedule.specs.Days.{is_day, is_period, contains, is_empty, is_writable, first_day, days_of}
use Rattle.schedule.specs.Entries.{with_entry, with_days}
use Rattle.schedule.specs.Operations.{day_in, period_in, writes}
use Rattle.schedule.specs.Spans.{span_of, span_in, days_from}

-- the days from a first until before an end: the first and those after it, or none
more_days : (first end : ℕ) → first < end → days_from (end - first) first ≡ first ∷ days_from (end - (first + 1)) (first + 1)
unfolding days_from
more_days first end h =
    let count : end - first ≡ suc (end - (first + 1)) = omega arith in
    rw (count, add-one)

no_days : (first end : ℕ) → end ≤ first → days_from (end - first) first ≡ []
unfolding days_from
no_days first end h =
    let count : end - first ≡ 0 = omega arith in
    rw count

pub days_turn : (entries : List Entry) (first end period : ℕ) (new : Entry) → first < end
    → with_days entries (days_from (end - first) first) period new
    ≡ with_days (with_entry entries first period new) (days_from (end - (first + 1)) (first + 1)) period new
unfolding with_days
days_turn entries first end period new h = rw (more_days first end h)

pub days_end : (entries : List Entry) (first end period : ℕ) (new : Entry) → end ≤ first → with_days entries (days_from (end - first) first) period new ≡ entries
unfolding with_days
days_end entries first end period new h = rw (no_days first end h)

-- each is a day
daily : List ℕ → Bool
daily [] = true
daily (day ∷ days) = is_day day && daily days

-- a span that has these days
abbrev Spans : Option (Range ℕ) → List ℕ → Type 0
Spans (Some span) days = (days ≡ days_from (span.end - span.start) span.start) × (get_or days 0 0 ≡ span.start) × (is_empty days ≡ false)
Spans None days = is_empty days ≡ true

one_day : (day : ℕ) → day ∷ [] ≡ days_from (suc day - day) day
unfolding days_from
one_day day =
    let count : suc day - day ≡ 1 = omega arith in
    rw count

-- of a written day: its span has the days that it stands for, and each is a day
abbrev Stands : ℕ → Type 0
Stands day = Spans (span_of day) (days_of day) × (daily (days_of day) ≡ true)

stands : (day : ℕ) → Stands day
unfolding days_from daily
stands day = all (eqb day 0) refl
  where
    all : (b : Bool) → eqb day 0 ≡ b → Stands day
    all true e = rw e ((refl, refl, refl), refl)
    all false e = week (eqb day 8) refl
      where
        week : (b : Bool) → eqb day 8 ≡ b → Stands day
        week true f = rw (e, f) ((refl, refl, refl), refl)
        week false f = weekend (eqb day 9) refl
          where
            weekend : (b : Bool) → eqb day 9 ≡ b → Stands day
            weekend true g = rw (e, f, g) ((refl, refl, refl), refl)
            weekend false g = one (is_day day) refl
              where
                one : (b : Bool) → is_day day ≡ b → Stands day
                one true h = rw (e, f, g, h) ((one_day day, refl, refl), rw h)
                one false h = rw (e, f, g, h) (refl, refl)

span_days : (day : ℕ) (span : Option (Range ℕ)) → span_of day ≡ span → Spans span (days_of day)
span_days day span e = subst (λ (s : Option (Range ℕ)). Spans s (days_of day)) e (stands day).0

-- what is among them is a day
contained : (days : List ℕ) (day : ℕ) → daily days ≡ true → contains days day ≡ true → is_day day ≡ true
unfolding daily contains
contained [] day e h = absurd (false≢true h)
contained (first ∷ rest) day e h =
    let each = both_true (is_day first) (daily rest) e in
    ⊎_elim
    (λ p. subst (λ (d : ℕ). is_day d ≡ true) (eqb-true first day p) each.0)
    (λ p. contained rest day each.1 p)
    (either (eqb first day) (contains rest day) h)

pub contained_days : (written day : ℕ) → contains (days_of written) day ≡ true → is_day day ≡ true
contained_days written day h = contained (days_of written) day (stands written).1 h

-- what a span that a value has says of it
pub record Found (value : List ℕ) (span : Range ℕ) : Type 0 where
  pub sized : length value ≡ 6
  pub written : writes value ≡ true
  pub days : days_of (day_in value) ≡ days_from (span.end - span.start) span.start
  pub begins : first_day (day_in value) ≡ span.start

pub found : (value : List ℕ) (span : Range ℕ) → span_in value ≡ Some span → Found value span
found value span = choose (eqb (length value) 6) (is_period (period_in value)) refl refl
  where
    choose : (a b : Bool) → eqb (length value) 6 ≡ a → is_period (period_in value) ≡ b → cond (a && b) (span_of (day_in value)) None ≡ Some span
        → Found value span
    choose true true p q e =
        let these : Spans (Some span) (days_of (day_in value)) = span_days (day_in value) (Some span) e in
        record { sized = eqb-true (length value) 6 p; written = rw (p, q, these.2); days = these.0; begins = these.1 }
    choose true false p q e = absurd cc
    choose false b p q e = absurd cc

pub not_found : (value : List ℕ) → span_in value ≡ None → writes value ≡ false
not_found value = choose (eqb (length value) 6) (is_period (period_in value))
  where
    choose : (a b : Bool) → cond (a && b) (span_of (day_in value)) None ≡ None → (a && is_writable (day_in value) && b) ≡ false
    choose true true e = rw (span_days (day_in value) None e)
    choose true false e = and-false (is_writable (day_in value))
    choose false b e = refl
