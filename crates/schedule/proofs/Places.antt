-- Where the entry of a day and a period stands, and another one in its place.
use Prim.Native.Nat.{ℕ, ◌≤◌}
use mathlib.Core.Bool.{Bool, true, false, cond}
use mathlib.Core.List.{List}
use mathlib.Core.Path.{◌≡◌, refl}
use borrow.Author.Tests.{leb-true}
use lib.Dec.{leb}
use lib.ListN.{set}
use Rattle.octets.proofs.Booleans.{both_true}
use Rattle.octets.specs.Octets.{between}
use Rattle.schedule.specs.declared.Entry.{Entry}
use Rattle.schedule.specs.Days.{is_day, is_period, has_entry}
use Rattle.schedule.specs.Entries.{place_of, with_entry}

within : (low high number : ℕ) → between low high number ≡ true → (low ≤ number) × (number ≤ high)
within low high number e =
    let parts = both_true (leb low number) (leb number high) e in
    (leb-true low number parts.0, leb-true number high parts.1)

-- the bounds of a day and a period that have an entry
pub record Bounds (day period : ℕ) : Type 0 where
  pub day_low : 1 ≤ day
  pub day_high : day ≤ 7
  pub period_low : 1 ≤ period
  pub period_high : period ≤ 4

pub bounds : (day period : ℕ) → has_entry day period ≡ true → Bounds day period
bounds day period e =
    let parts = both_true (is_day day) (is_period period) e in
    let day_bounds = within 1 7 day parts.0 in
    let period_bounds = within 1 4 period parts.1 in
    record { day_low = day_bounds.0; day_high = day_bounds.1; period_low = period_bounds.0; period_high = period_bounds.1 }

-- what holds of the entries, and of them with another in its place, holds with another for a day and a period
pub entry_kept : (P : List Entry → Type 0) (entries : List Entry) (day period : ℕ) (new : Entry) → P entries
    → (has_entry day period ≡ true → P (set entries (place_of day period) new)) → P (with_entry entries day period new)
entry_kept P entries day period new p q = choose (has_entry day period) refl
  where
    choose : (b : Bool) → has_entry day period ≡ b → P (cond b (set entries (place_of day period) new) entries)
    choose true e = q e
    choose false e = p
