-- What a write makes of the schedule, by what its value is.
use Prim.Native.Nat.{ℕ, ◌-◌}
use mathlib.Core.Bool.{true}
use mathlib.Core.List.{List}
use mathlib.Core.Path.{◌≡◌}
use Rattle.std.specs.declared.ops.Range.{Range}
use Rattle.schedule.specs.declared.Entry.{Entry}
use Rattle.schedule.specs.declared.Schedule.{Schedule}
use Rattle.schedule.specs.Entries.{legal, with_days}
use Rattle.schedule.specs.Operations.{period_in, entry_in, written}
use Rattle.schedule.specs.Spans.{days_from}
use Rattle.schedule.proofs.Spans.{Found}

module _ (schedule : Schedule) (value : List ℕ) where
  pub stored : {span : Range ℕ} {after : List Entry} → Found value span → legal (entry_in value) ≡ true
      → after ≡ with_days schedule.entries (days_from (span.end - span.start) span.start) (period_in value) (entry_in value)
      → ◌≡◌ {A = Schedule} (record { entries = after }) (written schedule value)
  stored found ok e = rw (found.written, ok, found.days, e)
