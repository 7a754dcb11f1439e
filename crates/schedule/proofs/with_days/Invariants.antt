use Prim.Native.Nat.{◌-◌}
use mathlib.Core.Path.{◌≡◌}
use Rattle.schedule.specs.Entries.{with_days}
use Rattle.schedule.specs.Spans.{days_from}
use Rattle.schedule.proofs.with_days.Given as goal

abbrev pub invariant-loop-day : goal.invariant-loop-day
invariant-loop-day l =
    with_days l.initial.entries (days_from (l.fn.days.end - l.fn.days.start) l.fn.days.start) l.period l.new
    ≡ with_days l.entries (days_from (l.day-iterator.end - l.day-iterator.start) l.day-iterator.start) l.period l.new
