use mathlib.Core.Bool.{Bool, true, false, cond}
use mathlib.Core.Path.{◌≡◌, refl}
use borrow.Author.Tests.{le-leb, lt-leb}
use mir.Val.{bool_byte}
use Rattle.calendar.proofs.Formulas.{months_by_lem}
use Rattle.calendar.proofs.days_of_months.Goals as goal
use Rattle.calendar.proofs.days_of_months.Goals.{then-months-ge2, else-months-ge2}

one_or_none : (leap : Bool) → cond leap 1 0 ≡ bool_byte leap
one_or_none true = refl
one_or_none false = refl

pub returns : goal.returns
returns c =
    rw (c.from.ensures, c.from-2.ensures)
    (months_by_lem c.args.year c.args.months _ c.requires.0 c.requires.1
    (elim c.if-months-ge2.branch [
      | then-months-ge2 w ↦ simp (w.has_leap_day-is, le-leb _ _ w.if-months-ge2.true, one_or_none)
      | else-months-ge2 w ↦ simp (w.has_leap_day-is, lt-leb _ _ w.if-months-ge2.false)
    ]))
