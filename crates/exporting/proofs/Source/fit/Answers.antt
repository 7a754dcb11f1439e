use mathlib.Core.Path.{sym, ◌∙◌}
use Rattle.counts.proofs.Counted.{shorter}
use Rattle.exporting.proofs.Fits.{fits_end, fits_none, fits_on}
use Rattle.exporting.proofs.Source.fit.Goals as goal

pub returns-in-End : goal.returns-in-End
returns-in-End c =
    let v = c.loop-index in
    let args = c.args in
    fits_end args.self.now.version args.self.now.boards args.self.now.ids.now v.rest.now v.left v.invariant (rw c.next_record.ensures at c.in-End.is)

pub returns-in_err-left-in-Record : goal.returns-in_err-left-in-Record
returns-in_err-left-in-Record c =
    let v = c.loop-index in
    let args = c.args in
    let found = sym c.next_record.ensures ∙ c.in-Record.is in
    c.from_residual.ensures ∙ fits_none args.self.now.version args.self.now.boards args.self.now.ids.now v.rest.now v.left v.invariant found c.part.ensures c.room_after.ensures c.in_err-left-in-Record.was

pub loop-index-smaller : goal.loop-index-smaller
loop-index-smaller c =
    rw c.part-rest.ensures
    (shorter c.args.self.now.version c.args.self.now.boards c.loop-index.rest.now (sym c.next_record.ensures ∙ c.in-Record.is))

pub loop-index-preserved : goal.loop-index-preserved
loop-index-preserved c =
    let v = c.loop-index in
    let args = c.args in
    let found = sym c.next_record.ensures ∙ c.in-Record.is in
    rw c.part-rest.ensures
    (fits_on args.self.now.version args.self.now.boards args.self.now.ids.now v.rest.now v.left v.invariant found c.part.ensures c.room_after.ensures c.in_ok-left-in-Record.was)
