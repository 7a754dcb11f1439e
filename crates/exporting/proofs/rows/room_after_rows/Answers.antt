use mathlib.Core.Path.{◌∙◌}
use Rattle.exporting.proofs.RowSteps.{row_next, row_end, room_left, room_more, room_none}
use Rattle.exporting.proofs.rows.room_after_rows.Goals as goal

pub returns-in_default : goal.returns-in_default
returns-in_default c =
    λ start sized.
    let v = c.loop-next_page in
    let none_left = row_end v.page v.left.now v.invariant.0 c.next_row.ensures c.in_default.is in
    room_left _ start _ (v.invariant.1 start sized) (none_left start)

pub returns-in_err-space : goal.returns-in_err-space
returns-in_err-space c =
    λ start sized.
    let v = c.loop-next_page in
    let step = row_next v.page v.left.now v.invariant.0 c.next_row.ensures c.in-Some.is in
    c.from_residual.ensures ∙ room_none _ start _ (v.invariant.1 start sized) step sized c.part-bytes.ensures c.room_after_row.ensures c.in_err-space.was

pub loop-next_page-smaller : goal.loop-next_page-smaller
loop-next_page-smaller c =
    let v = c.loop-next_page in
    let step = row_next v.page v.left.now v.invariant.0 c.next_row.ensures c.in-Some.is in
    rw c.part-left.ensures step.shorter

pub loop-next_page-preserved : goal.loop-next_page-preserved
loop-next_page-preserved c =
    let v = c.loop-next_page in
    let step = row_next v.page v.left.now v.invariant.0 c.next_row.ensures c.in-Some.is in
    rw c.part-left.ensures
    (step.formed, λ start sized. room_more _ start _ (v.invariant.1 start sized) step sized c.part-bytes.ensures c.room_after_row.ensures c.in_ok-space.was)
