use Rattle.exporting.proofs.RowTexts.{all_put}
use Rattle.exporting.proofs.RowSteps.{row_next, row_end, row_fits, row_on}
use Rattle.exporting.proofs.rows.put_rows.Goals as goal

pub returns-in_default : goal.returns-in_default
returns-in_default c =
    let v = c.loop-next_page in
    let none_left = row_end v.page v.left.now v.invariant.0 c.next_row.ensures c.in_default.is in
    all_put (rw (none_left c.args.start.now) at v.invariant.1)

pub put_row-place-requires : goal.put_row-place-requires
put_row-place-requires c =
    let v = c.loop-next_page in
    let step = row_next v.page v.left.now v.invariant.0 c.next_row.ensures c.in-Some.is in
    row_fits _ v.invariant.1 step c.part-bytes.ensures

pub loop-next_page-smaller : goal.loop-next_page-smaller
loop-next_page-smaller c =
    let v = c.loop-next_page in
    let step = row_next v.page v.left.now v.invariant.0 c.next_row.ensures c.in-Some.is in
    rw c.part-left.ensures step.shorter

pub loop-next_page-preserved : goal.loop-next_page-preserved
loop-next_page-preserved c =
    let v = c.loop-next_page in
    let step = row_next v.page v.left.now v.invariant.0 c.next_row.ensures c.in-Some.is in
    rw c.part-left.ensures (step.formed, row_on _ v.invariant.1 step c.part-bytes.ensures c.put_row-place.ensures)
