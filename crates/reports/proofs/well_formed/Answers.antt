use mathlib.Core.Path.{sym, ap, ◌∙◌}
use Rattle.std.proofs.Common.{inl, inr}
use Rattle.block.proofs.Reports.{rest_in, report_shorter}
use Rattle.reports.proofs.well_formed.Goals as goal

pub loop-next_page-smaller : goal.loop-next_page-smaller
loop-next_page-smaller c =
    let v = c.loop-next_page in
    rw c.part-left.ensures
    (elim c.in-Held.is [
      | inl w ↦ report_shorter v.page v.left.now (ap rest_in (sym c.next_item.ensures ∙ w.2))
      | inr w ↦ report_shorter v.page v.left.now (ap rest_in (sym c.next_item.ensures ∙ w.1))
    ])
