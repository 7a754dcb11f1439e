use mathlib.Core.Path.{sym, ap, ◌∙◌}
use Rattle.block.proofs.Reports.{report_shorter, rest_in}
use Rattle.replay.proofs.tool_calls.put_reports.Goals as goal

pub loop-next_page-smaller-in-Held : goal.loop-next_page-smaller-in-Held
loop-next_page-smaller-in-Held c =
    rw c.part-left.ensures
    (report_shorter c.loop-next_page.page c.loop-next_page.left.now (ap rest_in (sym c.next_report.ensures ∙ c.in-Held.is)))

pub loop-next_page-smaller : goal.loop-next_page-smaller
loop-next_page-smaller c =
    rw c.part-left-in-Unknown.ensures
    (report_shorter c.loop-next_page.page c.loop-next_page.left.now (ap rest_in (sym c.next_report.ensures ∙ c.in-Unknown.is)))
