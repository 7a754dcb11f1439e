use Rattle.std.proofs.lemmas.Result.{err_from_is_err_and}
use mathlib.Core.Path.{sym, ap, ◌∙◌}
use Rattle.block.specs.Command.{held, unknown}
use Rattle.block.specs.Reading.{part_of}
use Rattle.block.specs.Response.{reports_from}
use Rattle.block.specs.Statements.{reports_after}
use Rattle.block.proofs.Reports.{reports_step, report_shorter, rest_in}
use Rattle.tool.specs.Listing.{ended, malformed, written}
use Rattle.tool.proofs.listing.write_next.Goals as goal

pub returns-in-End : goal.returns-in-End
returns-in-End c =
    let args = c.args in
    ended (reports_step args.page args.left.now ∙ ap (reports_after reports_from args.left.now) (sym c.next_report.ensures ∙ c.in-End.is))

pub returns-in-Malformed : goal.returns-in-Malformed
returns-in-Malformed c =
    let args = c.args in
    malformed (reports_step args.page args.left.now ∙ ap (reports_after reports_from args.left.now) (sym c.next_report.ensures ∙ c.in-Malformed.is))

pub returns-in_err-end-in-Held : goal.returns-in_err-end-in-Held
returns-in_err-end-in-Held c =
    let found = c.in-Held in
    let args = c.args in
    let left = args.left.now in
    let p = err_from_is_err_and c.from_residual.result c.from_residual.ensures.1 in
    rw (p.1, p.2)
    (written (held found.page found.low (part_of found.value found.rest left)) found.page found.rest
    (reports_step args.page left ∙ ap (reports_after reports_from left) (sym c.next_report.ensures ∙ found.is))
    (report_shorter args.page left (ap rest_in (sym c.next_report.ensures ∙ found.is)))
    (rw c.in_err-end-in-Held.was at (rw c.part.ensures at c.write_held.ensures)))

pub returns-in_ok-end-in-Held : goal.returns-in_ok-end-in-Held
returns-in_ok-end-in-Held c =
    let found = c.in-Held in
    let args = c.args in
    let left = args.left.now in
    written (held found.page found.low (part_of found.value found.rest left)) found.page found.rest
    (reports_step args.page left ∙ ap (reports_after reports_from left) (sym c.next_report.ensures ∙ found.is))
    (report_shorter args.page left (ap rest_in (sym c.next_report.ensures ∙ found.is)))
    (rw c.in_ok-end-in-Held.was at (rw c.part.ensures at c.write_held.ensures))

pub returns-in_err-end-in-Unknown : goal.returns-in_err-end-in-Unknown
returns-in_err-end-in-Unknown c =
    let found = c.in-Unknown in
    let args = c.args in
    let left = args.left.now in
    let p = err_from_is_err_and c.from_residual-in_err-end-in-Unknown.result c.from_residual-in_err-end-in-Unknown.ensures.1 in
    rw (p.1, p.2)
    (written (unknown found.page found.low) found.page found.rest
    (reports_step args.page left ∙ ap (reports_after reports_from left) (sym c.next_report.ensures ∙ found.is))
    (report_shorter args.page left (ap rest_in (sym c.next_report.ensures ∙ found.is)))
    (rw c.in_err-end-in-Unknown.was at c.write_unknown.ensures))

pub returns-in_ok-end-in-Unknown : goal.returns-in_ok-end-in-Unknown
returns-in_ok-end-in-Unknown c =
    let found = c.in-Unknown in
    let args = c.args in
    let left = args.left.now in
    written (unknown found.page found.low) found.page found.rest
    (reports_step args.page left ∙ ap (reports_after reports_from left) (sym c.next_report.ensures ∙ found.is))
    (report_shorter args.page left (ap rest_in (sym c.next_report.ensures ∙ found.is)))
    (rw c.in_ok-end-in-Unknown.was at c.write_unknown.ensures)
