use mathlib.Core.Path.{ap, ◌∙◌}
use lib.ListN.{drop}
use Rattle.exporting.specs.Exporting.{window_call}
use Rattle.exporting.proofs.Windows.{rows_fit, window_exported}
use Rattle.exporting.proofs.window.export_window.Goals as goal

pub put-put-requires : goal.put-put-requires
put-put-requires c =
    let args = c.args in
    let call = window_call args.text.now args.window.now args.start args.end args.ids.now args.version args.boards args.refused in
    rw (c.bytes_after-records.ensures ∙ ap (drop args.start) c.first_bytes.ensures)
    (rows_fit call c.first_bytes.ensures c.bytes_after-records.ensures c.if-text-records.false)

pub returns : goal.returns
returns c =
    let args = c.args in
    let call = window_call args.text.now args.window.now args.start args.end args.ids.now args.version args.boards args.refused in
    window_exported call c.first_bytes.ensures c.bytes_after-records.ensures c.if-text-records.false c.put-put.ensures c.keep.ensures
