use Rattle.exporting.proofs.RowTexts.{row_put}
use Rattle.exporting.proofs.rows.put_row.Goals as goal

pub returns : goal.returns
returns c =
    let args = c.args in
    row_put args.text.now args.start.now args.at args.page args.low args.value.now c.requires c.row_number-number.ensures
    c.overwrite_pair.ensures c.write_hex.ensures c.overwrite.ensures
