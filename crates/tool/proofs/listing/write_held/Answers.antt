use native.Mathlib.Omega.{arith}
use Rattle.tool.proofs.Lines.{held_written, held_long}
use Rattle.tool.proofs.listing.write_held.Goals as goal

pub returns-then-room-lt8 : goal.returns-then-room-lt8
returns-then-room-lt8 c =
    let args = c.args in
    held_long args.page args.low args.value.now _ args.at (omega arith)

pub returns-then-room-value : goal.returns-then-room-value
returns-then-room-value c =
    let args = c.args in
    held_long args.page args.low args.value.now _ args.at (omega arith)

pub returns : goal.returns
returns c =
    let args = c.args in
    held_written args.page args.low args.value.now args.text.now args.at (omega arith) c.line_start-start.ensures c.overwrite.ensures c.write_hex.ensures c.overwrite-2.ensures
