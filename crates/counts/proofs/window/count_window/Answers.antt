use Rattle.counts.proofs.Moving.{counts_and_keeps}
use Rattle.counts.proofs.window.count_window.Goals as goal

pub returns : goal.returns
returns c =
    let given = c.args in
    counts_and_keeps given.version given.boards given.start given.end given.window.now c.first_bytes-filled.ensures c.bytes_after.ensures c.count-ending.ensures c.keep.ensures
