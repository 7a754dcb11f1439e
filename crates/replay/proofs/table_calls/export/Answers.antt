use Rattle.replay.proofs.Buffers.{lent_length}
use Rattle.replay.proofs.table_calls.export.Goals as goal

pub slice_bounds-lend-end : goal.slice_bounds-lend-end
slice_bounds-lend-end c = lent_length 1048576 0xA5
