use Rattle.framing.specs.Frame.{frame}
use Rattle.framing.proofs.Writing.{parts_of, packet_written, writes_packet}
use Rattle.framing.proofs.write.Goals as goal

pub returns : goal.returns
returns c =
    let args = c.args in
    let known = parts_of _ _ _ _ c.packet_length.ensures c.in_ok-length.was in
    writes_packet (frame args.id.now args.password.now args.function args.block.now) args.buffer.now known
    (packet_written args.buffer.now args.id.now args.password.now args.function args.block.now known
    c.overwrite_pair.ensures c.overwrite_pair-2.ensures c.overwrite_pair-3.ensures
    c.checksum.ensures c.to_le_bytes-sum.ensures c.overwrite.ensures)
