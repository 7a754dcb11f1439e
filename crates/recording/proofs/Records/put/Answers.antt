-- What is still to be put: the record at hand, and those after it.
use Rattle.std.proofs.Common.{◌≡◌, ◌+◌, length, ap, subst, arith}
use Rattle.octets.specs.Octets.{Overwrites}
use Rattle.captures.specs.Form.{newest, packet_at, Record, record_bytes}
use Rattle.captures.proofs.Buffers.{put_on}
use Rattle.captures.proofs.Lists.{record_there, bytes_step, length_record}
use Rattle.recording.specs.Given.{record_given}
use Rattle.recording.proofs.Records.put.Goals as goal

pub loop-i-preserved : goal.loop-i-preserved
loop-i-preserved c =
    let r = c.args.self.now in
    let v = c.loop-i in
    let there = record_there r.indexes.now r.directions.now r.counters.now r.lengths.now v.left.now v.i in
    let same : record_given c.record-record.result ≡ there = cc in
    let split = bytes_step r.indexes.now r.directions.now r.counters.now r.lengths.now v.left.now v.i newest (omega arith) c.requires.side_by_side in
    let next : v.place + (packet_at newest + length c.record-record.result.packet.now) ≡ v.place + length (record_bytes newest there) =
    omega (arith, length_record newest there, ap (λ (r : Record). length r.packet) same) in
    let put = subst (λ (r : Record). Overwrites v.buffer v.place (record_bytes newest r) c.put.result c.put.new.buffer) same c.put.ensures in
    rw (c.bytes_after-left.ensures, c.from-size.ensures) (put_on (record_bytes newest there) _ v.invariant split next put)
