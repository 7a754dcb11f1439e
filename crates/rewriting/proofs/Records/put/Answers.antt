-- What is still to be put: the record at hand, and what is read behind it.
use Rattle.std.proofs.Common.{◌≡◌, ◌+◌, ◌-◌, sym, ap, ◌∙◌, length, arith}
use Rattle.captures.specs.Form.{newest, packet_at, record_bytes}
use Rattle.captures.proofs.Buffers.{put_on}
use Rattle.rewriting.proofs.Steps.{found, records_by, records_step, size}
use Rattle.rewriting.proofs.Records.put.Goals as goal

pub loop-index-preserved : goal.loop-index-preserved
loop-index-preserved c =
    let v = c.loop-index in
    let r = c.in-Record in
    let e = sym c.next_record.ensures ∙ r.is in
    let bytes = record_bytes newest (found c.args.self.now.version c.args.self.now.boards v.rest.now r.index r.direction r.counter r.packet r.after) in
    let split = records_step c.args.self.now.version c.args.self.now.boards v.rest.now ∙ ap (records_by c.args.self.now.version c.args.self.now.boards v.rest.now) e in
    let next : v.place + (packet_at newest + (r.packet - r.after)) ≡ v.place + length bytes = omega (arith, size c.args.self.now.version c.args.self.now.boards v.rest.now e) in
    let put = c.put.ensures in
    rw c.bytes_after-rest.ensures (put_on bytes _ v.invariant split next (rw (c.first_bytes-bytes.ensures, c.bytes_after.ensures) at put))
