use Rattle.std.proofs.Common.{arith, sym, ◌∙◌, take, length-append}
use borrow.Author.Tests.{leb-true}
use Rattle.encoding.specs.Writing.{joined}
use Rattle.octets.proofs.Overwriting.{overwrite_after}
use Rattle.encoding.proofs.Joined.{part_at, joined_more, joined_within}
use Rattle.encoding.proofs.write_parts.Goals as goal

pub put-requires : goal.put-requires
put-requires c =
    let within = joined_within c.args.parts.now c.loop-part.part-index c.loop-part-test.true in
    let room = leb-true _ _ (sym c.if-not-fit.ensures) in
    omega (arith, room)

pub loop-part-preserved : goal.loop-part-preserved
loop-part-preserved c =
    let so_far = c.loop-part.invariant in
    let parts = c.args.parts.now in
    let index = c.loop-part.part-index in
    let within = joined_within c.args.parts.now c.loop-part.part-index c.loop-part-test.true in
    let room = leb-true _ _ (sym c.if-not-fit.ensures) in
    rw (joined_more c.args.parts.now c.loop-part.part-index c.loop-part-test.true) (record {
      place = simp length-append (omega arith);
      laid = c.put.ensures ∙ rw (so_far.laid, so_far.place, overwrite_after c.args.buffer.now c.args.at (joined (take index parts)) (part_at parts index) (omega (arith, room)));
    })
