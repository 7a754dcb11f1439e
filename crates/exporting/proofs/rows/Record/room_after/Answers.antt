use native.Mathlib.Omega.{arith}
use mathlib.Core.Path.{sym}
use Rattle.tool.proofs.Listings.{accepts}
use Rattle.exporting.proofs.RowRecords.{request_rows, refused_rows, accepted_rows, room_kept}
use Rattle.exporting.proofs.rows.Record.room_after.Goals as goal

pub returns-then-self-ne1 : goal.returns-then-self-ne1
returns-then-self-ne1 c =
    let args = c.args in
    room_kept (request_rows args.ids.now args.self.now.index args.self.now.direction args.self.now.counter args.self.now.packet.now c.if-self-ne1.true) args.room

pub returns-in_default : goal.returns-in_default
returns-in_default c =
    let args = c.args in
    room_kept
    (refused_rows args.ids.now args.self.now.index args.self.now.direction args.self.now.counter args.self.now.packet.now c.if-self-ne1.false c.read_any.ensures c.in_default.is)
    args.room

pub slice_bounds-room_after_rows-count : goal.slice_bounds-room_after_rows-count
slice_bounds-room_after_rows-count c = omega (arith, accepts c.args.self.now.packet.now c.read_any.ensures c.in-Ok.is)

pub slice_bounds-room_after_rows-start : goal.slice_bounds-room_after_rows-start
slice_bounds-room_after_rows-start c = omega (arith, accepts c.args.self.now.packet.now c.read_any.ensures c.in-Ok.is)

pub room_after_rows-requires : goal.room_after_rows-requires
room_after_rows-requires c = (accepts c.args.self.now.packet.now c.read_any.ensures c.in-Ok.is).formed

pub returns : goal.returns
returns c =
    let args = c.args in
    let rows = accepted_rows args.ids.now args.self.now.index args.self.now.direction args.self.now.counter args.self.now.packet.now c.if-self-ne1.false c.read_any.ensures c.in-Ok.is in
    let sized = rw c.id_of.ensures at c.start_size-size.ensures in
    rw rows.lines (c.room_after_rows.ensures _ (sym sized))
