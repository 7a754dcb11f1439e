use native.Mathlib.Omega.{arith}
use Rattle.tool.proofs.Listings.{accepts}
use Rattle.exporting.proofs.RowRecords.{start_short, put_first, request_rows, refused_rows, accepted_rows, rows_put, rows_fit, none_put}
use Rattle.exporting.proofs.rows.Record.put.Goals as goal

pub returns-then-self-ne1 : goal.returns-then-self-ne1
returns-then-self-ne1 c =
    let args = c.args in
    let none = request_rows args.ids.now args.self.now.index args.self.now.direction args.self.now.counter args.self.now.packet.now c.if-self-ne1.true in
    let put = none_put none args.text.now args.at c.requires in
    record { end_value = put.ends; refused_value = put.judged; text_after = put.held }

pub returns-in_default : goal.returns-in_default
returns-in_default c =
    let args = c.args in
    let none =
    refused_rows args.ids.now args.self.now.index args.self.now.direction args.self.now.counter args.self.now.packet.now c.if-self-ne1.false c.read_any.ensures c.in_default.is in
    let put = none_put none args.text.now args.at c.requires in
    record { end_value = put.ends; refused_value = put.judged; text_after = put.held }

pub put_start-size-requires : goal.put_start-size-requires
put_start-size-requires c = rw c.id_of.ensures (start_short c.args.ids.now c.args.self.now.index c.args.self.now.counter)

pub slice_bounds-put_rows-count : goal.slice_bounds-put_rows-count
slice_bounds-put_rows-count c = omega (arith, accepts c.args.self.now.packet.now c.read_any.ensures c.in-Ok.is)

pub slice_bounds-put_rows-start : goal.slice_bounds-put_rows-start
slice_bounds-put_rows-start c = omega (arith, accepts c.args.self.now.packet.now c.read_any.ensures c.in-Ok.is)

pub put_rows-requires : goal.put_rows-requires
put_rows-requires c =
    let args = c.args in
    let known = accepts args.self.now.packet.now c.read_any.ensures c.in-Ok.is in
    let rows = accepted_rows args.ids.now args.self.now.index args.self.now.direction args.self.now.counter args.self.now.packet.now c.if-self-ne1.false c.read_any.ensures c.in-Ok.is in
    record {
      block_value = known.formed;
      block_in_bounds =
          rw (put_first (rw c.id_of.ensures at c.put_start-size.ensures))
          (rows_fit rows args.text.now args.at c.requires);
    }

pub returns : goal.returns
returns c =
    let args = c.args in
    let rows = accepted_rows args.ids.now args.self.now.index args.self.now.direction args.self.now.counter args.self.now.packet.now c.if-self-ne1.false c.read_any.ensures c.in-Ok.is in
    let put = rows_put rows (rw (put_first (rw c.id_of.ensures at c.put_start-size.ensures)) at c.put_rows.ensures) in
    record { end_value = put.ends; refused_value = put.judged; text_after = put.held }
