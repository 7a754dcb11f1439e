use native.Mathlib.Omega.{arith}
use mathlib.Core.Path.{sym, ◌∙◌}
use Rattle.captures.specs.Reading.{read}
use Rattle.exporting.proofs.Tables.{records_refused, rows_too_long, rows_have_room, header_put, records_put}
use Rattle.exporting.proofs.Source.export.Goals as goal

pub returns-in_err-room : goal.returns-in_err-room
returns-in_err-room c =
    let args = c.args in
    rw c.from_residual.ensures
    (records_refused args.buffer.now args.self.now.ids.now (read args.self.now.version args.self.now.boards args.self.now.records.now) (omega (arith, c.in_err-room.ensures)))

pub returns-in_err-fit : goal.returns-in_err-fit
returns-in_err-fit c =
    let args = c.args in
    let reading = read args.self.now.version args.self.now.boards args.self.now.records.now in
    rw c.from_residual-in_err-fit.ensures
    (records_refused args.buffer.now args.self.now.ids.now reading
    (rows_too_long args.buffer.now args.self.now.ids.now reading c.in_ok-room.room (omega (arith, c.in_ok-room.ensures)) (sym c.fit.ensures ∙ c.in_err-fit.was)))

pub returns : goal.returns
returns c =
    let args = c.args in
    let reading = read args.self.now.version args.self.now.boards args.self.now.records.now in
    let roomy = rows_have_room args.buffer.now args.self.now.ids.now reading c.in_ok-room.room (omega (arith, c.in_ok-room.ensures)) (sym c.fit.ensures ∙ c.in_ok-fit.was) in
    let first = header_put args.buffer.now args.self.now.ids.now reading roomy c.header.ensures c.overwrite.ensures in
    records_put args.buffer.now args.self.now.ids.now reading roomy first c.put-put.ensures c.refusal_at_end.ensures
