-- `rewriting::rewrite` meets its contract.
use Rattle.std.proofs.Common.{arith}
use Rattle.captures.specs.Reading.{read}
use Rattle.rewriting.specs.declared.Extent.TheVariants.{Whole, Part}
use Rattle.rewriting.proofs.Outcomes.{size_read, fits_not, fits, head_refuses, no_space, all_put}
use Rattle.rewriting.proofs.rewrite.Goals as goal

pub returns-in-Err : goal.returns-in-Err
returns-in-Err c = head_refuses c.args.buffer.now c.args.capture.now (cc)

pub returns-in_default : goal.returns-in_default
returns-in_default c = no_space c.args.buffer.now c.args.capture.now {head = c.in-Ok.head} (cc) {ids = c.first_bytes-ids.result.now} (cc) c.bytes_after-2.ensures (omega (arith, c.in_default.ensures))

pub returns-in_default-fit : goal.returns-in_default-fit
returns-in_default-fit c =
    no_space c.args.buffer.now c.args.capture.now {head = c.in-Ok.head} (cc) {ids = c.first_bytes-ids.result.now} (cc) c.bytes_after-2.ensures
    (omega (arith, c.in-Some.ensures, fits_not c.in-Some.room (read c.in-Ok.head.version c.in-Ok.head.boards c.bytes_after-2.result.now) (cc)))

pub put_all-end-requires : goal.put_all-end-requires
put_all-end-requires c =
    let reading = read c.in-Ok.head.version c.in-Ok.head.boards c.bytes_after-2.result.now in
    omega (arith, size_read c.first_bytes-ids.result.now reading, c.in-Some.ensures, (fits c.in-Some.room reading {found = c.in-Some-fit.extent} (cc)).0)

pub returns-in-Whole : goal.returns-in-Whole
returns-in-Whole c =
    let told = fits c.in-Some.room (read c.in-Ok.head.version c.in-Ok.head.boards c.bytes_after-2.result.now) {found = Whole} (cc) in
    all_put c.args.buffer.now c.args.capture.now {head = c.in-Ok.head} (cc) {ids = c.first_bytes-ids.result.now} (cc) c.bytes_after-2.ensures told.1
    (omega (arith, c.in-Some.ensures, told.0)) c.put_all-end.ensures.value c.put_all-end.ensures.buffer_after

pub returns-in-Part : goal.returns-in-Part
returns-in-Part c =
    let told = fits c.in-Some.room (read c.in-Ok.head.version c.in-Ok.head.boards c.bytes_after-2.result.now) {found = Part} (cc) in
    all_put c.args.buffer.now c.args.capture.now {head = c.in-Ok.head} (cc) {ids = c.first_bytes-ids.result.now} (cc) c.bytes_after-2.ensures told.1
    (omega (arith, c.in-Some.ensures, told.0)) c.put_all-end.ensures.value c.put_all-end.ensures.buffer_after
