use native.Mathlib.Omega.{arith}
use mathlib.Core.Path.{refl}
use lib.ListN.{length-append}
use Rattle.octets.proofs.Overwriting.{with_room, overwrites, overwrites_after}
use Rattle.octets.proofs.overwrite_pair.Goals as goal

pub returns : goal.returns
returns c = let args = c.args in
    with_room (rw length-append (omega arith))
    (overwrites_after args.buffer.now args.at args.first.now c.overwrite-2.ensures refl
    (overwrites c.overwrite.ensures (omega arith)) (omega arith))
