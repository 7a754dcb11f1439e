use native.Mathlib.Omega.{arith}
use mathlib.Core.Path.{refl, sym}
use lib.Seq.{length-take-le}
use Rattle.tool.proofs.Listings.{accepts, text_size, text_taken, room_left}
use Rattle.tool.proofs.listing.show_block.Goals as goal

pub slice_bounds-write_lines-count : goal.slice_bounds-write_lines-count
slice_bounds-write_lines-count c = omega (arith, accepts c.args.packet.now refl c.requires)

pub slice_bounds-write_lines-start : goal.slice_bounds-write_lines-start
slice_bounds-write_lines-start c = omega (arith, accepts c.args.packet.now refl c.requires)

pub returns-in_default : goal.returns-in_default
returns-in_default c = absurd (room_left c.args.packet.now _ _ refl (accepts c.args.packet.now refl c.requires).text c.write_lines.ensures c.in_default.not-Ok)

pub slice_bounds-text-end : goal.slice_bounds-text-end
slice_bounds-text-end c = omega (arith, text_size c.args.packet.now _ _ refl (accepts c.args.packet.now refl c.requires).text c.write_lines.ensures c.in-Ok.is)

pub slice_bounds-show-end : goal.slice_bounds-show-end
slice_bounds-show-end c =
    sym (length-take-le _ _ (omega (arith, text_size c.args.packet.now _ _ refl (accepts c.args.packet.now refl c.requires).text c.write_lines.ensures c.in-Ok.is)))

pub returns : goal.returns
returns c =
    rw (text_taken c.args.packet.now _ _ refl (accepts c.args.packet.now refl c.requires).text c.write_lines.ensures c.in-Ok.is)
    at c.show.ensures
