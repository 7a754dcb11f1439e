use Prim.Native.Nat.{◌*◌}
use native.Mathlib.Omega.{arith}
use mathlib.Core.Path.{◌≡◌, sym, ap, ◌∙◌}
use lib.ListN.{length, take}
use lib.Seq.{length-take-le, paste-zero}
use Rattle.octets.specs.Octets.{overwrite}
use Rattle.octets.proofs.Overwriting.{no_room, overwrites_after}
use Rattle.numerals.specs.Numerals.{hex_bytes}
use Rattle.numerals.proofs.Hex.{length_hex, hex_take}
use Rattle.numerals.proofs.write_hex.Goals as goal

pub returns-then-room-bytes : goal.returns-then-room-bytes
returns-then-room-bytes c = no_room _ c.args.at _ (omega (arith, length_hex c.args.bytes.now))

pub loop-i-init : goal.loop-i-init
unfolding hex_bytes
loop-i-init c = (omega arith, paste-zero _ c.args.at c.args.bytes.now)

pub loop-i-preserved : goal.loop-i-preserved
unfolding hex_bytes
loop-i-preserved c =
    let args = c.args in
    let v = c.loop-i in
    let bytes = args.bytes.now in
    let done : length (hex_bytes (take v.i bytes)) ≡ 2 * v.i = length_hex (take v.i bytes) ∙ ap (λ n. 2 * n) (length-take-le v.i bytes (omega arith)) in (
      v.invariant.0,
      overwrites_after args.text.now args.at (hex_bytes (take v.i bytes)) (rw c.hex_byte.ensures at c.overwrite.ensures) (omega arith) v.invariant.1 (omega arith)
          ∙ ap (overwrite args.text.now args.at) (sym (hex_take bytes v.i (omega arith))),
    )
