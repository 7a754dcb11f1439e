-- `summing::write` meets its contract.
use Prim.Native.Nat.{◌+◌, ◌≤◌}
use native.Mathlib.Omega.{arith}
use mathlib.Core.Path.{◌≡◌, ap}
use lib.ListN.{length}
use Rattle.tool.specs.declared.listing.Line.{Line}
use Rattle.tool.proofs.Texts.{line_held}
use Rattle.summing.specs.Text.{lines_of, last_line}
use Rattle.summing.proofs.Shown.{text_fits, both_shown}
use Rattle.summing.proofs.write.Goals as goal

-- the lines and the last one fit
pub returns : goal.returns
returns c =
    let lines = lines_of c.args.counts.now in
    let last = last_line c.args.refusal in
    let size : c.last_line-line.result.size ≡ length last = ap (λ (line : Line). line.size) c.last_line-line.ensures in
    let left = text_fits (length c.args.text.now) lines c.room_after.ensures c.in_ok-left.was in
    let fit : length lines + length last ≤ length c.args.text.now = omega (arith, left, size, c.if-left-line.false) in
    let line = line_held last c.last_line-line.ensures in
    both_shown c.args.text.now lines last fit c.write_lines-at.ensures (rw line at c.overwrite.ensures) size
