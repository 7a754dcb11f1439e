use native.Mathlib.Omega.{arith}
use mathlib.Core.Path.{refl, sym, ◌∙◌}
use Rattle.tool.proofs.CommandLists.{list_end, first_of_list}
use Rattle.tool.proofs.Blocks.{begun, written, not_written, finished, no_block}
use Rattle.tool.proofs.request.Commands.write_block.Goals as goal

pub loop-i-init : goal.loop-i-init
loop-i-init c =
    let s = c.args.self.now in
    begun _ c.args.block.now _ (c.first_function-function.ensures ∙ sym (first_of_list s.functions.now s.numbers.now s.lengths.now s.values.now c.requires))

pub returns-in_err-at : goal.returns-in_err-at
returns-in_err-at c =
    let s = c.args.self.now in
    let v = c.loop-i in
    rw c.from_residual.ensures
    (no_block _ c.args.block.now _
    (not_written s.functions.now s.numbers.now s.lengths.now v.left.now v.i (omega arith) c.requires v.invariant c.from-length.ensures c.first_bytes.ensures c.write_command.ensures
    c.args.block.now refl (sym c.ok.ensures.value ∙ c.in_err-at.was)))

pub loop-i-preserved : goal.loop-i-preserved
loop-i-preserved c =
    let s = c.args.self.now in
    let v = c.loop-i in
    rw c.bytes_after-left.ensures
    (written s.functions.now s.numbers.now s.lengths.now v.left.now v.i (omega arith) c.requires v.invariant c.from-length.ensures c.first_bytes.ensures c.write_command.ensures
    (sym c.ok.ensures.value ∙ c.in_ok-at.was))

pub returns : goal.returns
returns c =
    let s = c.args.self.now in
    let v = c.loop-i in
    finished _ c.args.block.now _ v.at v.page v.function
    (rw (list_end s.functions.now s.numbers.now s.lengths.now v.left.now v.i (omega arith)) at v.invariant)
