use Prim.Native.Nat.{ℕ}
use mathlib.Core.Bool.{true, false}
use mathlib.Core.List.{List, ◌∷◌}
use mathlib.Core.Option.{map}
use mathlib.Core.Path.{◌≡◌, refl, sym, ap, ◌∙◌}
use Rattle.std.specs.Prelude.{Option, None, Some, Result, Ok, Err, is_ok}
use Rattle.std.specs.Result.{result_ok}
use Rattle.block.specs.Command.{Command, command_of}
use Rattle.block.specs.Reading.{part_of}
use Rattle.block.specs.declared.request.NextCommand.{NextCommand}
use Rattle.block.specs.Request.{commands_from, next_command}
use Rattle.block.specs.Statements.{commands_after}
use Rattle.block.proofs.Commands.{commands_step, command_shorter}
use Rattle.encoding.specs.declared.Unwritten.{Unwritten}
use Rattle.model.specs.declared.Parameters.{Parameters}
use Rattle.commands.specs.declared.RunResult.{RunResult}
use Rattle.commands.specs.declared.Scope.{Scope}
use Rattle.commands.specs.declared.draft.Draft.{Draft}
use Rattle.commands.specs.Draft.{run_from}
use Rattle.commands.proofs.Turns.{ran_none, settled_again, turn_left, turn_over}
use Rattle.commands.proofs.run.Goals as goal

-- the commands that are left, by what stands first
module _ (scope : Scope) (held : Parameters) (written : Draft) (page in_force : ℕ) (rest : List ℕ) {whole : Option RunResult} where
  by_first :
      {first : NextCommand} → first ≡ next_command page in_force rest → run_from scope held written (commands_from page in_force rest) ≡ whole
      → run_from scope held written (commands_after commands_from rest first) ≡ whole
  by_first is so_far =
      ap (run_from scope held written) (sym (commands_step page in_force rest ∙ ap (commands_after commands_from rest) (sym is))) ∙ so_far

  -- the command of a turn, and those after it
  by_command :
      (next_function next_page low from after : ℕ) {value : List ℕ} → value ≡ part_of from after rest
      → NextCommand.Command next_function next_page low from after ≡ next_command page in_force rest
      → run_from scope held written (commands_from page in_force rest) ≡ whole
      → run_from scope held written (map (λ (cs : List Command). command_of next_function next_page low value ∷ cs) (commands_from next_page next_function (part_of after 0 rest))) ≡ whole
  by_command next_function next_page low from after cut is so_far = rw cut (by_first is so_far)

-- whether reports were taken
taken_by : (answer : Result (Unit {0}) Unwritten) {u : Unit {0}} {told : Option (Unit {0})} → told ≡ result_ok answer → told ≡ Some u → is_ok answer ≡ true
taken_by (Ok x) e h = refl
taken_by (Err why) e h = cc

over_by : (answer : Result (Unit {0}) Unwritten) {told : Option (Unit {0})} → told ≡ result_ok answer → told ≡ None → is_ok answer ≡ false
over_by (Ok x) e h = cc
over_by (Err why) e h = refl

pub returns-in-End : goal.returns-in-End
returns-in-End c =
    let t = c.loop-draft in
    sym (ran_none t.draft t.invariant.0 c.args.scope t.held) ∙ by_first c.args.scope t.held t.draft t.page t.in_force t.rest.now c.in-End.ensures t.invariant.1

pub returns-in-Malformed : goal.returns-in-Malformed
returns-in-Malformed c =
    let t = c.loop-draft in
    by_first c.args.scope t.held t.draft t.page t.in_force t.rest.now c.in-Malformed.ensures t.invariant.1

pub returns-in_err-ok-in-Command : goal.returns-in_err-ok-in-Command
returns-in_err-ok-in-Command c =
    let t = c.loop-draft in
    let next = c.in-Command in
    c.from_residual.ensures
    ∙ sym (turn_over c.args.scope t.held t.draft t.invariant.0 (command_of next.next_function next.next_page next.low c.part.result.now) c.change-held.ensures c.report.ensures _ (over_by _ c.ok.ensures.value c.in_err-ok-in-Command.was))
    ∙ by_command c.args.scope t.held t.draft t.page t.in_force t.rest.now next.next_function next.next_page next.low next.from next.after c.part.ensures next.ensures t.invariant.1

pub loop-draft-smaller : goal.loop-draft-smaller
loop-draft-smaller c =
    let t = c.loop-draft in
    rw c.part-rest.ensures (command_shorter 5 t.page t.in_force t.rest.now (sym c.in-Command.ensures))

pub loop-draft-preserved : goal.loop-draft-preserved
loop-draft-preserved c =
    let t = c.loop-draft in
    let next = c.in-Command in
    let command = command_of next.next_function next.next_page next.low c.part.result.now in
    let taken = taken_by _ c.ok.ensures.value c.in_ok-ok-in-Command.was in (
      settled_again c.args.scope t.held t.draft t.invariant.0 command c.change-held.ensures c.report.ensures taken,
      rw c.part-rest.ensures
          (sym (turn_left c.args.scope t.held t.draft t.invariant.0 command c.change-held.ensures c.report.ensures _ taken)
          ∙ by_command c.args.scope t.held t.draft t.page t.in_force t.rest.now next.next_function next.next_page next.low next.from next.after c.part.ensures next.ensures t.invariant.1),
    )
