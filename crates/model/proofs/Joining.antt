-- Running two command lists one after the other is running their concatenation.
use mathlib.Core.List.{List, [], ◌∷◌, ◌++◌, append_assoc}
use mathlib.Core.Path.{◌≡◌, refl, ap, ◌∙◌}
use Rattle.block.specs.Command.{Command, Report}
use Rattle.model.specs.Commands.{after_command, reported, run, run_reports}
use Rattle.model.specs.Joining.{RunsJoin, NoneRun}
use Rattle.model.specs.declared.Parameters.{Parameters}

run_join : (first second : List Command) (p : Parameters) → run p (first ++ second) ≡ run (run p first) second
unfolding run
run_join [] second p = refl
run_join (c ∷ first) second p = run_join first second (after_command p c)

reports_join :
    (first second : List Command) (p : Parameters) → run_reports p (first ++ second) ≡ run_reports p first ++ run_reports (run p first) second
unfolding run run_reports
reports_join [] second p = refl
reports_join (c ∷ first) second p =
    ap (λ (rs : List Report). reported (after_command p c) c ++ rs) (reports_join first second (after_command p c)) ∙ simp append_assoc

pub runs_join : RunsJoin
runs_join p first second = record { leaves = run_join first second p; reports = reports_join first second p }

pub none_run : NoneRun
unfolding run run_reports
none_run p = record { leaves = refl; reports = refl }
