-- Running two command lists one after the other is running their concatenation; the parameters are all of a board that commands change.
use Rattle.std.specs.Prelude.{List, [], ◌++◌, ◌≡◌}
use Rattle.block.specs.Command.{Command}
use Rattle.model.specs.Commands.{run, run_reports}
use Rattle.model.specs.declared.Parameters.{Parameters}

-- the same parameters and the same reports, those of the second list from what the first leaves
pub record RunJoins (parameters : Parameters) (first second : List Command) : Type 0 where
  pub leaves : run parameters (first ++ second) ≡ run (run parameters first) second
  pub reports : run_reports parameters (first ++ second) ≡ run_reports parameters first ++ run_reports (run parameters first) second

abbrev pub RunsJoin : Type 0
RunsJoin = (parameters : Parameters) (first second : List Command) → RunJoins parameters first second

-- no command changes nothing and reports nothing
pub record NoneRuns (parameters : Parameters) : Type 0 where
  pub leaves : run parameters [] ≡ parameters
  pub reports : run_reports parameters [] ≡ []

abbrev pub NoneRun : Type 0
NoneRun = (parameters : Parameters) → NoneRuns parameters
