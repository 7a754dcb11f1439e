-- The data block of a response while the code writes it.
use Rattle.std.specs.Prelude.{ℕ, ◌+◌, Bool, true, cond, ◌&&◌, List, [], ◌∷◌, ◌++◌, ◌≡◌, length, replicate, Option as OptionInCode, None, Some, is_some, unwrap_or, Result, is_ok, ⊤}
use Rattle.std.proofs.Math.Option.{Option, none, some}
use Rattle.octets.specs.Octets.{overwrite, fits}
use Rattle.block.specs.Command.{Command, command_number, Report}
use Rattle.block.specs.Encoding.{encode_reports, last_page, encodable_report, every}
use Rattle.block.specs.Request.{commands}
use Rattle.rows.specs.Rows.{is_identity}
use Rattle.model.specs.Commands.{after_command, reported, run}
use Rattle.model.specs.declared.Parameters.{Parameters}
use Rattle.encoding.specs.declared.Unwritten.{Unwritten}
use Rattle.commands.specs.declared.draft.Draft.{Draft}
use Rattle.commands.specs.declared.RunResult.{RunResult}
use Rattle.commands.specs.declared.Scope.{Scope}
use Rattle.commands.specs.declared.Scope.TheVariants.{All, Identity}

abbrev pub draft_of : List ℕ → ℕ → ℕ → Draft
draft_of bytes length page = record { bytes = bytes; length = length; page = page }

-- whether reports have a form each, and fit after what is written
abbrev pub taken : Draft → List Report → Bool
taken draft reports = every encodable_report reports && fits draft.bytes draft.length (encode_reports draft.page reports)

-- the reports after what is written
abbrev pub extended : Draft → List Report → Draft
extended draft reports =
    draft_of (overwrite draft.bytes draft.length (encode_reports draft.page reports))
    (draft.length + length (encode_reports draft.page reports))
    (last_page draft.page reports)

-- the draft with reports, where they are taken; no reports leave a draft as it is
abbrev pub drafted : Draft → List Report → OptionInCode Draft
drafted draft [] = Some draft
drafted draft (first ∷ rest) = cond (taken draft (first ∷ rest)) (Some (extended draft (first ∷ rest))) None

-- what is answered when reports are added, and the draft after it; one that does not take them stays as it was
pub record Adds (draft : Draft) (reports : List Report) (answer : Result ⊤ Unwritten) (after : Draft) : Type 0 where
  pub answered : is_ok answer ≡ is_some (drafted draft reports)
  pub left : after ≡ unwrap_or (drafted draft reports) draft

-- nothing written
abbrev pub blank : Draft
blank = draft_of (replicate 232 0) 0 0

-- what a command reports: in a discovery only the rows of the identity
abbrev pub selected : Scope → ℕ → Bool
selected All number = true
selected Identity number = is_identity number

abbrev pub reported_in : Scope → Parameters → Command → List Report
reported_in scope parameters c = cond (selected scope (command_number c)) (reported parameters c) []

unfoldable pub run_reports_in : Scope → Parameters → List Command → List Report
run_reports_in scope parameters [] = []
run_reports_in scope parameters (c ∷ cs) =
    reported_in scope (after_command parameters c) c ++ run_reports_in scope (after_command parameters c) cs

abbrev pub run_result : Parameters → Draft → RunResult
run_result parameters draft = record { parameters = parameters; draft = draft }

-- commands after what is written, where there are some to run and their reports are taken
abbrev pub run_from : Scope → Parameters → Draft → Option (List Command) → OptionInCode RunResult
run_from scope parameters draft none = None
run_from scope parameters draft (some cs) =
    cond (taken draft (run_reports_in scope parameters cs)) (Some (run_result (run parameters cs) (extended draft (run_reports_in scope parameters cs)))) None

-- all commands of a data block
abbrev pub run_block : Scope → Parameters → ℕ → List ℕ → OptionInCode RunResult
run_block scope parameters function block = run_from scope parameters blank (commands function block)
