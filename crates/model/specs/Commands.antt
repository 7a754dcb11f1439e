-- What a command does to a board's parameters, and what it reports.
use Rattle.std.specs.Prelude.{ℕ, Bool, cond, ◌&&◌, ◌||◌, List, [], ◌∷◌, ◌++◌, eqb}
use Rattle.block.specs.Command.{Command, command_number, Report, held, unknown}
use Rattle.rows.specs.Layout.{is_micra}
use Rattle.store.specs.declared.Answer.{Answer}
use Rattle.store.specs.declared.Answer.TheVariants.{Value, Unknown, Silence}
use Rattle.store.specs.declared.Store.{Store}
use Rattle.store.specs.Layout.{value_of}
use Rattle.store.specs.Operations.{written, raised, lowered, answer}
use Rattle.schedule.specs.declared.Answer.{Answer as EntryAnswer}
use Rattle.schedule.specs.declared.Answer.TheVariants as entry
use Rattle.schedule.specs.declared.Schedule.{Schedule}
use Rattle.schedule.specs.Operations as entries
use Rattle.model.specs.Record.{unit_type, parameters_of}
use Rattle.model.specs.declared.Parameters.{Parameters}

-- on a Micra the weekly schedule is one parameter, every other one is a row or unknown
abbrev pub names_schedule : ℕ → ℕ → Bool
names_schedule unit n = is_micra unit && eqb n entries.schedule_number

abbrev pub is_schedule : Parameters → Command → Bool
is_schedule parameters c = names_schedule parameters.store.unit (command_number c)

abbrev pub is_write : Command → Bool
is_write c = eqb c.function 2 || eqb c.function 3

-- 02 and 03 write, 04 raises, 05 lowers
abbrev pub after_row : Store → Command → Store
after_row store c =
    cond (is_write c) (written store (command_number c) c.value)
    (cond (eqb c.function 4) (raised store (command_number c))
    (cond (eqb c.function 5) (lowered store (command_number c))
    store))

-- the schedule is written only
abbrev pub after_entry : Schedule → Command → Schedule
after_entry schedule c = cond (is_write c) (entries.written schedule c.value) schedule

unfoldable pub after_command : Parameters → Command → Parameters
after_command parameters c =
    cond (is_schedule parameters c) (parameters_of parameters.store (after_entry parameters.schedule c))
    (parameters_of (after_row parameters.store c) parameters.schedule)

abbrev pub row_report : Answer → Store → Command → List Report
row_report Value store c = held c.page c.low (value_of store (command_number c)) ∷ []
row_report Unknown store c = unknown c.page c.low ∷ []
row_report Silence store c = []

abbrev pub entry_report : EntryAnswer → Schedule → Command → List Report
entry_report (entry.Entry day period) schedule c = held c.page c.low (entries.report_of schedule day period) ∷ []
entry_report entry.Unknown schedule c = unknown c.page c.low ∷ []
entry_report entry.Silence schedule c = []

-- what a command reports of the parameters just after it
unfoldable pub reported : Parameters → Command → List Report
reported parameters c =
    cond (is_schedule parameters c) (entry_report (entries.answered c.function c.value) parameters.schedule c)
    (row_report (answer parameters.store.unit c.function (command_number c)) parameters.store c)

-- the parameters after commands in order, and their reports
unfoldable pub run : Parameters → List Command → Parameters
run parameters [] = parameters
run parameters (c ∷ cs) = run (after_command parameters c) cs

unfoldable pub run_reports : Parameters → List Command → List Report
run_reports parameters [] = []
run_reports parameters (c ∷ cs) = reported (after_command parameters c) c ++ run_reports (after_command parameters c) cs

-- what a command of a discovery (the search of document 01) reports: the ID, the unit type, or nothing
unfoldable pub discovered : List ℕ → ℕ → Command → List Report
discovered id unit c =
    cond (eqb (command_number c) 0x007C) (held c.page c.low id ∷ [])
    (cond (eqb (command_number c) 0x00B9) (held c.page c.low (unit_type unit) ∷ [])
    [])

unfoldable pub discover_reports : List ℕ → ℕ → List Command → List Report
discover_reports id unit [] = []
discover_reports id unit (c ∷ cs) = discovered id unit c ++ discover_reports id unit cs
