-- Demand 2: a packet makes the changes of its commands and no others, a measurement sets its own row, and sound records stay sound.
--
-- What a statement asks of a packet and of its commands is said by numbers, by the row's set and by block's `commands`: a wrong definition of
-- what a command does then breaks a statement, and none becomes empty by it.
use Rattle.std.specs.Prelude.{ℕ, ◌≤◌, Bool, true, false, not, ◌&&◌, ◌||◌, List, [], ◌∷◌, ◌++◌, ◌⊎◌, ◌≡◌, leb, eqb, length, drop, get_or}
use Rattle.std.proofs.Math.Option.{none, some}
use Rattle.octets.specs.Octets.{between}
use Rattle.framing.specs.Identity.{default_id}
use Rattle.framing.specs.Packet.{frame_of}
use Rattle.block.specs.Command.{Command, command_number, Report, held, unknown}
use Rattle.block.specs.Encoding.{every}
use Rattle.block.specs.Request.{commands}
use Rattle.store.specs.Laws.{Least, Greatest, held_number}
use Rattle.rows.specs.Layout.{size_of}
use Rattle.store.specs.Layout.{slot_of, value_of}
use Rattle.store.specs.Operations.{affected}
use Rattle.rows.specs.Rows.{Switch, Number, row_of, allows}
use Rattle.rows.specs.Sets.{in_range, member}
use Rattle.rows.specs.declared.Range.{Range}
use Rattle.store.specs.declared.Store.{Store}
use Rattle.schedule.specs.Days.{days_of, contains, is_empty}
use Rattle.schedule.specs.Entries.{entry, degrees, bytes_of, entry_at}
use Rattle.schedule.specs.Laws as entries
use Rattle.model.specs.Commands.{after_command, reported, run, run_reports, discovered}
use Rattle.model.specs.Measurement.{MeasureCall, measure_refusal, measured_board}
use Rattle.model.specs.Record.{SetUp, set_up_board, unit_of, sound}
use Rattle.model.specs.Step.{Call, request, reports_of, step_refusal, step}
use Rattle.model.specs.declared.Board.{Board}
use Rattle.model.specs.declared.Parameters.{Parameters}

-- the commands of a packet: its data block, read from its FUNC on
abbrev pub Asks : Call → List Command → Type 0
Asks c cs = commands (frame_of c.packet).function (frame_of c.packet).block ≡ some cs

-- whether a command is 02 to 05 of a parameter that affects this one
abbrev pub may_change : ℕ → Command → Bool
may_change n c = between 2 5 c.function && affected (command_number c) n

abbrev pub none_changes : ℕ → List Command → Bool
none_changes n cs = every (λ (c : Command). not (may_change n c)) cs

-- the fields after day and period: speed 0 to 5, temperature 0 or 15 to 30, end minute 0 to 59, end hour 0 to 23
abbrev pub legal_fields : List ℕ → Bool
legal_fields value =
    leb (get_or value 2 0) 5 && (eqb (get_or value 3 0) 0 || between 15 30 (get_or value 3 0)) && leb (get_or value 4 0) 59 && leb (get_or value 5 0) 23

-- six bytes for this entry: its day or a group with it, its period, and legal fields
abbrev pub is_for_entry : ℕ → ℕ → List ℕ → Bool
is_for_entry day period value =
    eqb (length value) 6 && contains (days_of (get_or value 0 0)) day && eqb (get_or value 1 0) period && legal_fields value

-- whether a command is one of the schedule: 0077 on a Micra
abbrev pub names_entry : ℕ → Command → Bool
names_entry unit c = eqb unit 2 && eqb (command_number c) 0x0077

-- whether it is 02 or 03 of the schedule, for this entry
abbrev pub stores_entry : ℕ → ℕ → ℕ → Command → Bool
stores_entry unit day period c =
    names_entry unit c && (eqb c.function 2 || eqb c.function 3) && is_for_entry day period c.value

abbrev pub none_stores : ℕ → ℕ → ℕ → List Command → Bool
none_stores unit day period cs = every (λ (c : Command). not (stores_entry unit day period c)) cs

-- what no call changes
pub record SameIdentity (before after : Board) : Type 0 where
  pub id : after.id ≡ before.id
  pub password : after.password ≡ before.password
  pub size : after.size ≡ before.size
  pub mode : after.mode ≡ before.mode
  pub unit : unit_of after ≡ unit_of before

-- whether a command asks for an entry: 01 with a day and a period; or writes one, well or not: 03 with six bytes, a day or group, and a period
abbrev pub asks_entry : Command → Bool
asks_entry c = eqb c.function 1 && (eqb (length c.value) 2 && (between 1 7 (get_or c.value 0 0) && between 1 4 (get_or c.value 1 0)))

abbrev pub writes_entry : Command → Bool
writes_entry c =
    eqb c.function 3 && (eqb (length c.value) 6 && not (is_empty (days_of (get_or c.value 0 0))) && between 1 4 (get_or c.value 1 0))

-- the report of the entry of a day, at the period that the command names: day, period and the entry's four bytes
abbrev pub entry_on : ℕ → Parameters → Command → Report
entry_on day parameters c =
    held c.page c.low (day ∷ get_or c.value 1 0 ∷ bytes_of (entry_at parameters.schedule day (get_or c.value 1 0)))

-- what a command reports: nothing under 02, else the value held, or the mark of an unknown parameter
pub record ReportsHeld (parameters : Parameters) (c : Command) : Type 0 where
  pub silence : eqb c.function 2 ≡ true → reported parameters c ≡ []
  pub value :
      eqb c.function 2 ≡ false → allows parameters.store.unit (command_number c) 1 ≡ true
      → reported parameters c ≡ held c.page c.low (value_of parameters.store (command_number c)) ∷ []
  -- of the schedule: the entry asked for, that of the first day written, or the mark
  pub asked :
      names_entry parameters.store.unit c ≡ true → asks_entry c ≡ true → reported parameters c ≡ entry_on (get_or c.value 0 0) parameters c ∷ []
  pub written :
      names_entry parameters.store.unit c ≡ true → writes_entry c ≡ true
      → reported parameters c ≡ entry_on (get_or (days_of (get_or c.value 0 0)) 0 0) parameters c ∷ []
  pub no_entry :
      names_entry parameters.store.unit c ≡ true → eqb c.function 2 ≡ false → asks_entry c ≡ false → writes_entry c ≡ false
      → reported parameters c ≡ unknown c.page c.low ∷ []
  pub mark :
      eqb c.function 2 ≡ false → allows parameters.store.unit (command_number c) 1 ≡ false → names_entry parameters.store.unit c ≡ false
      → reported parameters c ≡ unknown c.page c.low ∷ []

abbrev pub ValuesReported : Type 0
ValuesReported = (parameters : Parameters) (c : Command) → ReportsHeld parameters c

-- what a discovery (search) reports of a sound record: 007C and 00B9 as the rows hold them, and nothing else
pub record DiscoveryReports (board : Board) (c : Command) : Type 0 where
  pub identity :
      (command_number c ≡ 0x007C) ⊎ (command_number c ≡ 0x00B9)
      → discovered board.id (unit_of board) c ≡ held c.page c.low (value_of board.parameters.store (command_number c)) ∷ []
  pub others : (command_number c ≡ 0x007C → ⊥) → (command_number c ≡ 0x00B9 → ⊥) → discovered board.id (unit_of board) c ≡ []

abbrev pub DiscoveriesReported : Type 0
DiscoveriesReported = (board : Board) (c : Command) → sound board ≡ true → DiscoveryReports board c

-- a command of the schedule leaves every row as it was, any other command every entry
pub record LeavesOthers (parameters : Parameters) (c : Command) : Type 0 where
  pub rows : names_entry parameters.store.unit c ≡ true → (after_command parameters c).store ≡ parameters.store
  pub entries : names_entry parameters.store.unit c ≡ false → (after_command parameters c).schedule ≡ parameters.schedule

abbrev pub OthersLeft : Type 0
OthersLeft = (parameters : Parameters) (c : Command) → LeavesOthers parameters c

-- a read of the schedule just after a write gives back what was written, on each day of the write
abbrev pub EntriesReadBack : Type 0
EntriesReadBack =
    (parameters : Parameters) (write read : Command) (day period : ℕ) → entries.Sized parameters.schedule
    → between 1 4 period ≡ true → stores_entry parameters.store.unit day period write ≡ true
    → names_entry parameters.store.unit read ≡ true → read.function ≡ 1 → read.value ≡ day ∷ period ∷ []
    → reported (run parameters (write ∷ read ∷ [])) read ≡ held read.page read.low (day ∷ drop 1 write.value) ∷ []

-- 02 or 03
abbrev pub Writing : Command → Type 0
Writing c = (c.function ≡ 2) ⊎ (c.function ≡ 3)

-- what a command calls for in its row n, from the store just before it to the one in the end, which is of the same unit type
pub record CarriedOut (c : Command) (n : ℕ) (from to : Store) : Type 0 where
  -- a read, and a function that the row does not have, leave it as it was
  pub read : c.function ≡ 1 → slot_of to n ≡ slot_of from n
  pub not_allowed : allows from.unit n c.function ≡ false → slot_of to n ≡ slot_of from n
  -- a write stores a value of the row's set, and a 2 inverts a switch; any other value leaves the row as it was
  pub written : Writing c → allows from.unit n c.function ≡ true → member (row_of from.unit n).set c.value ≡ true → value_of to n ≡ c.value
  pub switched_on :
      Writing c → allows from.unit n c.function ≡ true → (row_of from.unit n).set ≡ Switch → c.value ≡ 2 ∷ [] → value_of from n ≡ 0 ∷ [] → value_of to n ≡ 1 ∷ []
  pub switched_off :
      Writing c → allows from.unit n c.function ≡ true → (row_of from.unit n).set ≡ Switch → c.value ≡ 2 ∷ [] → value_of from n ≡ 1 ∷ [] → value_of to n ≡ 0 ∷ []
  pub not_written :
      Writing c → member (row_of from.unit n).set c.value ≡ false → ((row_of from.unit n).set ≡ Switch → c.value ≡ 2 ∷ [] → ⊥) → slot_of to n ≡ slot_of from n
  -- a raise takes the least number of the row's set above the one held, a lower the greatest below; if there is none, the row is as it was
  pub raised :
      c.function ≡ 4 → allows from.unit n 4 ≡ true → (size : ℕ) (r : Range) → (row_of from.unit n).set ≡ Number size r
      → Least r (held_number from n) (held_number to n)
      ⊎ ((slot_of to n ≡ slot_of from n) × ((z : ℕ) → in_range r z ≡ true → z ≤ held_number from n))
  pub lowered :
      c.function ≡ 5 → allows from.unit n 5 ≡ true → (size : ℕ) (r : Range) → (row_of from.unit n).set ≡ Number size r
      → Greatest r (held_number from n) (held_number to n)
      ⊎ ((slot_of to n ≡ slot_of from n) × ((z : ℕ) → in_range r z ≡ true → held_number from n ≤ z))

-- a command of an accepted packet, by its place among the others
pub record CommandRuns (c : Call) (before : List Command) (command : Command) (rest : List Command) : Type 0 where
  -- in the end its row is what it calls for, unless a later command may change it
  pub carried :
      none_changes (command_number command) rest ≡ true
      → CarriedOut command (command_number command) (run c.board.parameters before).store (step c).board.parameters.store
  -- and an entry that it stores is the one written, unless a later command stores it
  pub stored_entry :
      (day period : ℕ) → between 1 7 day ≡ true → between 1 4 period ≡ true → stores_entry (unit_of c.board) day period command ≡ true
      → none_stores (unit_of c.board) day period rest ≡ true
      → entry_at (step c).board.parameters.schedule day period
      ≡ entry (get_or command.value 2 0) (degrees (get_or command.value 3 0)) (get_or command.value 4 0) (get_or command.value 5 0)
  -- its report holds the value just after it
  pub reports :
      reports_of (request c)
      ≡ run_reports c.board.parameters before
      ++ reported (run c.board.parameters (before ++ command ∷ [])) command
      ++ run_reports (run c.board.parameters (before ++ command ∷ [])) rest

pub record PacketChanges (c : Call) : Type 0 where
  pub identity : SameIdentity c.board (step c).board
  -- parameters that no command of the packet affects keep their bytes
  pub others :
      (cs : List Command) → Asks c cs → (n : ℕ) → none_changes n cs ≡ true
      → slot_of (step c).board.parameters.store n ≡ slot_of c.board.parameters.store n
  -- and so do entries of the schedule that no command stores
  pub entries :
      (cs : List Command) → Asks c cs → (day period : ℕ) → between 1 7 day ≡ true → between 1 4 period ≡ true → none_stores (unit_of c.board) day period cs ≡ true
      → entry_at (step c).board.parameters.schedule day period ≡ entry_at c.board.parameters.schedule day period
  -- no commands, no reports
  pub silent : Asks c [] → reports_of (request c) ≡ []
  -- each command of a packet that is accepted, and is no discovery (search)
  pub runs :
      step_refusal c ≡ none → (c.board.mode ≡ 1 → (frame_of c.packet).id ≡ default_id → ⊥)
      → (before : List Command) (command : Command) (rest : List Command)
      → Asks c (before ++ command ∷ rest) → CommandRuns c before command rest
  -- a sound record stays sound, and each of its rows holds a value of its set
  pub legal : sound c.board ≡ true → sound (step c).board ≡ true
  pub members : sound c.board ≡ true → (n : ℕ) → allows (unit_of c.board) n 1 ≡ true → member (row_of (unit_of c.board) n).set (value_of (step c).board.parameters.store n) ≡ true

abbrev pub PacketsChange : Type 0
PacketsChange = (c : Call) → PacketChanges c

pub record MeasurementChanges (c : MeasureCall) : Type 0 where
  pub identity : SameIdentity c.board (measured_board c)
  -- a value of its row's size is accepted for a read-only row but 007C and 00B9, and an accepted one is what the row then holds
  pub accepted :
      sound c.board ≡ true → allows (unit_of c.board) c.number 1 ≡ true → allows (unit_of c.board) c.number 2 ≡ false
      → eqb c.number 0x007C ≡ false → eqb c.number 0x00B9 ≡ false
      → length c.value ≡ size_of (row_of (unit_of c.board) c.number).set → measure_refusal c ≡ none
  pub stored : measure_refusal c ≡ none → value_of (measured_board c).parameters.store c.number ≡ c.value
  pub others :
      (n : ℕ) → affected c.number n ≡ false → slot_of (measured_board c).parameters.store n ≡ slot_of c.board.parameters.store n
  pub entries : (measured_board c).parameters.schedule ≡ c.board.parameters.schedule
  pub legal : sound c.board ≡ true → sound (measured_board c) ≡ true

abbrev pub MeasurementsChange : Type 0
MeasurementsChange = (c : MeasureCall) → MeasurementChanges c

-- set-up gives a sound record, refused or not
abbrev pub SetUpsLegal : Type 0
SetUpsLegal = (given : SetUp) → sound (set_up_board given) ≡ true
