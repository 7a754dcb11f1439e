-- A board's record, set-up, and which records are sound.
use Rattle.std.specs.Prelude.{ℕ, ◌-◌, Bool, not, ◌&&◌, ◌||◌, List, [], ◌∷◌, ◌++◌, ◌≡◌, Result, Ok, Err, ⊤, leb, eqb, length, take, replicate}
use Rattle.std.proofs.Math.Option.{Option, none, some}
use Rattle.octets.specs.Octets.{between, same}
use Rattle.framing.specs.Identity.{default_id, all_alphanumeric, is_password}
use Rattle.framing.specs.Refusal.{Rule, rule, first_refusal}
use Rattle.refusals.specs.declared.Refusal.{Refusal}
use Rattle.refusals.specs.declared.Refusal.TheVariants.{BadId, BadPassword, BadMode, BadUnitType}
use Rattle.store.specs.declared.Store.{Store}
use Rattle.rows.specs.Layout.{store_size, is_micra}
use Rattle.store.specs.Layout.{value_of}
use Rattle.store.specs.Sound as rows
use Rattle.store.specs.Start.{start}
use Rattle.schedule.specs.declared.Schedule.{Schedule}
use Rattle.schedule.specs.Entries as entries
use Rattle.model.specs.declared.Answered.{Answered}
use Rattle.model.specs.declared.Board.{Board}
use Rattle.model.specs.declared.Parameters.{Parameters}

-- the answer of a call: the refusal if there is one
abbrev pub verdict_of : Option Refusal → Result ⊤ Refusal
verdict_of none = Ok tt
verdict_of (some refusal) = Err refusal

-- the mode in force: client or access point
abbrev pub client : ℕ
client = 1

abbrev pub access_point : ℕ
access_point = 2

abbrev pub is_mode : ℕ → Bool
is_mode mode = eqb mode client || eqb mode access_point

-- an ID of a board: 16 bytes, and not the default ID
abbrev pub is_id : List ℕ → Bool
is_id id = eqb (length id) 16 && not (same id default_id)

-- the unit type: 2 is the Micra; 3, 4 and 5 are the VENTO Expert
abbrev pub is_unit : ℕ → Bool
is_unit unit = between 2 5 unit

-- as row 00B9 holds it
abbrev pub unit_type : ℕ → List ℕ
unit_type unit = unit ∷ 0 ∷ []

abbrev pub unit_of : Board → ℕ
unit_of board = board.parameters.store.unit

abbrev pub password_of : Board → List ℕ
password_of board = take board.size board.password

-- the rows, and the entries of the schedule
abbrev pub parameters_of : Store → Schedule → Parameters
parameters_of store schedule = record { store = store; schedule = schedule }

abbrev pub with_parameters : Board → Parameters → Board
with_parameters board parameters =
    record { id = board.id; password = board.password; size = board.size; mode = board.mode; parameters = parameters }

-- what set-up is given
pub record SetUp : Type 0 where
  pub id : List ℕ
  pub password : List ℕ
  pub mode : ℕ
  pub unit : ℕ

abbrev pub set_up : List ℕ → List ℕ → ℕ → ℕ → SetUp
set_up id password mode unit = record { id = id; password = password; mode = mode; unit = unit }

unfoldable pub set_up_refusals : List (Rule SetUp)
set_up_refusals =
    rule BadId (λ (given : SetUp). not (is_id given.id))
    ∷ rule BadPassword (λ (given : SetUp). not (is_password given.password))
    ∷ rule BadMode (λ (given : SetUp). not (is_mode given.mode))
    ∷ rule BadUnitType (λ (given : SetUp). not (is_unit given.unit))
    ∷ []

unfoldable pub set_up_refusal : SetUp → Option Refusal
set_up_refusal given = first_refusal set_up_refusals given

-- the start record
abbrev pub start_board : SetUp → Board
start_board given =
    record {
      id = given.id;
      password = given.password ++ replicate (8 - length given.password) 0;
      size = length given.password;
      mode = given.mode;
      parameters = parameters_of (start given.id given.unit) entries.start;
    }

-- what a refused set-up returns the start record of
abbrev pub unset : SetUp
unset = set_up (replicate 16 0) [] client 2

abbrev pub board_of : Option Refusal → SetUp → Board
board_of none given = start_board given
board_of (some refusal) given = start_board unset

unfoldable pub set_up_board : SetUp → Board
set_up_board given = board_of (set_up_refusal given) given

-- the contract of `set_up`
pub record SetsUp (given : SetUp) (result : Answered) : Type 0 where
  pub answered : result.verdict ≡ verdict_of (set_up_refusal given)
  pub made : result.board ≡ set_up_board given

-- as many bytes and entries as the code's types have: no record of the code is without them
abbrev pub is_sized : Parameters → Bool
is_sized parameters = eqb (length parameters.store.bytes) store_size && eqb (length parameters.schedule.entries) entries.entry_count

-- only a Micra has the schedule: the entries of any other unit are not looked at
abbrev pub entries_sound : Parameters → Bool
entries_sound parameters = not (is_micra parameters.store.unit) || entries.sound parameters.schedule

-- refusal 70 where a record is not sound: set-up would refuse its ID, password, mode or unit type, an entry of the schedule has a field
-- outside its range, a row is outside its set, or 007C or 00B9 differ from the identity
unfoldable pub sound : Board → Bool
sound board =
    is_id board.id && leb board.size 8 && all_alphanumeric (password_of board) && is_mode board.mode
    && is_sized board.parameters && is_unit (unit_of board) && entries_sound board.parameters && rows.sound board.parameters.store
    && same (value_of board.parameters.store 0x007C) board.id && same (value_of board.parameters.store 0x00B9) (unit_type (unit_of board))
