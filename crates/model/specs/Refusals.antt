-- Demand 1: each call gets one stated answer, and a refusal changes nothing.
use Rattle.std.specs.Prelude.{ℕ, ◌≤◌, ◌<◌, true, false, ◌&&◌, ◌||◌, List, [], ◌∷◌, map, Ok, Err, ◌↔◌, ◌⊎◌, ◌≡◌, eqb, length, take, drop}
use Rattle.octets.specs.Octets.{same}
use Rattle.framing.specs.Frame.{packet_of, packet_length}
use Rattle.framing.specs.Identity.{default_id, is_password}
use Rattle.framing.specs.Refusal.{Rule}
use Rattle.refusals.specs.Refusals.{number_of}
use Rattle.refusals.specs.declared.Refusal.{Refusal}
use Rattle.refusals.specs.declared.Refusal.TheVariants.{BadMode, BadUnitType}
use Rattle.block.specs.Reading.{is_some}
use Rattle.model.specs.Authentication.{bears}
use Rattle.model.specs.Discovery.{discovery_refusals}
use Rattle.model.specs.Measurement.{MeasureCall, measure_refusals, measure_refusal, measured_board}
use Rattle.model.specs.Record.{verdict_of, access_point, is_id, password_of, unit_of, SetUp, set_up_refusals, set_up_refusal, set_up_board, start_board, unset, sound}
use Rattle.model.specs.Step.{Call, request, decoded, reports_of, response, step_refusals, step}
use Rattle.model.specs.declared.Answer.TheVariants as answer

-- the condition of this refusal holds, and none before it in the list
pub data Earliest {Asked : Type 0} : List (Rule Asked) → Asked → Refusal → Type 0 where
  first : {row : Rule Asked} {rows : List (Rule Asked)} {asked : Asked} → row.applies asked ≡ true → Earliest (row ∷ rows) asked row.refusal
  later :
      {row : Rule Asked} {rows : List (Rule Asked)} {asked : Asked} {refusal : Refusal}
      → row.applies asked ≡ false → Earliest rows asked refusal → Earliest (row ∷ rows) asked refusal

-- no condition of the list holds
abbrev pub NoneApplies : {Asked : Type 0} → List (Rule Asked) → Asked → Type 0
NoneApplies [] asked = Unit {0}
NoneApplies (row ∷ rows) asked = (row.applies asked ≡ false) × NoneApplies rows asked

-- the refusals by their numbers, in the order in which the lists have them
abbrev pub numbers : {Asked : Type 0} → List (Rule Asked) → List ℕ
numbers rules = map (λ (rule : Rule _). number_of rule.refusal) rules

pub record Numbered : Type 0 where
  pub packet : numbers step_refusals ≡ 70 ∷ 1 ∷ 2 ∷ 3 ∷ 4 ∷ 5 ∷ 6 ∷ 7 ∷ 8 ∷ 9 ∷ 10 ∷ 11 ∷ 12 ∷ []
  pub discovery : numbers discovery_refusals ≡ 9 ∷ 10 ∷ 11 ∷ 12 ∷ []
  pub measurement : numbers measure_refusals ≡ 70 ∷ 30 ∷ 31 ∷ []
  pub set_up : numbers set_up_refusals ≡ 20 ∷ 21 ∷ 22 ∷ 23 ∷ []

-- no reports: silence, and the buffer as it was
pub record Silent (c : Call) : Type 0 where
  pub reports : reports_of (request c) ≡ []
  pub answer : (step c).answer ≡ answer.Silence
  pub buffer : (step c).buffer ≡ c.buffer

-- else the response in the first bytes of the buffer, the others as they were
pub record Responds (c : Call) : Type 0 where
  pub reports : reports_of (request c) ≡ [] → ⊥
  pub size : ℕ
  pub answer : (step c).answer ≡ answer.Response size
  pub sent : take size (step c).buffer ≡ packet_of (response (request c))
  pub rest : drop size (step c).buffer ≡ drop size c.buffer
  pub exact : size ≡ length (packet_of (response (request c)))
  pub short : size ≤ 256
  pub fits : size ≤ length c.buffer

-- a refusal exactly when it is the earliest whose condition holds, and then the record and the whole buffer are as they were; silence or a
-- response exactly when none holds
pub record AnswersPacket (c : Call) : Type 0 where
  pub refused : (refusal : Refusal) → ((step c).answer ≡ answer.Refused refusal) ↔ Earliest step_refusals c refusal
  pub unchanged : (refusal : Refusal) → (step c).answer ≡ answer.Refused refusal → ((step c).board ≡ c.board) × ((step c).buffer ≡ c.buffer)
  pub accepted : (Silent c ⊎ Responds c) ↔ NoneApplies step_refusals c

abbrev pub PacketsAnswered : Type 0
PacketsAnswered = (c : Call) → AnswersPacket c

-- a packet that no condition turns down: for the board's own ID, or for the default ID at an access point, with the board's password, one
-- of the five functions, a well-formed data block and a response that is not too long
pub record Authorized (c : Call) : Type 0 where
  pub board : sound c.board ≡ true
  pub room : 256 ≤ length c.buffer
  pub id : (same (request c).frame.id c.board.id || eqb c.board.mode access_point && same (request c).frame.id default_id) ≡ true
  pub password : bears c.packet (password_of c.board) ≡ true
  pub function : (1 ≤ (request c).frame.function) × ((request c).frame.function ≤ 5)
  pub block : is_some (decoded (request c)) ≡ true
  pub short : packet_length (response (request c)) ≤ 256

abbrev pub AuthorizedAnswered : Type 0
AuthorizedAnswered = (c : Call) → Authorized c → Silent c ⊎ Responds c

pub record AnswersMeasurement (c : MeasureCall) : Type 0 where
  pub refused : (refusal : Refusal) → (verdict_of (measure_refusal c) ≡ Err refusal) ↔ Earliest measure_refusals c refusal
  pub unchanged : (refusal : Refusal) → verdict_of (measure_refusal c) ≡ Err refusal → measured_board c ≡ c.board
  pub accepted : (verdict_of (measure_refusal c) ≡ Ok tt) ↔ NoneApplies measure_refusals c

abbrev pub MeasurementsAnswered : Type 0
MeasurementsAnswered = (c : MeasureCall) → AnswersMeasurement c

-- an accepted set-up gives the start record of what it was given, a refused one that of a zero ID, no password, mode client and Micra
pub record AnswersSetUp (given : SetUp) : Type 0 where
  pub refused : (refusal : Refusal) → (verdict_of (set_up_refusal given) ≡ Err refusal) ↔ Earliest set_up_refusals given refusal
  pub replaced : (refusal : Refusal) → verdict_of (set_up_refusal given) ≡ Err refusal → set_up_board given ≡ start_board unset
  pub accepted : (verdict_of (set_up_refusal given) ≡ Ok tt) ↔ NoneApplies set_up_refusals given
  pub started : verdict_of (set_up_refusal given) ≡ Ok tt → set_up_board given ≡ start_board given

abbrev pub SetUpsAnswered : Type 0
SetUpsAnswered = (given : SetUp) → AnswersSetUp given

-- of a set-up with a right ID and password: 22 where the mode is neither 1 nor 2, whatever the unit type is; then 23 where the unit type is
-- none of 2 to 5; else the board has the unit type that was given. After any refusal it is 2
pub record JudgesUnit (given : SetUp) : Type 0 where
  pub mode_first : (given.mode ≡ 1 → ⊥) → (given.mode ≡ 2 → ⊥) → verdict_of (set_up_refusal given) ≡ Err BadMode
  pub unit_wrong : (given.mode ≡ 1) ⊎ (given.mode ≡ 2) → (given.unit < 2) ⊎ (5 < given.unit) → verdict_of (set_up_refusal given) ≡ Err BadUnitType
  pub accepted :
      (given.mode ≡ 1) ⊎ (given.mode ≡ 2) → 2 ≤ given.unit → given.unit ≤ 5
      → (verdict_of (set_up_refusal given) ≡ Ok tt) × (unit_of (set_up_board given) ≡ given.unit)
  pub refused : (refusal : Refusal) → verdict_of (set_up_refusal given) ≡ Err refusal → unit_of (set_up_board given) ≡ 2

abbrev pub UnitsJudged : Type 0
UnitsJudged = (given : SetUp) → is_id given.id ≡ true → is_password given.password ≡ true → JudgesUnit given
