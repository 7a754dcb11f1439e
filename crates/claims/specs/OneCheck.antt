-- One check for both ends: refusals 2 to 6 are those of framing's `read`, and 7 to 10 are tested on what it takes apart. All that is known of
-- `read`, of the board's `packet` and of the tool's reader are their contracts.
use Rattle.std.specs.Prelude.{ℕ, ◌≤◌, true, List, [], Result, Ok, Err, ◌↔◌, ◌≡◌, length}
use Rattle.std.proofs.Math.Option.{get_or}
use Rattle.framing.specs.Identity.{is_password}
use Rattle.framing.specs.Packet.{frame_at, parsed_of}
use Rattle.framing.specs.Refusal.{first_refusal}
use Rattle.framing.specs.declared.Places.{Places}
use Rattle.refusals.specs.Refusals.{number_of}
use Rattle.refusals.specs.declared.Refusal.{Refusal}
use Rattle.block.specs.Response.{reports}
use Rattle.model.specs.Record.{sound}
use Rattle.model.specs.Step.{Request, call, request_of, request_refusals, Outcome, outcome_of, outcome_by, Steps}
use Rattle.model.specs.declared.Answer.TheVariants as answer
use Rattle.model.specs.declared.Board.{Board}
use Rattle.model.specs.declared.Stepped.{Stepped}
use Rattle.tool.specs.Listing.{refused_line, listing_as, listing}
use Rattle.tool.specs.Response.{read_call, received_with, frame_refusals, response_refusals, response_as, response_of}
use Rattle.tool.specs.declared.response.Block.{Block}

-- a packet and what each end judges it by: the board its record and response buffer, the tool the ID asked for and the password sent
pub record BothEnds : Type 0 where
  pub packet : List ℕ
  pub board : Board
  pub buffer : List ℕ
  pub id : List ℕ
  pub password : List ℕ

-- neither 70 nor 1, neither 40 nor 21 applies
pub record Ready (given : BothEnds) : Type 0 where
  pub board : sound given.board ≡ true
  pub room : 256 ≤ length given.buffer
  pub id : length given.id ≡ 16
  pub password : is_password given.password ≡ true

-- what the calls answered
pub record Answers (given : BothEnds) : Type 0 where
  pub parsed : Result Places Refusal
  pub parses : parsed ≡ parsed_of given.packet
  pub stepped : Stepped
  pub after : List ℕ
  pub steps : Steps (call given.board given.packet given.buffer) stepped after
  pub response : Result Block Refusal
  pub reads : response ≡ response_of (read_call given.packet given.id given.password)

-- what each end makes of the frame at some places, by its own tests: the board 7 to 12, the tool 7 to 10, its listing 9 and 10
abbrev pub outcome_at : BothEnds → Places → Outcome
outcome_at given places =
    let asked : Request = request_of given.board (frame_at given.packet places) in
    outcome_by (first_refusal request_refusals asked) asked given.buffer

abbrev pub response_at : BothEnds → Places → Result Block Refusal
response_at given places =
    response_as (first_refusal frame_refusals (received_with given.id given.password (frame_at given.packet places))) places

abbrev pub listing_at : BothEnds → Places → List ℕ
listing_at given places =
    listing_as (first_refusal response_refusals (frame_at given.packet places)) (get_or (reports (frame_at given.packet places).block) [])

-- this refusal is the answer of each exactly when it is that of `read`
pub record RefusedAlike (given : BothEnds) (answers : Answers given) (refusal : Refusal) : Type 0 where
  pub board : (answers.stepped.answer ≡ answer.Refused refusal) ↔ (answers.parsed ≡ Err refusal)
  pub reader : (answers.response ≡ Err refusal) ↔ (answers.parsed ≡ Err refusal)
  pub listed : (listing given.packet ≡ refused_line (number_of refusal)) ↔ (answers.parsed ≡ Err refusal)

-- `read` gives places, and each end makes of the packet what it makes of the frame there
pub record TestedThere (given : BothEnds) (answers : Answers given) : Type 0 where
  pub places : Places
  pub found : answers.parsed ≡ Ok places
  pub board : outcome_of answers.stepped.board answers.stepped.answer answers.after ≡ outcome_at given places
  pub reader : answers.response ≡ response_at given places
  pub listed : listing given.packet ≡ listing_at given places

pub record CheckedOnce (given : BothEnds) (answers : Answers given) : Type 0 where
  pub refused : (refusal : Refusal) → 2 ≤ number_of refusal → number_of refusal ≤ 6 → RefusedAlike given answers refusal
  pub otherwise : ((refusal : Refusal) → 2 ≤ number_of refusal → number_of refusal ≤ 6 → answers.parsed ≡ Err refusal → ⊥) → TestedThere given answers

abbrev pub OneCheck : Type 0
OneCheck = (given : BothEnds) → Ready given → (answers : Answers given) → CheckedOnce given answers
