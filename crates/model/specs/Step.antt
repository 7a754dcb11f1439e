-- What a packet does: the refusals in their order, the next record, the answer and the response buffer.
use Rattle.std.specs.Prelude.{ℕ, Bool, cond, not, ◌&&◌, ◌||◌, List, [], ◌∷◌, ◌++◌, map, ◌≡◌, ltb, length}
use Rattle.std.proofs.Math.Option.{Option, none, some, get_or}
use Rattle.octets.specs.Octets.{same, overwrite}
use Rattle.framing.specs.Frame.{Frame, frame, packet_of, packet_length}
use Rattle.framing.specs.Identity.{default_id}
use Rattle.framing.specs.Packet.{packet_refusals, frame_of}
use Rattle.framing.specs.Refusal.{Rule, rule, rule_of, first_refusal}
use Rattle.refusals.specs.declared.Refusal.{Refusal}
use Rattle.refusals.specs.declared.Refusal.TheVariants.{ShortBuffer, OtherId, OtherPassword, NoFunction, MalformedBlock, DiscoveryWrites, LongResponse, BadRecord}
use Rattle.block.specs.Command.{Command, Report}
use Rattle.block.specs.Encoding.{encode_reports}
use Rattle.block.specs.Request.{no_function, no_commands}
use Rattle.model.specs.Conditions.{discovers_in, commands_in, other_than_reads}
use Rattle.model.specs.Commands.{run, run_reports, discover_reports}
use Rattle.model.specs.Record.{sound, password_of, unit_of, with_parameters}
use Rattle.model.specs.declared.Answer.{Answer}
use Rattle.model.specs.declared.Answer.TheVariants.{Refused, Silence, Response}
use Rattle.model.specs.declared.Board.{Board}
use Rattle.model.specs.declared.Stepped.{Stepped}

-- a frame for a board
pub record Request : Type 0 where
  pub board : Board
  pub frame : Frame

-- a packet for a board, with the bytes of the lent response buffer
pub record Call : Type 0 where
  pub board : Board
  pub packet : List ℕ
  pub buffer : List ℕ

abbrev pub call : Board → List ℕ → List ℕ → Call
call board packet buffer = record { board = board; packet = packet; buffer = buffer }

abbrev pub request_of : Board → Frame → Request
request_of board asked = record { board = board; frame = asked }

abbrev pub request : Call → Request
request c = request_of c.board (frame_of c.packet)

abbrev pub is_discovery : Request → Bool
is_discovery r = discovers_in r.board.mode r.frame

abbrev pub decoded : Request → Option (List Command)
decoded r = commands_in r.frame

abbrev pub commands_of : Request → List Command
commands_of r = get_or (decoded r) []

abbrev pub reports_of : Request → List Report
reports_of r =
    cond (is_discovery r) (discover_reports r.board.id (unit_of r.board) (commands_of r)) (run_reports r.board.parameters (commands_of r))

-- the board's own ID, the request's password, FUNC 06
abbrev pub response : Request → Frame
response r = frame r.board.id r.frame.password 0x06 (encode_reports 0 (reports_of r))

-- the conditions of the refusals, each by itself
abbrev pub unsound : Call → Bool
unsound c = not (sound c.board)

abbrev pub small_buffer : Call → Bool
small_buffer c = ltb (length c.buffer) 256

abbrev pub other_id : Request → Bool
other_id r = not (same r.frame.id r.board.id || same r.frame.id default_id)

abbrev pub wrong_password : Request → Bool
wrong_password r = not (is_discovery r) && not (same r.frame.password (password_of r.board))

abbrev pub wrong_function : Request → Bool
wrong_function r = no_function r.frame.function

abbrev pub malformed : Request → Bool
malformed r = no_commands r.frame.function r.frame.block

abbrev pub discovery_writes : Request → Bool
discovery_writes r = is_discovery r && other_than_reads r.frame

abbrev pub long_response : Request → Bool
long_response r = ltb 256 (packet_length (response r))

unfoldable pub request_refusals : List (Rule Request)
request_refusals =
    rule OtherId other_id
    ∷ rule OtherPassword wrong_password
    ∷ rule NoFunction wrong_function
    ∷ rule MalformedBlock malformed
    ∷ rule DiscoveryWrites discovery_writes
    ∷ rule LongResponse long_response
    ∷ []

unfoldable pub step_refusals : List (Rule Call)
step_refusals =
    rule BadRecord unsound ∷ rule ShortBuffer small_buffer ∷ map (rule_of (λ (c : Call). c.packet)) packet_refusals ++ map (rule_of request) request_refusals

unfoldable pub step_refusal : Call → Option Refusal
step_refusal c = first_refusal step_refusals c

-- the next record, the answer and the bytes of the buffer
pub record Outcome : Type 0 where
  pub board : Board
  pub answer : Answer
  pub buffer : List ℕ

abbrev pub outcome_of : Board → Answer → List ℕ → Outcome
outcome_of board answer buffer = record { board = board; answer = answer; buffer = buffer }

abbrev pub next_board : Request → Board
next_board r = cond (is_discovery r) r.board (with_parameters r.board (run r.board.parameters (commands_of r)))

-- no reports: silence
abbrev pub answer_with : List Report → Request → List ℕ → Outcome
answer_with [] r buffer = outcome_of (next_board r) Silence buffer
answer_with (first ∷ rest) r buffer =
    outcome_of (next_board r) (Response (length (packet_of (response r)))) (overwrite buffer 0 (packet_of (response r)))

abbrev pub outcome_by : Option Refusal → Request → List ℕ → Outcome
outcome_by (some refusal) r buffer = outcome_of r.board (Refused refusal) buffer
outcome_by none r buffer = answer_with (reports_of r) r buffer

unfoldable pub step : Call → Outcome
step c = outcome_by (step_refusal c) (request c) c.buffer

-- the contract of `packet`
pub record Steps (c : Call) (result : Stepped) (after : List ℕ) : Type 0 where
  pub board : result.board ≡ (step c).board
  pub answer : result.answer ≡ (step c).answer
  pub buffer : after ≡ (step c).buffer
