-- How the code goes through a call: the scope of its checks, and what it makes of a request.
use Rattle.std.specs.Prelude.{ℕ, Bool, true, false, cond, List, ◌≡◌, eqb, length, take, Option as OptionInCode, None, Some, Result, Ok, Err}
use Rattle.std.proofs.Math.Option.{Option, none, some}
use Rattle.octets.specs.Octets.{overwrite}
use Rattle.framing.specs.Frame.{Frame, frame, packet_of}
use Rattle.framing.specs.Packet.{writable}
use Rattle.framing.specs.Refusal.{Rule, first_refusal}
use Rattle.refusals.specs.declared.Refusal.{Refusal}
use Rattle.refusals.specs.declared.Refusal.TheVariants.{LongResponse}
use Rattle.commands.specs.Draft.{run_block}
use Rattle.model.specs.Record.{set_up, start_board, with_parameters}
use Rattle.model.specs.Step.{Request, request_of, Outcome, outcome_of, is_discovery, request_refusals}
use Rattle.model.specs.declared.Answer.TheVariants.{Refused, Silence, Response}
use Rattle.model.specs.declared.Stepped.{Stepped}
use Rattle.board.specs.declared.packets.Carried.{Carried}
use Rattle.commands.specs.declared.RunResult.{RunResult}
use Rattle.commands.specs.declared.Scope.{Scope}
use Rattle.commands.specs.declared.Scope.TheVariants.{All, Identity}

abbrev pub scope_of : Bool → Scope
scope_of discovery = cond discovery Identity All

abbrev pub in_identity : Scope → Bool
in_identity All = false
in_identity Identity = true

-- what a packet carries, as the code cut it out
abbrev pub frame_in : Carried → Frame
frame_in carried = frame carried.id.now carried.password.now carried.function carried.block.now

abbrev pub refused_with : Refusal → Request → List ℕ → Outcome
refused_with refusal r buffer = outcome_of r.board (Refused refusal) buffer

-- the response to commands that were run
abbrev pub response_of : RunResult → Request → Frame
response_of ran r = frame r.board.id r.frame.password 0x06 (take ran.draft.length ran.draft.bytes)

-- 12, where the commands have not run, or their reports have no room
abbrev pub responded_with : OptionInCode RunResult → Request → List ℕ → Outcome
responded_with None r buffer = refused_with LongResponse r buffer
responded_with (Some ran) r buffer =
    cond (eqb ran.draft.length 0) (outcome_of (with_parameters r.board ran.parameters) Silence buffer)
    (cond (writable (response_of ran r) buffer)
    (outcome_of (with_parameters r.board ran.parameters) (Response (length (packet_of (response_of ran r)))) (overwrite buffer 0 (packet_of (response_of ran r))))
    (refused_with LongResponse r buffer))

abbrev pub responded : Scope → Request → List ℕ → Outcome
responded scope r buffer = responded_with (run_block scope r.board.parameters r.frame.function r.frame.block) r buffer

-- a request to a board of an ID, a password and a mode: the checks 7 to 11 look at nothing else of a board, so that any unit type serves
abbrev pub request_to : List ℕ → List ℕ → ℕ → Frame → Request
request_to id password mode f = request_of (start_board (set_up id password mode 2)) f

-- the refusals of a request but the last, 12, which is its response's
abbrev pub request_checks : List (Rule Request)
request_checks = take 5 request_refusals

-- what the checks make of a request: its refusal, or which parameters it may have reported
abbrev pub judged_by : Option Refusal → Scope → Result Scope Refusal
judged_by (some refusal) scope = Err refusal
judged_by none scope = Ok scope

abbrev pub judged : Request → Result Scope Refusal
judged r = judged_by (first_refusal request_checks r) (scope_of (is_discovery r))

abbrev pub answered_as : Result Scope Refusal → Request → List ℕ → Outcome
answered_as (Err refusal) r buffer = refused_with refusal r buffer
answered_as (Ok scope) r buffer = responded scope r buffer

-- a request: the checks 7 to 11, then the response or 12
abbrev pub answered : Request → List ℕ → Outcome
answered r buffer = answered_as (judged r) r buffer

-- what a function over a lent buffer returned and left is this outcome
pub record Leaves (outcome : Outcome) (result : Stepped) (after : List ℕ) : Type 0 where
  pub board : result.board ≡ outcome.board
  pub answer : result.answer ≡ outcome.answer
  pub buffer : after ≡ outcome.buffer
