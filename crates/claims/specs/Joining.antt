-- Joining packets: two packets for a board, one after the other, and the tool's packet of both command lists in their place. What the packets
-- ask is said by block's `commands`, and what the board told by the tool's reading of it.
use Rattle.std.specs.Prelude.{ℕ, ◌≤◌, true, List, [], Result, Ok, ◌++◌, ◌⊎◌, ◌≡◌, length, take}
use Rattle.std.proofs.Math.Option.{none, some}
use Rattle.refusals.specs.declared.Refusal.{Refusal}
use Rattle.framing.specs.Frame.{Frame, frame, packet_of, packet_length}
use Rattle.framing.specs.Packet.{frame_of}
use Rattle.block.specs.Command.{Command, Report}
use Rattle.block.specs.Encoding.{encode_reports}
use Rattle.model.specs.Changes.{Asks}
use Rattle.model.specs.Record.{password_of}
use Rattle.model.specs.Refusals.{Silent, Responds}
use Rattle.model.specs.Step.{Call, call, request, reports_of, step_refusal, step, Steps}
use Rattle.model.specs.declared.Answer.{Answer}
use Rattle.model.specs.declared.Answer.TheVariants.{Refused, Silence, Response}
use Rattle.model.specs.declared.Board.{Board}
use Rattle.model.specs.declared.Stepped.{Stepped}
use Rattle.tool.specs.CommandList.{describes_list, functions_of, numbers_of, lengths_of, values_of}
use Rattle.tool.specs.Request.{WriteCall, write_call, commands_of, request_frame, Writes}
use Rattle.tool.specs.Response as read

-- a packet that bears the board's own ID and its password, and asks for these commands; of an accepted one the ID gives the password (8)
pub record Own (c : Call) (commands : List Command) : Type 0 where
  pub id : (frame_of c.packet).id ≡ c.board.id
  pub password : (frame_of c.packet).password ≡ password_of c.board
  pub asks : Asks c commands

-- two of them with no call between: the second is for the record that the first left
pub record InTurn (first second : Call) (earlier later : List Command) (left : Board) : Type 0 where
  pub one : Own first earlier
  pub two : Own second later
  pub next : second.board ≡ left

-- the tool's packet of commands for a board, and the response with reports
abbrev pub request_with : Board → List Command → Frame
request_with board commands = request_frame board.id (password_of board) commands

abbrev pub response_with : Board → List Report → Frame
response_with board reports = frame board.id (password_of board) 0x06 (encode_reports 0 reports)

-- both fit
pub record BothFit (board : Board) (commands : List Command) (reports : List Report) : Type 0 where
  pub packet : packet_length (request_with board commands) ≤ 256
  pub answer : packet_length (response_with board reports) ≤ 256

-- one packet in the place of two: it is answered, ends in the same record and reports both lists; it is again one that can be joined
pub record PacketJoins (first second joined : Call) (commands : List Command) : Type 0 where
  pub own : Own joined commands
  pub answered : Silent joined ⊎ Responds joined
  pub board : (step joined).board ≡ (step second).board
  pub reports : reports_of (request joined) ≡ reports_of (request first) ++ reports_of (request second)

abbrev pub PacketsJoin : Type 0
PacketsJoin =
    (first second : Call) (earlier later : List Command) → InTurn first second earlier later (step first).board
    → step_refusal first ≡ none → step_refusal second ≡ none
    → BothFit first.board (earlier ++ later) (reports_of (request first) ++ reports_of (request second))
    → (buffer : List ℕ) → 256 ≤ length buffer
    → PacketJoins first second (call first.board (packet_of (request_with first.board (earlier ++ later))) buffer) (earlier ++ later)

-- a call of the tool's `write` for commands, with the board's ID and password and a buffer of 256 bytes or more
pub record AsksFor (board : Board) (commands : List Command) (given : WriteCall) : Type 0 where
  pub id : given.id ≡ board.id
  pub password : given.password ≡ password_of board
  pub described : describes_list given.functions given.numbers given.lengths given.values ≡ true
  pub listed : commands_of given ≡ commands
  pub room : 256 ≤ length given.buffer

-- the one with the slices of the commands
abbrev pub call_for : List ℕ → Board → List Command → WriteCall
call_for buffer board commands =
    write_call buffer board.id (password_of board) (functions_of commands) (numbers_of commands) (lengths_of commands) (values_of commands)

-- so there is one for the commands of every two accepted packets
abbrev pub JoinedCalls : Type 0
JoinedCalls =
    (first second : Call) (earlier later : List Command) → Asks first earlier → Asks second later → step_refusal first ≡ none → step_refusal second ≡ none
    → (buffer : List ℕ) → 256 ≤ length buffer → AsksFor first.board (earlier ++ later) (call_for buffer first.board (earlier ++ later))

-- The same of the code: all that is known of a call of `packet` or of `write` is its contract.

-- the result of `packet` and the buffer after it
pub record PacketMade (c : Call) : Type 0 where
  pub result : Stepped
  pub after : List ℕ
  pub contract : Steps c result after

abbrev pub Accepted : Answer → Type 0
Accepted answer = (refusal : Refusal) → answer ≡ Refused refusal → ⊥

-- what the tool reads in an answer: the reports of a response, none in silence
pub record Told {c : Call} (made : PacketMade c) (reports : List Report) : Type 0 where
  pub silence : made.result.answer ≡ Silence → reports ≡ []
  pub response : (size : ℕ) → made.result.answer ≡ Response size → read.reports_of (take size made.after) ≡ some reports

-- there are such reports
abbrev pub AnswersTold : Type 0
AnswersTold = (c : Call) (made : PacketMade c) → (reports : List Report) × Told made reports

pub record AnswersJoin {second joined : Call} (two : PacketMade second) (both : PacketMade joined) (commands : List Command) (reports : List Report) : Type 0 where
  pub own : Own joined commands
  pub accepted : Accepted both.result.answer
  pub board : both.result.board ≡ two.result.board
  pub told : Told both reports

-- the writer takes the joined commands, and what it wrote stands in the place of both packets
pub record WrittenJoins {second : Call} (board : Board) (two : PacketMade second) (commands : List Command) (reports : List Report) (answer : Result ℕ Refusal) (written : List ℕ) : Type 0 where
  pub size : ℕ
  pub taken : answer ≡ Ok size
  pub joins :
      (buffer : List ℕ) → 256 ≤ length buffer → (both : PacketMade (call board (take size written) buffer)) → AnswersJoin two both commands reports

abbrev pub ContractsJoin : Type 0
ContractsJoin =
    (first second : Call) (earlier later : List Command) (one : PacketMade first) (two : PacketMade second)
    → InTurn first second earlier later one.result.board → Accepted one.result.answer → Accepted two.result.answer
    → (reports more : List Report) → Told one reports → Told two more → BothFit first.board (earlier ++ later) (reports ++ more)
    → (given : WriteCall) → AsksFor first.board (earlier ++ later) given → (answer : Result ℕ Refusal) (written : List ℕ) → Writes given answer written
    → WrittenJoins first.board two (earlier ++ later) (reports ++ more) answer written
