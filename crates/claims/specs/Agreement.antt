-- Writers and readers agree: the tool's writer and the board's reader on every command, the board's writer and the tool's reader on
-- every report. All that is known of the tool's `write` and the board's `packet` are their contracts.
use Rattle.std.specs.Prelude.{ℕ, ◌≤◌, true, List, Result, Ok, ◌++◌, ◌⊎◌, ◌≡◌, length, take}
use Rattle.std.proofs.Math.Option.{none, some}
use Rattle.refusals.specs.declared.Refusal.{Refusal}
use Rattle.framing.specs.Frame.{packet_length}
use Rattle.framing.specs.Identity.{default_id, is_password}
use Rattle.framing.specs.Packet.{packet_refusal, places_of}
use Rattle.block.specs.Command.{is_read}
use Rattle.block.specs.Encoding.{first_function, every}
use Rattle.model.specs.Record.{client, access_point, password_of, sound}
use Rattle.model.specs.Refusals.{Silent, Responds}
use Rattle.model.specs.Step.{Request, Call, call, request_of, request, is_discovery, decoded, reports_of, response, Steps}
use Rattle.model.specs.declared.Answer.TheVariants.{Response}
use Rattle.model.specs.declared.Board.{Board}
use Rattle.model.specs.declared.Stepped.{Stepped}
use Rattle.tool.specs.Listing.{report_lines, header, listing}
use Rattle.tool.specs.Request.{WriteCall, commands_of, Writes}
use Rattle.tool.specs.Request as tool
use Rattle.tool.specs.Response.{read_call, response_of, accepted_at}
use Rattle.tool.specs.Response as read

-- the board reads in a packet what the tool was given to write
pub record RequestRead (given : WriteCall) (c : Call) : Type 0 where
  pub passes : packet_refusal c.packet ≡ none
  pub id : (request c).frame.id ≡ given.id
  pub password : (request c).frame.password ≡ given.password
  pub function : (request c).frame.function ≡ first_function (commands_of given)
  pub commands : decoded (request c) ≡ some (commands_of given)
  -- with the board's password and its ID, or at an access point the default ID, nothing but the length of the response can turn it down
  pub answered :
      sound c.board ≡ true → given.password ≡ password_of c.board
      → (given.id ≡ c.board.id) ⊎ ((c.board.mode ≡ access_point) × (given.id ≡ default_id)) → 256 ≤ length c.buffer
      → packet_length (response (request c)) ≤ 256 → Silent c ⊎ Responds c
  -- nor a discovery (search) that only reads
  pub found :
      sound c.board ≡ true → c.board.mode ≡ client → given.id ≡ default_id → every is_read (commands_of given) ≡ true → 256 ≤ length c.buffer
      → packet_length (response (request c)) ≤ 256 → Silent c ⊎ Responds c

-- whatever the tool writes without a refusal, for any board
abbrev pub RequestsAgree : Type 0
RequestsAgree =
    (given : WriteCall) (answer : Result ℕ Refusal) (written : List ℕ) (size : ℕ) → Writes given answer written → answer ≡ Ok size
    → (board : Board) (buffer : List ℕ) → RequestRead given (call board (take size written) buffer)

-- the tool, asking with the ID and the password of a request, accepts a packet and reads in it what the board reports to the request
pub record ResponseRead (r : Request) (packet : List ℕ) : Type 0 where
  -- a discovery (search) alone may bear a password that the tool refuses to expect
  pub accepted :
      (is_discovery r ≡ true → is_password r.frame.password ≡ true)
      → response_of (read_call packet r.frame.id r.frame.password) ≡ accepted_at (places_of packet)
  pub reports : read.reports_of packet ≡ some (reports_of r)
  -- its listing has a line for each of them
  pub listed : listing packet ≡ header ++ report_lines (reports_of r)

-- whatever the board responds
abbrev pub ResponsesAgree : Type 0
ResponsesAgree =
    (c : Call) (result : Stepped) (after : List ℕ) (size : ℕ) → Steps c result after → result.answer ≡ Response size
    → ResponseRead (request c) (take size after)

-- there and back: the tool accepts a response to what it wrote, and reads what the board reports to what it was given
abbrev pub ExchangesAgree : Type 0
ExchangesAgree =
    (given : WriteCall) (answer : Result ℕ Refusal) (written : List ℕ) (size : ℕ) → Writes given answer written → answer ≡ Ok size
    → (board : Board) (buffer : List ℕ) (result : Stepped) (after : List ℕ) (back : ℕ)
    → Steps (call board (take size written) buffer) result after → result.answer ≡ Response back
    → (response_of (read_call (take back after) given.id given.password) ≡ accepted_at (places_of (take back after)))
    × ResponseRead (request_of board (tool.request_of given)) (take back after)
