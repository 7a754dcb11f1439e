-- The agreement of writers and readers for the exported calls: what `udgornwy_write` wrote, a board reads; what `udgornwy_packet` responds,
-- `udgornwy_read` accepts and `udgornwy_list` lists. All that is known of a call is its contract.
use Rattle.std.specs.Prelude.{ℕ, ◌≤◌, true, List, ◌++◌, ◌≡◌, length, take, drop}
use Rattle.refusals.specs.Refusals.{number_in}
use Rattle.framing.specs.Identity.{is_password}
use Rattle.model.specs.Step.{Request, Call, call, request_of, request, is_discovery, reports_of}
use Rattle.model.specs.declared.Board.{Board}
use Rattle.tool.specs.Listing.{report_lines, header, listing}
use Rattle.tool.specs.Request.{WriteCall}
use Rattle.tool.specs.Request as tool
use Rattle.tool.specs.Response.{read_call, response_of}
use Rattle.firmware.specs.Client.{WritesInNumbers, ListsInNumbers}
use Rattle.firmware.specs.Controller.{Replies}
use Rattle.firmware.specs.declared.Reply.{Reply}
use Rattle.claims.specs.Agreement.{RequestRead}

-- whatever `udgornwy_write` wrote, with refusal 0, is read by any board as what was given
abbrev pub ExportedRequestsAgree : Type 0
ExportedRequestsAgree =
    (given : WriteCall) (reply : Reply) (written : List ℕ) → WritesInNumbers given reply written → reply.refusal ≡ 0
    → (board : Board) (buffer : List ℕ) → RequestRead given (call board (take reply.length written) buffer)

-- the text in the first bytes of a buffer, the rest as it was
pub record Shown (text : List ℕ) (reply : Reply) (buffer after : List ℕ) : Type 0 where
  pub accepted : reply.refusal ≡ 0
  pub front : take reply.length after ≡ text
  pub rest : drop reply.length after ≡ drop reply.length buffer

-- a packet in which the tool's calls find what the board reports to a request
pub record ResponseTold (r : Request) (packet : List ℕ) : Type 0 where
  -- a discovery (search) alone may bear a password that the tool refuses to expect
  pub accepted :
      (is_discovery r ≡ true → is_password r.frame.password ≡ true)
      → (number : ℕ) → number ≡ number_in (response_of (read_call packet r.frame.id r.frame.password)) → number ≡ 0
  -- in a buffer as long as the longest listing
  pub listed :
      (reply : Reply) (buffer after : List ℕ) → ListsInNumbers (listing packet) buffer reply after → 1753 ≤ length buffer
      → Shown (header ++ report_lines (reports_of r)) reply buffer after

-- whatever `udgornwy_packet` responds: a reply with a length
abbrev pub ExportedResponsesAgree : Type 0
ExportedResponsesAgree =
    (c : Call) (next : Board) (reply : Reply) (after : List ℕ) → Replies c next reply after
    → 1 ≤ reply.length → ResponseTold (request c) (take reply.length after)

-- there and back
abbrev pub ExportedExchangesAgree : Type 0
ExportedExchangesAgree =
    (given : WriteCall) (reply : Reply) (written : List ℕ) → WritesInNumbers given reply written → reply.refusal ≡ 0
    → (board next : Board) (buffer after : List ℕ) (back : Reply)
    → Replies (call board (take reply.length written) buffer) next back after → 1 ≤ back.length
    → ResponseTold (request_of board (tool.request_of given)) (take back.length after)
