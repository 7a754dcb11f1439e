-- Joining packets for the exported calls: `udgornwy_packet`, `udgornwy_write` and `udgornwy_list`. All that is known of a call is its contract.
use Rattle.std.specs.Prelude.{ℕ, ◌≤◌, List, [], ◌++◌, ◌≡◌, length, take}
use Rattle.std.proofs.Math.Option.{some}
use Rattle.block.specs.Command.{Command, Report}
use Rattle.model.specs.Step.{Call, call}
use Rattle.model.specs.declared.Board.{Board}
use Rattle.tool.specs.Listing.{report_lines, header, listing}
use Rattle.tool.specs.Request.{WriteCall}
use Rattle.tool.specs.Response.{reports_of}
use Rattle.firmware.specs.Client.{WritesInNumbers, ListsInNumbers}
use Rattle.firmware.specs.Controller.{Replies}
use Rattle.firmware.specs.declared.Reply.{Reply}
use Rattle.claims.specs.ExportedAgreement.{Shown}
use Rattle.claims.specs.Joining.{Own, InTurn, BothFit, AsksFor}

-- the record, the reply and the buffer that `udgornwy_packet` left
pub record PacketCalled (c : Call) : Type 0 where
  pub next : Board
  pub reply : Reply
  pub after : List ℕ
  pub contract : Replies c next reply after

-- the response
abbrev pub response_bytes : {c : Call} → PacketCalled c → List ℕ
response_bytes called = take called.reply.length called.after

-- the reports that stand in it; none in silence
pub record Reported {c : Call} (called : PacketCalled c) (reports : List Report) : Type 0 where
  pub silence : called.reply.length ≡ 0 → reports ≡ []
  pub response : 1 ≤ called.reply.length → reports_of (response_bytes called) ≡ some reports

-- there are such reports
abbrev pub RepliesReported : Type 0
RepliesReported = (c : Call) (called : PacketCalled c) → called.reply.refusal ≡ 0 → (reports : List Report) × Reported called reports

-- the lines that `udgornwy_list` writes of it after the header, in a buffer as long as the longest listing
abbrev pub Listed : {c : Call} → PacketCalled c → List ℕ → Type 0
Listed called lines =
    1 ≤ called.reply.length → (listed : Reply) (text shown : List ℕ) → ListsInNumbers (listing (response_bytes called)) text listed shown
    → 1753 ≤ length text → Shown (header ++ lines) listed text shown

pub record CallsJoin {first second joined : Call} (one : PacketCalled first) (two : PacketCalled second) (both : PacketCalled joined) (commands : List Command) (reports more : List Report) : Type 0 where
  pub own : Own joined commands
  pub accepted : both.reply.refusal ≡ 0
  pub board : both.next ≡ two.next
  pub reported : Reported both (reports ++ more)
  pub first_listed : Listed one (report_lines reports)
  pub second_listed : Listed two (report_lines more)
  pub both_listed : Listed both (report_lines reports ++ report_lines more)

pub record ExportedWrittenJoins {first second : Call} (one : PacketCalled first) (two : PacketCalled second) (commands : List Command) (reports more : List Report) (reply : Reply) (written : List ℕ) : Type 0 where
  pub taken : reply.refusal ≡ 0
  pub joins :
      (buffer : List ℕ) → 256 ≤ length buffer → (both : PacketCalled (call first.board (take reply.length written) buffer))
      → CallsJoin one two both commands reports more

abbrev pub ExportedPacketsJoin : Type 0
ExportedPacketsJoin =
    (first second : Call) (earlier later : List Command) (one : PacketCalled first) (two : PacketCalled second)
    → InTurn first second earlier later one.next → one.reply.refusal ≡ 0 → two.reply.refusal ≡ 0
    → (reports more : List Report) → Reported one reports → Reported two more → BothFit first.board (earlier ++ later) (reports ++ more)
    → (given : WriteCall) → AsksFor first.board (earlier ++ later) given → (reply : Reply) (written : List ℕ) → WritesInNumbers given reply written
    → ExportedWrittenJoins one two (earlier ++ later) reports more reply written
