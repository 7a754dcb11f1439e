-- One check for both ends, for the exported calls: `udgornwy_parse`, `udgornwy_packet`, `udgornwy_read` and `udgornwy_list`. All that is known
-- of a call is its contract.
use Rattle.std.specs.Prelude.{ℕ, ◌≤◌, List, ◌↔◌, ◌≡◌, length, take}
use Rattle.refusals.specs.Refusals.{number_in}
use Rattle.framing.specs.Packet.{parsed_of}
use Rattle.model.specs.Step.{call}
use Rattle.model.specs.declared.Board.{Board}
use Rattle.tool.specs.Listing.{refused_line, listing}
use Rattle.tool.specs.Response.{read_call, response_of}
use Rattle.firmware.specs.Client.{ListsInNumbers}
use Rattle.firmware.specs.Controller.{reply_of, Replies}
use Rattle.firmware.specs.Packet.{parts_of}
use Rattle.firmware.specs.declared.Reply.{Reply}
use Rattle.firmware.specs.declared.packet.Parts.{Parts}
use Rattle.claims.specs.OneCheck.{BothEnds, Ready, outcome_at, response_at, listing_at}

-- what the calls answered: the parts; the next record, the reply and the response buffer; the number of the refusal; the reply of the listing
-- and its text, in a buffer as long as the longest listing
pub record ExportedAnswers (given : BothEnds) : Type 0 where
  pub parts : Parts
  pub parses : parts ≡ parts_of (parsed_of given.packet)
  pub next : Board
  pub reply : Reply
  pub after : List ℕ
  pub replies : Replies (call given.board given.packet given.buffer) next reply after
  pub number : ℕ
  pub reads : number ≡ number_in (response_of (read_call given.packet given.id given.password))
  pub listed : Reply
  pub text : List ℕ
  pub shown : List ℕ
  pub lists : ListsInNumbers (listing given.packet) text listed shown
  pub long : 1753 ≤ length text

-- the text that the listing wrote
abbrev pub listed_text : {given : BothEnds} → ExportedAnswers given → List ℕ
listed_text answers = take answers.listed.length answers.shown

-- refusal `number` is the answer of each exactly when it is that of `udgornwy_parse`
pub record ExportedRefusedAlike (given : BothEnds) (answers : ExportedAnswers given) (number : ℕ) : Type 0 where
  pub board : (answers.reply.refusal ≡ number) ↔ (answers.parts.refusal ≡ number)
  pub reader : (answers.number ≡ number) ↔ (answers.parts.refusal ≡ number)
  pub listed : (listed_text answers ≡ refused_line number) ↔ (answers.parts.refusal ≡ number)

-- `udgornwy_parse` gives places, and each end makes of the packet what it makes of the frame there
pub record ExportedTestedThere (given : BothEnds) (answers : ExportedAnswers given) : Type 0 where
  pub found : answers.parts.refusal ≡ 0
  pub board : answers.next ≡ (outcome_at given answers.parts.places).board
  pub reply : answers.reply ≡ reply_of (outcome_at given answers.parts.places).answer
  pub buffer : answers.after ≡ (outcome_at given answers.parts.places).buffer
  pub reader : answers.number ≡ number_in (response_at given answers.parts.places)
  pub listed : listed_text answers ≡ listing_at given answers.parts.places

pub record ExportedCheckedOnce (given : BothEnds) (answers : ExportedAnswers given) : Type 0 where
  pub refused : (number : ℕ) → 2 ≤ number → number ≤ 6 → ExportedRefusedAlike given answers number
  pub otherwise : ((number : ℕ) → 2 ≤ number → number ≤ 6 → answers.parts.refusal ≡ number → ⊥) → ExportedTestedThere given answers

abbrev pub ExportedOneCheck : Type 0
ExportedOneCheck = (given : BothEnds) → Ready given → (answers : ExportedAnswers given) → ExportedCheckedOnce given answers
