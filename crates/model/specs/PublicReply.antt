-- The reply to a packet that does not bear the password: from the packet, the board's ID, unit type and mode in force, and the response
-- buffer alone.
use Rattle.std.specs.Prelude.{ℕ, true, false, cond, ◌||◌, List, ◌≡◌, ltb, length}
use Rattle.std.proofs.Math.Option.{get_or}
use Rattle.octets.specs.Octets.{same}
use Rattle.framing.specs.Identity.{default_id}
use Rattle.framing.specs.Packet.{packet_refusal, frame_of}
use Rattle.refusals.specs.declared.Refusal.{Refusal}
use Rattle.refusals.specs.declared.Refusal.TheVariants.{ShortBuffer, OtherId, OtherPassword}
use Rattle.model.specs.Authentication.{bears, discovers}
use Rattle.model.specs.Discovery.{Reply, reply_of, discovery_reply}
use Rattle.model.specs.Record.{password_of, unit_of, sound}
use Rattle.model.specs.Step.{call, step}
use Rattle.model.specs.declared.Answer.TheVariants.{Refused}
use Rattle.model.specs.declared.Board.{Board}

abbrev pub reply_to : Board → List ℕ → List ℕ → Reply
reply_to board packet buffer = reply_of (step (call board packet buffer)).answer (step (call board packet buffer)).buffer

-- to a discovery, with a buffer of any length
abbrev pub buffered_reply : List ℕ → List ℕ → ℕ → List ℕ → Reply
buffered_reply packet id unit buffer = cond (ltb (length buffer) 256) (reply_of (Refused ShortBuffer) buffer) (discovery_reply packet id unit buffer)

-- why any other packet is turned down: the lowest of 1 to 8, and nothing after the password is looked at
abbrev pub public_refusal : List ℕ → List ℕ → List ℕ → Refusal
public_refusal id packet buffer =
    cond (ltb (length buffer) 256) ShortBuffer
    (get_or (packet_refusal packet) (cond (same (frame_of packet).id id || same (frame_of packet).id default_id) OtherPassword OtherId))

abbrev pub public_reply : ℕ → List ℕ → ℕ → List ℕ → List ℕ → Reply
public_reply mode id unit packet buffer =
    cond (discovers mode packet) (buffered_reply packet id unit buffer) (reply_of (Refused (public_refusal id packet buffer)) buffer)

-- a sound record stays as it was, and the reply is this
pub record RepliesPublicly (board : Board) (packet buffer : List ℕ) : Type 0 where
  pub unchanged : (step (call board packet buffer)).board ≡ board
  pub reply : reply_to board packet buffer ≡ public_reply board.mode board.id (unit_of board) packet buffer

abbrev pub UnauthenticatedAnswered : Type 0
UnauthenticatedAnswered =
    (board : Board) (packet buffer : List ℕ) → sound board ≡ true → bears packet (password_of board) ≡ false → RepliesPublicly board packet buffer
