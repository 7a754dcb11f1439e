-- What a discovery, and any packet that does not bear the board's password, is answered with: nothing of it depends on the password or
-- the store.
use Prim.Native.Nat.{ℕ}
use mathlib.Core.Bool.{Bool, true, false, cond, not, ◌&&◌, ◌||◌, or-true}
use mathlib.Core.List.{List, [], ◌∷◌}
use mathlib.Core.Option.{Option, none, some, or_else, get_or}
use mathlib.Core.Path.{◌≡◌, refl, sym, ap, ◌∙◌}
use lib.Dec.{ltb, eqb}
use lib.ListN.{length}
use Rattle.octets.specs.Octets.{same, overwrite}
use Rattle.octets.proofs.Booleans.{both_true}
use Rattle.framing.specs.Frame.{Frame, frame, packet_of, packet_length}
use Rattle.framing.specs.Identity.{default_id}
use Rattle.framing.specs.Packet.{packet_refusal, frame_of}
use Rattle.framing.specs.Refusal.{first_refusal}
use Rattle.refusals.specs.declared.Refusal.{Refusal}
use Rattle.refusals.specs.declared.Refusal.TheVariants.{ShortBuffer, OtherId, OtherPassword}
use Rattle.block.specs.Command.{Report}
use Rattle.block.specs.Encoding.{encode_reports}
use Rattle.block.specs.Reading.{is_some}
use Rattle.model.specs.Authentication.{passes, bears, discovers}
use Rattle.model.specs.Conditions.{discovers_in, other_than_reads}
use Rattle.model.specs.Commands.{run, run_reports, discover_reports}
use Rattle.model.specs.Discovery.{Reply, reply_of, Discovery, found_reports, found_response, discovery, discovery_refusals, reply_with, reply_by, discovery_reply}
use Rattle.model.specs.PublicReply.{buffered_reply, public_refusal, public_reply, UnauthenticatedAnswered}
use Rattle.model.specs.Record.{client, password_of, unit_of, with_parameters, sound}
use Rattle.model.specs.Step.{Request, request_of, call, is_discovery, commands_of, reports_of, response, other_id, request_refusals, step_refusal, Outcome, outcome_of, next_board, answer_with, outcome_by, step}
use Rattle.model.specs.declared.Answer.TheVariants.{Refused, Silence, Response}
use Rattle.model.specs.declared.Board.{Board}
use Rattle.model.proofs.StepRefusals.{no_refusal, request_refusal_by, step_refusal_by, step_refused}

-- a reply, and the record as it was
abbrev pub with_reply : Board → Reply → Outcome
with_reply board reply = outcome_of board reply.answer reply.buffer

no_and : {a : Bool} (b : Bool) → a ≡ true → (not a && b) ≡ false
no_and b h = ap (λ (a : Bool). not a && b) h

turned_down :
    (small known : Bool) (of_packet : Option Refusal)
    → cond small (some ShortBuffer) (or_else of_packet (cond (not known) (some OtherId) (some OtherPassword))) ≡ some (cond small ShortBuffer (get_or of_packet (cond known OtherPassword OtherId)))
unfolding or_else
turned_down true known of_packet = refl
turned_down false known (some refusal) = refl
turned_down false true none = refl
turned_down false false none = refl

module _ (board : Board) (packet : List ℕ) where
  asked : Request
  asked = request_of board (frame_of packet)

  found : Discovery
  found = discovery packet board.id (unit_of board)

  module _ (is_discovery_lem : discovers_in board.mode (frame_of packet) ≡ true) where
    reports_found : reports_of asked ≡ found_reports found
    unfolding asked found
    reports_found = ap (λ (d : Bool). cond d (discover_reports board.id (unit_of board) (commands_of asked)) (run_reports board.parameters (commands_of asked))) is_discovery_lem

    response_found : response asked ≡ found_response found
    unfolding asked found
    response_found = ap (λ (reports : List Report). frame board.id (frame_of packet).password 0x06 (encode_reports 0 reports)) reports_found

    board_kept : next_board asked ≡ board
    unfolding asked
    board_kept = ap (λ (d : Bool). cond d board (with_parameters board (run board.parameters (commands_of asked)))) is_discovery_lem

    answer_found : (reports : List Report) (buffer : List ℕ) → answer_with reports asked buffer ≡ with_reply board (reply_with reports found buffer)
    unfolding asked found
    answer_found [] buffer = λ i. outcome_of (board_kept i) Silence buffer
    answer_found (first ∷ rest) buffer =
        λ i. outcome_of (board_kept i) (Response (length (packet_of (response_found i)))) (overwrite buffer 0 (packet_of (response_found i)))

    refusal_found : first_refusal request_refusals asked ≡ first_refusal discovery_refusals found
    unfolding asked found first_refusal discovery_refusals
    refusal_found =
        let default : same (frame_of packet).id default_id ≡ true = (both_true (eqb board.mode client) _ is_discovery_lem).1 in
        request_refusal_by asked
        (ap (λ (d : Bool). not (same (frame_of packet).id board.id || d)) default ∙ ap not (or-true (same (frame_of packet).id board.id)))
        (no_and _ is_discovery_lem)
        refl
        refl
        (ap (λ (d : Bool). d && other_than_reads (frame_of packet)) is_discovery_lem)
        (ap (λ (f : Frame). ltb 256 (packet_length f)) response_found)

    outcome_found : (refusal : Option Refusal) (buffer : List ℕ) → outcome_by refusal asked buffer ≡ with_reply board (reply_by refusal found buffer)
    unfolding asked found
    outcome_found none buffer = ap (λ (reports : List Report). answer_with reports asked buffer) reports_found ∙ answer_found (found_reports found) buffer
    outcome_found (some refusal) buffer = refl

  -- refusal 70 is not met
  module _ (buffer : List ℕ) (legal : sound board ≡ true) where
    refusal_by :
        {small : Bool} {of_packet of_request : Option Refusal} → ltb (length buffer) 256 ≡ small → packet_refusal packet ≡ of_packet
        → first_refusal request_refusals asked ≡ of_request
        → step_refusal (call board packet buffer) ≡ cond small (some ShortBuffer) (or_else of_packet of_request)
    unfolding asked
    refusal_by = step_refusal_by (call board packet buffer) (ap not legal)

    -- a discovery, whatever password it bears
    pub discovery_step : discovers board.mode packet ≡ true → step (call board packet buffer) ≡ with_reply board (buffered_reply packet board.id (unit_of board) buffer)
    unfolding asked found step discovery_reply or_else
    discovery_step h =
        let parts = both_true (passes packet) (discovers_in board.mode (frame_of packet)) h in
        ap (λ (refusal : Option Refusal). outcome_by refusal asked buffer) (refusal_by refl (no_refusal (packet_refusal packet) parts.0) (refusal_found parts.1))
        ∙ by_room parts.1 (ltb (length buffer) 256)
      where
        by_room :
            discovers_in board.mode (frame_of packet) ≡ true → (small : Bool)
            → outcome_by (cond small (some ShortBuffer) (first_refusal discovery_refusals found)) asked buffer
            ≡ with_reply board (cond small (reply_of (Refused ShortBuffer) buffer) (reply_by (first_refusal discovery_refusals found) found buffer))
        by_room is_discovery_lem true = refl
        by_room is_discovery_lem false = outcome_found is_discovery_lem (first_refusal discovery_refusals found) buffer

    -- a packet that is no discovery and does not bear the password
    refused_step :
        discovers board.mode packet ≡ false → bears packet (password_of board) ≡ false
        → step (call board packet buffer) ≡ with_reply board (reply_of (Refused (public_refusal board.id packet buffer)) buffer)
    unfolding asked or_else
    refused_step h unknown =
        step_refused (call board packet buffer)
        (by_packet (packet_refusal packet) refl
        ∙ turned_down (ltb (length buffer) 256) (same (frame_of packet).id board.id || same (frame_of packet).id default_id) (packet_refusal packet))
      where
        by_packet :
            (of_packet : Option Refusal) → packet_refusal packet ≡ of_packet
            → step_refusal (call board packet buffer) ≡ cond (ltb (length buffer) 256) (some ShortBuffer) (or_else of_packet (cond (other_id asked) (some OtherId) (some OtherPassword)))
        by_packet (some refusal) e = refusal_by refl e refl
        by_packet none e =
            let no_discovery : is_discovery asked ≡ false =
            ap (λ (o : Option Refusal). not (is_some o) && discovers_in board.mode (frame_of packet)) (sym e) ∙ h in
            let other : same (frame_of packet).password (password_of board) ≡ false =
            ap (λ (o : Option Refusal). not (is_some o) && same (frame_of packet).password (password_of board)) (sym e) ∙ unknown in
            refusal_by refl e (request_refusal_by asked refl (λ i. not (no_discovery i) && not (other i)) refl refl refl refl)

    unauthenticated_step :
        bears packet (password_of board) ≡ false
        → step (call board packet buffer) ≡ with_reply board (public_reply board.mode board.id (unit_of board) packet buffer)
    unauthenticated_step unknown = by_discovery (discovers board.mode packet) refl
      where
        by_discovery :
            (d : Bool) → discovers board.mode packet ≡ d
            → step (call board packet buffer)
            ≡ with_reply board (cond d (buffered_reply packet board.id (unit_of board) buffer) (reply_of (Refused (public_refusal board.id packet buffer)) buffer))
        by_discovery true h = discovery_step h
        by_discovery false h = refused_step h unknown

pub unauthenticated_answered : UnauthenticatedAnswered
unauthenticated_answered board packet buffer legal unknown =
    let outcome = unauthenticated_step board packet buffer legal unknown in
    record { unchanged = ap (λ (o : Outcome). o.board) outcome; reply = ap (λ (o : Outcome). reply_of o.answer o.buffer) outcome }
