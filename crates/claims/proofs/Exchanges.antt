-- The tool reads the reports that the board makes of the commands that the tool wrote.
use mathlib.Core.Path.{◌≡◌, ap, subst}
use lib.ListN.{take}
use Rattle.model.specs.Step.{Request, call, request, request_of}
use Rattle.tool.specs.Request as tool
use Rattle.claims.specs.Agreement.{ResponseRead, ExchangesAgree}
use Rattle.claims.proofs.RequestsRead.{PacketSent, packet_sent, frame_read}
use Rattle.claims.proofs.ResponsesRead.{responses_agree}

pub exchanges_agree : ExchangesAgree
exchanges_agree given answer written size writes e board buffer result after back steps responds =
    let sent : PacketSent given (take size written) = packet_sent given writes e in
    let asked : request (call board (take size written) buffer) ≡ request_of board (tool.request_of given) = ap (request_of board) (frame_read given sent).1 in
    let read : ResponseRead (request_of board (tool.request_of given)) (take back after) =
    subst (λ (r : Request). ResponseRead r (take back after)) asked
    (responses_agree (call board (take size written) buffer) result after back steps responds) in
    (read.accepted (λ d. sent.taken.password), read)
