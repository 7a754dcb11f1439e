use Prim.Native.Nat.{ℕ}
use mathlib.Core.Path.{◌≡◌, refl, ap, ◌∙◌}
use lib.ListN.{take}
use Rattle.std.specs.Prelude.{Result}
use Rattle.refusals.specs.declared.Refusal.{Refusal}
use Rattle.framing.specs.Frame.{Frame}
use Rattle.commands.specs.declared.Scope.{Scope}
use Rattle.model.specs.declared.Board.{Board}
use Rattle.model.specs.Step.{request_of}
use Rattle.board.specs.Answering.{frame_in, judged, request_to}
use Rattle.board.proofs.Responding.{answered_by, judged_by_identity, leaves, leaves_as}
use Rattle.board.proofs.packets.answer.Goals as goal

-- the judgement of the board's own ID, password and mode
judged_right :
    (board : Board) (f : Frame) {size : ℕ} {judgement : Result Scope Refusal} → size ≡ board.size
    → judgement ≡ judged (request_to board.id (take size board.password) board.mode f) → judgement ≡ judged (request_of board f)
judged_right board f sized told =
    told ∙ ap (λ (size : ℕ). judged (request_to board.id (take size board.password) board.mode f)) sized ∙ judged_by_identity board f

pub returns-in-Ok : goal.returns-in-Ok
returns-in-Ok c =
    let args = c.args in
    let f = frame_in args.carried in
    leaves_as (answered_by (request_of args.board f) _ (judged_right args.board f c.from.ensures c.in-Ok.ensures)) c.respond.ensures

pub returns-in-Err : goal.returns-in-Err
returns-in-Err c =
    let args = c.args in
    let f = frame_in args.carried in
    leaves (answered_by (request_of args.board f) _ (judged_right args.board f c.from.ensures c.in-Err.ensures)) c.refused.ensures.0 c.refused.ensures.1 refl
