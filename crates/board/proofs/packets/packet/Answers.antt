use Prim.Native.Nat.{ℕ, ◌+◌, ◌-◌}
use native.Mathlib.Omega.{arith}
use mathlib.Core.List.{List}
use mathlib.Core.Option.{Option, or_else}
use mathlib.Core.Path.{◌≡◌, refl, sym, ap, ◌∙◌}
use borrow.Author.Tests.{leb-true, ltb-false, not-false}
use lib.ListN.{take, drop, get_or}
use Rattle.std.specs.Prelude.{Ok}
use Rattle.refusals.specs.declared.Refusal.{Refusal}
use Rattle.framing.specs.Frame.{frame}
use Rattle.framing.specs.Packet.{frame_of, parsed_of}
use Rattle.framing.specs.Statements.{Within, Stands}
use Rattle.framing.specs.declared.Places.{Places}
use Rattle.model.specs.Step.{Request, call as call_of, outcome_by, request, request_of, step}
use Rattle.model.specs.declared.Board.{Board}
use Rattle.model.proofs.Soundness.{sound_parts}
use Rattle.model.proofs.StepRefusals.{step_refusal_by, step_refused}
use Rattle.board.specs.Answering.{answered}
use Rattle.framing.proofs.Refusals.{passed}
use Rattle.framing.proofs.Answers.{read_concludes, id_found, password_found, function_found, block_found}
use Rattle.framing.proofs.WritesRead.{frame_sizes}
use Rattle.board.proofs.Responding.{leaves, steps}
use Rattle.board.proofs.Responses.{answered_outcome}
use Rattle.board.proofs.packets.packet.Goals as goal

-- where the parts of a packet stand that was read
stood : {packet : List ℕ} {places : Places} → Ok places ≡ parsed_of packet → Stands packet places
stood {packet} e = (read_concludes packet _ e).read refl

inside : {packet : List ℕ} {places : Places} → Ok places ≡ parsed_of packet → Within packet places
inside e = (stood e).within

-- the request as the code cuts it out of the packet
same_request :
    (board : Board) {packet : List ℕ} {places : Places} → Stands packet places
    → request_of board (frame (take (places.id + 16 - places.id) (drop places.id packet)) (take (places.function - places.password) (drop places.password packet)) (get_or packet places.function 0) (take (places.end - places.block) (drop places.block packet)))
    ≡ request_of board (frame_of packet)
same_request board s = λ i. request_of board (frame (id_found s i) (password_found s i) (function_found s i) (block_found s i))

pub slice_bounds-carried-end : goal.slice_bounds-carried-end
slice_bounds-carried-end c = omega (arith, (inside c.in-Ok.ensures).id)

pub slice_bounds-carried-end-in-Ok : goal.slice_bounds-carried-end-in-Ok
slice_bounds-carried-end-in-Ok c = omega (arith, (inside c.in-Ok.ensures).password, (inside c.in-Ok.ensures).function)

pub bounds-packet-places : goal.bounds-packet-places
bounds-packet-places c = (inside c.in-Ok.ensures).function

pub slice_bounds-carried-count-in-Ok-2 : goal.slice_bounds-carried-count-in-Ok-2
slice_bounds-carried-count-in-Ok-2 c = (inside c.in-Ok.ensures).block

pub slice_bounds-carried-start-in-Ok-2 : goal.slice_bounds-carried-start-in-Ok-2
slice_bounds-carried-start-in-Ok-2 c = omega (arith, (inside c.in-Ok.ensures).block, (inside c.in-Ok.ensures).end)

pub answer-requires : goal.answer-requires
answer-requires c = leb-true _ _ (sound_parts _ (not-false _ (passed _ c.check_record.ensures c.in-Passed.is))).size

pub returns-in-Ok : goal.returns-in-Ok
unfolding or_else step
returns-in-Ok c =
    let call = call_of c.args.board c.args.packet.now c.args.response.now in
    let right = (stood c.in-Ok.ensures).accepted in
    let legal = passed _ c.check_record.ensures c.in-Passed.is in
    let room = passed _ c.check_buffer.ensures c.in-Passed-check_buffer.is in
    steps
    (ap (λ (refusal : Option Refusal). outcome_by refusal (request call) call.buffer) (step_refusal_by call legal room right refl)
    ∙ sym (answered_outcome (request call) call.buffer (not-false _ legal) (frame_sizes call.packet right).password_fits (ltb-false _ _ room))
    ∙ ap (λ (r : Request). answered r call.buffer) (sym (same_request call.board (stood c.in-Ok.ensures))))
    c.answer.ensures

pub returns-in-Err : goal.returns-in-Err
unfolding or_else
returns-in-Err c =
    let call = call_of c.args.board c.args.packet.now c.args.response.now in
    let refusal = (read_concludes call.packet _ c.in-Err.ensures).refused refl in
    steps (step_refused call (step_refusal_by call (passed _ c.check_record.ensures c.in-Passed.is) (passed _ c.check_buffer.ensures c.in-Passed-check_buffer.is) refusal refl))
    (leaves refl c.refused-in-Err.ensures.0 c.refused-in-Err.ensures.1 refl)
