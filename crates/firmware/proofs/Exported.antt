-- Demand 3 of the exported calls, from that of the board's functions: a run of the former is one of the latter.
use Prim.Native.Nat.{ℕ}
use mathlib.Core.List.{List, ◌∷◌, map}
use mathlib.Core.Option.{Option}
use mathlib.Core.Path.{◌≡◌, refl, sym, ap, subst, ◌∙◌}
use Rattle.model.specs.Discovery as discovery
use Rattle.model.specs.Measurement.{measure_call, measure_refusal}
use Rattle.model.specs.Noninterference.{ListedCall, to_both, to_first, to_second, Returned, judged, Unauthenticated, without}
use Rattle.model.specs.Noninterference as model
use Rattle.model.specs.Record.{password_of, unit_of, SetUp, verdict_of, SetsUp, set_up_refusal}
use Rattle.model.specs.Step.{Call, call, step, Steps}
use Rattle.model.specs.Trace.{OwnMade, packet_made, measurement_made, Trace, returns_of, own_returned, AlikeMade, DiscoverableMade, TraceClaim}
use Rattle.model.specs.Trace as trace
use Rattle.model.specs.declared.Answered.{Answered}
use Rattle.model.specs.declared.Board.{Board}
use Rattle.model.specs.declared.Stepped.{Stepped}
use Rattle.model.proofs.Traced.{trace_noninterference}
use Rattle.refusals.specs.Refusals.{number_in}
use Rattle.refusals.specs.declared.Refusal.{Refusal}
use Rattle.firmware.specs.Controller.{reply_of, Replies, set_up_result}
use Rattle.firmware.specs.Exported.{ExportsFollow, OwnCalled, packet_called, measure_called, Run, ended, called_both, called_first, called_second, own_call, calls_of, ends_of, Told, replied, numbered, own_told, told_of, AlikeCalled, DiscoverableCalled, ExportedNoninterference}
use Rattle.firmware.specs.declared.controller.CallResult.{CallResult}
use Rattle.firmware.specs.declared.Reply.{Reply}

-- the result of the board's function after an exported call
abbrev step_of : Call → Board → Stepped
step_of c next = record { board = next; answer = (step c).answer }

abbrev answered_of : CallResult → Option Refusal → Answered
answered_of kept refusal = record { board = kept.board; verdict = verdict_of refusal }

step_made : {c : Call} {next : Board} {reply : Reply} {after : List ℕ} → Replies c next reply after → Steps c (step_of c next) after
step_made contract = record { board = contract.board; answer = refl; buffer = contract.buffer }

set_up_made : {given : SetUp} {kept : CallResult} → kept ≡ set_up_result given → SetsUp given (answered_of kept (set_up_refusal given))
set_up_made e = record { answered = refl; made = ap (λ (k : CallResult). k.board) e }

pub exports_follow : ExportsFollow
exports_follow =
    record {
      packet = λ c next reply after contract.
          record { result = step_of c next; contract = step_made contract; board = refl; answer = contract.answer };
      set_up = λ given kept e.
          record {
            result = answered_of kept (set_up_refusal given);
            contract = set_up_made e;
            told = λ i. record { board = kept.board; refusal = (e i).refusal };
          };
      measure = λ c kept e.
          record {
            result = answered_of kept (measure_refusal c);
            contract = record { answered = refl; board = ap (λ (k : CallResult). k.board) e };
            told = λ i. record { board = kept.board; refusal = (e i).refusal };
          };
    }

-- a run of the exported calls, as one of the board's functions
own_made : {board next : Board} → OwnCalled board next → OwnMade board next
own_made {board} (packet_called packet buffer after {next} reply contract) =
    packet_made packet buffer after (step_of (call board packet buffer) next) (step_made contract)
own_made {board} (measure_called n value kept contract) =
    measurement_made n value (answered_of kept (measure_refusal (measure_call board n value)))
    (record { answered = refl; board = ap (λ (k : CallResult). k.board) contract })

made : {first second : Board} → Run first second → Trace first second
made ended = trace.ended
made {first} {second} (called_both {next} {next'} packet buffer left right reply reply' contract contract' later) =
    trace.made_both packet buffer left right (step_of (call first packet buffer) next) (step_of (call second packet buffer) next')
    (step_made contract) (step_made contract') (made later)
made (called_first own later) = trace.made_first (own_made own) (made later)
made (called_second own later) = trace.made_second (own_made own) (made later)

-- its calls and the records at its ends are the same
own_call_lem : {board next : Board} (own : OwnCalled board next) → trace.own_call (own_made own) ≡ own_call own
unfolding own_made
own_call_lem (packet_called packet buffer after reply contract) = refl
own_call_lem (measure_called n value kept contract) = refl

same_calls : {first second : Board} (run : Run first second) → trace.calls_of (made run) ≡ calls_of run
unfolding made
same_calls ended = refl
same_calls (called_both packet buffer left right reply reply' contract contract' later) = ap (λ (calls : List ListedCall). to_both packet buffer ∷ calls) (same_calls later)
same_calls (called_first own later) = λ i. to_first (own_call_lem own i) ∷ same_calls later i
same_calls (called_second own later) = λ i. to_second (own_call_lem own i) ∷ same_calls later i

same_ends : {first second : Board} (run : Run first second) → trace.ends_of (made run) ≡ ends_of run
unfolding made
same_ends ended = refl
same_ends (called_both packet buffer left right reply reply' contract contract' later) = same_ends later
same_ends (called_first own later) = same_ends later
same_ends (called_second own later) = same_ends later

-- what is told is what the board's functions returned, in numbers
in_numbers : Returned → Told
in_numbers (model.replied reply) = replied (reply_of reply.answer) reply.buffer
in_numbers (judged verdict) = numbered (number_in verdict)

own_told_lem : {board next : Board} (own : OwnCalled board next) → own_told own ≡ in_numbers (own_returned (own_made own))
unfolding own_made in_numbers
own_told_lem (packet_called packet buffer after reply contract) = ap (λ (r : Reply). replied r after) contract.answer
own_told_lem (measure_called n value kept contract) = ap (λ (k : CallResult). numbered k.refusal) contract

both_in_numbers : List Returned × List Returned → List Told × List Told
both_in_numbers r = (map in_numbers r.0, map in_numbers r.1)

run_told : {first second : Board} (run : Run first second) → told_of run ≡ both_in_numbers (returns_of (made run))
unfolding made both_in_numbers
run_told ended = refl
run_told (called_both packet buffer left right reply reply' contract contract' later) = run_told later
run_told (called_first own later) = λ i. (own_told_lem own i ∷ (run_told later i).0, (run_told later i).1)
run_told (called_second own later) = λ i. ((run_told later i).0, own_told_lem own i ∷ (run_told later i).1)

run_alike : {first second : Board} (run : Run first second) → AlikeMade (made run) → AlikeCalled run
unfolding made
run_alike ended h = tt
run_alike (called_both packet buffer left right reply reply' contract contract' later) h =
    (contract.answer ∙ ap reply_of h.0 ∙ sym contract'.answer, h.1, h.2, h.3, run_alike later h.4)
run_alike (called_first own later) h = run_alike later h
run_alike (called_second own later) h = run_alike later h

discoverable : {id : List ℕ} {unit mode : ℕ} {board : Board} → DiscoverableMade id unit mode board → DiscoverableCalled id unit mode board
discoverable {board} d =
    record {
      unchanged = λ packet buffer after next reply contract h.
          d.unchanged packet buffer after (step_of (call board packet buffer) next) (step_made contract) h;
      answered = λ packet buffer after next reply contract h room.
          let told = d.answered packet buffer after (step_of (call board packet buffer) next) (step_made contract) h room in
          (contract.answer ∙ ap (λ (r : discovery.Reply). reply_of r.answer) told, ap (λ (r : discovery.Reply). r.buffer) told);
    }

pub exported_noninterference : ExportedNoninterference
exported_noninterference first second one two e e' same_id same_unit same_mode run h =
    let claim : TraceClaim one.board.id (unit_of one.board) one.board.mode (made run) =
    trace_noninterference first second (answered_of one (set_up_refusal first)) (answered_of two (set_up_refusal second)) (set_up_made e) (set_up_made e')
    same_id same_unit same_mode (made run)
    (subst (Unauthenticated (password_of one.board) (password_of two.board)) (sym (same_calls run)) h) in
    let only : (other : Run one.board two.board) → calls_of other ≡ without (calls_of run) → trace.calls_of (made other) ≡ without (trace.calls_of (made run)) =
    λ other e. same_calls other ∙ e ∙ ap without (sym (same_calls run)) in
    record {
      alike = run_alike run claim.alike;
      same_ends = λ other e. sym (same_ends run) ∙ claim.same_ends (made other) (only other e) ∙ same_ends other;
      same_told = λ other e. run_told run ∙ ap both_in_numbers (claim.same_returns (made other) (only other e)) ∙ sym (run_told other);
      first_discoverable =
          discoverable (subst (λ (ends : Board × Board). DiscoverableMade one.board.id (unit_of one.board) one.board.mode ends.0) (same_ends run) claim.first_discoverable);
      second_discoverable =
          discoverable (subst (λ (ends : Board × Board). DiscoverableMade one.board.id (unit_of one.board) one.board.mode ends.1) (same_ends run) claim.second_discoverable);
    }
