-- Demand 3 of what the functions return: the claim of specs/Trace.antt, from that of the definitions.
use Prim.Native.Nat.{ℕ}
use mathlib.Core.List.{List, ◌∷◌}
use mathlib.Core.Path.{◌≡◌, refl, sym, ap, subst, subst₂, ◌∙◌}
use Rattle.model.specs.Discovery.{Reply, reply_of}
use Rattle.model.specs.Noninterference.{ListedCall, replied, judged, board_after, returned, Unauthenticated, ends, returns, Alike, Discoverable, Claim}
use Rattle.model.specs.Record.{password_of, unit_of}
use Rattle.model.specs.Trace.{OwnMade, packet_made, measurement_made, Trace, ended, made_both, made_first, made_second, own_call, own_returned, calls_of, ends_of, returns_of, AlikeMade, DiscoverableMade, TraceClaim, TraceNoninterference}
use Rattle.model.specs.declared.Board.{Board}
use Rattle.model.proofs.Noninterfering.{noninterference}

-- a call returned what the definition gives
own_board : {board next : Board} (own : OwnMade board next) → next ≡ board_after board (own_call own)
own_board (packet_made packet buffer after result contract) = contract.board
own_board (measurement_made n value result contract) = contract.board

own_returned_lem : {board next : Board} (own : OwnMade board next) → own_returned own ≡ returned board (own_call own)
own_returned_lem (packet_made packet buffer after result contract) = λ i. replied (reply_of (contract.answer i) (contract.buffer i))
own_returned_lem (measurement_made n value result contract) = ap judged contract.answered

-- and so did a list of calls
trace_ends : {first second : Board} (trace : Trace first second) → ends_of trace ≡ ends first second (calls_of trace)
trace_ends ended = refl
trace_ends (made_both packet buffer left right one two contract contract' later) =
    trace_ends later ∙ (λ i. ends (contract.board i) (contract'.board i) (calls_of later))
trace_ends {first} {second} (made_first own later) = trace_ends later ∙ (λ i. ends (own_board own i) second (calls_of later))
trace_ends {first} {second} (made_second own later) = trace_ends later ∙ (λ i. ends first (own_board own i) (calls_of later))

trace_returns : {first second : Board} (trace : Trace first second) → returns_of trace ≡ returns first second (calls_of trace)
trace_returns ended = refl
trace_returns (made_both packet buffer left right one two contract contract' later) =
    trace_returns later ∙ (λ i. returns (contract.board i) (contract'.board i) (calls_of later))
trace_returns {first} {second} (made_first own later) =
    let rest = trace_returns later ∙ (λ i. returns (own_board own i) second (calls_of later)) in
    λ i. (own_returned_lem own i ∷ (rest i).0, (rest i).1)
trace_returns {first} {second} (made_second own later) =
    let rest = trace_returns later ∙ (λ i. returns first (own_board own i) (calls_of later)) in
    λ i. ((rest i).0, own_returned_lem own i ∷ (rest i).1)

trace_alike : {first second : Board} (trace : Trace first second) → Alike first second (calls_of trace) → AlikeMade trace
trace_alike ended h = tt
trace_alike (made_both packet buffer left right one two contract contract' later) h = (
  contract.answer ∙ ap (λ (r : Reply). r.answer) h.0 ∙ sym contract'.answer,
  contract.buffer ∙ ap (λ (r : Reply). r.buffer) h.0 ∙ sym contract'.buffer,
  contract.board ∙ h.1,
  contract'.board ∙ h.2,
  trace_alike later (subst₂ (λ (a b : Board). Alike a b (calls_of later)) (sym contract.board) (sym contract'.board) h.3),
)
trace_alike {first} {second} (made_first own later) h = trace_alike later (subst (λ (a : Board). Alike a second (calls_of later)) (sym (own_board own)) h)
trace_alike {first} {second} (made_second own later) h = trace_alike later (subst (λ (b : Board). Alike first b (calls_of later)) (sym (own_board own)) h)

discoverable_made : {id : List ℕ} {unit mode : ℕ} {board : Board} → Discoverable id unit mode board → DiscoverableMade id unit mode board
discoverable_made d =
    record {
      unchanged = λ packet buffer after result contract h. contract.board ∙ d.unchanged packet buffer h;
      answered = λ packet buffer after result contract h room.
          (λ i. reply_of (contract.answer i) (contract.buffer i)) ∙ d.answered packet buffer h room;
    }

traced : {id : List ℕ} {unit mode : ℕ} {first second : Board} (trace : Trace first second) → Claim id unit mode first second (calls_of trace) → TraceClaim id unit mode trace
traced {id} {unit} {mode} {first} {second} trace claim =
    record {
      alike = trace_alike trace claim.alike;
      same_ends = λ other e. trace_ends trace ∙ claim.same_ends ∙ ap (ends first second) (sym e) ∙ sym (trace_ends other);
      same_returns = λ other e. trace_returns trace ∙ claim.same_returns ∙ ap (returns first second) (sym e) ∙ sym (trace_returns other);
      first_discoverable = discoverable_made (subst (λ (b : Board × Board). Discoverable id unit mode b.0) (sym (trace_ends trace)) claim.first_discoverable);
      second_discoverable = discoverable_made (subst (λ (b : Board × Board). Discoverable id unit mode b.1) (sym (trace_ends trace)) claim.second_discoverable);
    }

-- the claim for two boards
Holds : Board → Board → Type 0
Holds first second =
    first.id ≡ second.id → unit_of first ≡ unit_of second → first.mode ≡ second.mode → (calls : List ListedCall) → Unauthenticated (password_of first) (password_of second) calls
    → Claim first.id (unit_of first) first.mode first second calls

pub trace_noninterference : TraceNoninterference
unfolding Holds
trace_noninterference first second one two made made' same_id same_unit same_mode trace h =
    traced trace (subst₂ Holds (sym made.made) (sym made'.made) (noninterference first second) same_id same_unit same_mode (calls_of trace) h)
