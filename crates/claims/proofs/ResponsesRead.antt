-- The tool reads what the board responds.
use Prim.Native.Nat.{ℕ}
use mathlib.Core.Bool.{Bool, true, false, not, ◌&&◌, ◌||◌}
use mathlib.Core.List.{List, []}
use mathlib.Core.Logic.{◌⊎◌, inl, inr}
use mathlib.Core.Option.{Option, none, some, get_or}
use mathlib.Core.Path.{◌≡◌, refl, sym, ap, ◌∙◌}
use borrow.Author.Tests.{eq-eqb, ltb-false, le-leb, not-false}
use lib.Dec.{leb, eqb}
use lib.ListN.{length, take}
use Rattle.octets.specs.Octets.{same}
use Rattle.octets.proofs.Booleans.{both_true}
use Rattle.octets.proofs.Same.{same_self, same_equal}
use Rattle.refusals.specs.declared.Refusal.{Refusal}
use Rattle.framing.specs.Frame.{Frame, packet_of, packet_length, is_frame}
use Rattle.framing.specs.Identity.{default_id, all_alphanumeric, is_password}
use Rattle.framing.specs.Packet.{packet_refusal, places_of, frame_of}
use Rattle.framing.specs.Refusal.{first_refusal}
use Rattle.framing.specs.Statements.{ReadsBack}
use Rattle.framing.proofs.ReadsWritten.{reads_written}
use Rattle.framing.proofs.WritesRead.{writes_read}
use Rattle.block.specs.Command.{Report}
use Rattle.block.specs.Reading.{is_some}
use Rattle.block.specs.Response.{reports}
use Rattle.block.proofs.RoundTrips.{reports_decode}
use Rattle.model.specs.Record.{password_of, sound}
use Rattle.model.specs.Refusals.{Silent, Responds}
use Rattle.model.specs.Step.{Request, Call, request, is_discovery, reports_of, response, wrong_password, step_refusals, step_refusal, Outcome, step, Steps}
use Rattle.model.specs.declared.Answer.TheVariants.{Response}
use Rattle.model.specs.declared.Stepped.{Stepped}
use Rattle.model.proofs.Refused.{first_none, none_first, packets_answered}
use Rattle.model.proofs.Soundness.{sound_parts, id_length}
use Rattle.model.proofs.StepRefusals.{step_refused, PassedRequest, passed_request, PassedStep, passed_step}
use Rattle.tool.specs.Listing.{listing_as}
use Rattle.tool.specs.Response.{read_call, read_refusal, response_as, response_refusals, other_id, other_password, no_response}
use Rattle.tool.proofs.Refusals.{read_accepted, any_accepted}
use Rattle.claims.specs.Agreement.{ResponsesAgree}
use Rattle.model.proofs.EncodableReports.{reports_encodable}
use Rattle.claims.proofs.RequestsRead.{same_as}

-- a packet that is responded to is not refused, and its response stands in the first bytes of the buffer
record Responded (c : Call) (packet : List ℕ) : Type 0 where
  passed : PassedStep c
  packet_sent : packet ≡ packet_of (response (request c))

responded : (c : Call) {result : Stepped} {after : List ℕ} {size : ℕ} → Steps c result after → result.answer ≡ Response size → Responded c (take size after)
unfolding step_refusal
responded c {result} {after} {size} steps e = by_refusal (step_refusal c) refl
  where
    told : (step c).answer ≡ Response size
    told = sym steps.answer ∙ e

    by_answer : PassedStep c → Silent c ⊎ Responds c → Responded c (take size after)
    by_answer passed (inl silent) = absurd (cc (told, silent.answer))
    by_answer passed (inr responds) =
        let whole : size ≡ responds.size = cc (told, responds.answer) in
        record { passed = passed; packet_sent = (λ i. take (whole i) (steps.buffer i)) ∙ responds.sent }

    by_refusal : (o : Option Refusal) → step_refusal c ≡ o → Responded c (take size after)
    by_refusal none none_refused = by_answer (passed_step c none_refused) ((packets_answered c).accepted.1 (first_none step_refusals c none_refused))
    by_refusal (some refusal) refused =
        absurd (cc (told, ap (λ (o : Outcome). o.answer) (step_refused c refused)))

-- the ID asked by is the default one, or that of the board
same_id : (asked own : List ℕ) → not (same asked own || same asked default_id) ≡ false → other_id asked own ≡ false
same_id asked own h = by_own (same asked own) (same asked default_id) refl h
  where
    by_own : (is_own default : Bool) → same asked own ≡ is_own → not (is_own || default) ≡ false → (not default && not (same own asked)) ≡ false
    by_own is_own true e h = refl
    by_own true false e h = ap not (same_as (sym (same_equal asked own e)))
    by_own false false e h = absurd cc

-- a password that the tool sends: that of the board, unless a discovery bears another
sendable :
    (r : Request) → sound r.board ≡ true → leb (length r.frame.password) 8 ≡ true → wrong_password r ≡ false
    → (is_discovery r ≡ true → is_password r.frame.password ≡ true) → is_password r.frame.password ≡ true
sendable r legal short right of_discovery = by_discovery (is_discovery r) refl right
  where
    by_discovery :
        (discovery : Bool) → is_discovery r ≡ discovery → (not discovery && not (same r.frame.password (password_of r.board))) ≡ false
        → is_password r.frame.password ≡ true
    by_discovery true d h = of_discovery d
    by_discovery false d h =
        let own : r.frame.password ≡ password_of r.board = same_equal _ _ (not-false _ h) in
        λ i. short i && (ap all_alphanumeric own ∙ (sound_parts r.board legal).password) i

pub responses_agree : ResponsesAgree
unfolding response_refusals
responses_agree c result after size steps e =
    let r : Request = request c in
    let packet : List ℕ = take size after in
    let back : Responded c packet = responded c steps e in
    let passed : PassedRequest r = passed_request r back.passed.request in
    let legal : sound c.board ≡ true = not-false _ back.passed.board in
    let asked = both_true _ (leb (packet_length r.frame) 256) (writes_read c.packet back.passed.packet).sized in
    let sizes = both_true (eqb (length r.frame.id) 16) (leb (length r.frame.password) 8) asked.0 in
    let short : leb (packet_length (response r)) 256 ≡ true = le-leb _ 256 (ltb-false 256 (packet_length (response r)) passed.short) in
    let framed : is_frame (response r) ≡ true = λ i. eq-eqb _ 16 (id_length c.board legal) i && sizes.1 i && short i in
    let reading : ReadsBack (response r) = reads_written (response r) framed in
    let found : frame_of packet ≡ response r = ap frame_of back.packet_sent ∙ reading.frame_back in
    let told : reports (frame_of packet).block ≡ some (reports_of r) =
    ap (λ (f : Frame). reports f.block) found ∙ reports_decode (reports_of r) (reports_encodable r legal) in
    let passes : packet_refusal packet ≡ none = ap packet_refusal back.packet_sent ∙ reading.accepted in
    let formed : first_refusal response_refusals (frame_of packet) ≡ none =
    none_first response_refusals (frame_of packet) (ap (λ (f : Frame). no_response f.function) found, (ap (λ (o : Option (List Report)). not (is_some o)) told, tt)) in
    let accepted : (is_discovery r ≡ true → is_password r.frame.password ≡ true) → read_refusal (read_call packet r.frame.id r.frame.password) ≡ none =
    λ of_discovery.
    read_accepted (read_call packet r.frame.id r.frame.password)
    (ap not sizes.0)
    (ap not (sendable r legal sizes.1 passed.password of_discovery))
    passes
    (ap (λ (f : Frame). other_id r.frame.id f.id) found ∙ same_id r.frame.id c.board.id passed.id)
    (ap (λ (f : Frame). other_password r.frame.password f.password) found ∙ ap not (same_self r.frame.password))
    formed in
    record {
      accepted = λ of_discovery. ap (λ (o : Option Refusal). response_as o (places_of packet)) (accepted of_discovery);
      reports = told;
      listed = λ i. listing_as (any_accepted packet passes formed i) (get_or (told i) []);
    }
