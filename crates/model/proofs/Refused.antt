-- Demand 1: the statements of specs/Refusals.antt hold.
use Prim.Native.Nat.{ℕ, ◌+◌, ◌≤◌, ◌<◌}
use native.Mathlib.Omega.{arith}
use mathlib.Core.Bool.{Bool, true, false, cond, not, ◌&&◌, ◌||◌, and-false}
use mathlib.Core.List.{List, [], ◌∷◌}
use mathlib.Core.Logic.{◌↔◌, ◌⊎◌, inl, inr, ⊎_elim}
use mathlib.Core.Option.{Option, none, some, or_else}
use Rattle.std.specs.declared.result.Result.TheVariants.{Ok, Err}
use mathlib.Core.Path.{◌≡◌, refl, ap, ◌∙◌}
use borrow.Author.Tests.{ltb-false, le-ltb, le-leb, lt-leb, ne_eqb, eqb-true, not-true, not-false}
use lib.Dec.{eqb, leb}
use lib.ListN.{length, drop}
use lib.Seq.{take_at, drop_at}
use Rattle.octets.specs.Octets.{same, overwrite}
use Rattle.octets.proofs.Booleans.{both_true}
use Rattle.octets.proofs.Same.{same_equal}
use Rattle.framing.specs.Frame.{packet_of, packet_length}
use Rattle.framing.specs.Identity.{default_id, is_password}
use Rattle.framing.specs.Packet.{packet_refusals, packet_refusal}
use Rattle.framing.specs.Refusal.{Rule, first_refusal}
use Rattle.refusals.specs.declared.Refusal.{Refusal}
use Rattle.refusals.specs.declared.Refusal.TheVariants.{BadId, BadPassword, BadMode, BadUnitType}
use Rattle.framing.proofs.Writing.{length_packet}
use Rattle.block.specs.Command.{Report}
use Rattle.store.specs.Start.{start}
use Rattle.model.specs.Authentication.{passes}
use Rattle.model.specs.Conditions.{other_than_reads}
use Rattle.model.specs.Discovery.{discovery_refusals}
use Rattle.model.specs.Measurement.{measure_refusals, measure_refusal, measured_by, measured_board}
use Rattle.model.specs.Record.{verdict_of, client, access_point, is_mode, is_id, is_unit, password_of, unit_of, SetUp, set_up_refusals, set_up_refusal, board_of, set_up_board, sound}
use Rattle.model.specs.Refusals.{Earliest, NoneApplies, Numbered, Silent, Responds, PacketsAnswered, Authorized, AuthorizedAnswered, MeasurementsAnswered, SetUpsAnswered, JudgesUnit, UnitsJudged}
use Rattle.model.specs.Step.{Call, Request, request, is_discovery, other_id, reports_of, response, request_refusals, step_refusals, step_refusal, Outcome, outcome_of, answer_with, outcome_by, step}
pub use Rattle.model.proofs.Earliest.{first_earliest, earliest_first, none_first, first_none}
use Rattle.model.proofs.Soundness.{sound_parts, id_length}
use Rattle.model.proofs.StepRefusals.{no_refusal, request_refusal_by, step_refusal_by, step_refused, step_answered, passed_request, PassedStep, passed_step}
use Rattle.model.specs.declared.Answer.TheVariants as answer

pub numbered : Numbered
unfolding packet_refusals request_refusals step_refusals discovery_refusals measure_refusals set_up_refusals
numbered = record { packet = refl; discovery = refl; measurement = refl; set_up = refl }

-- the answers of set-up and measurement
verdict_refusal : (o : Option Refusal) {refusal : Refusal} → verdict_of o ≡ Err refusal → o ≡ some refusal
verdict_refusal none e = absurd cc
verdict_refusal (some r) e = cc

verdict_none : (o : Option Refusal) → verdict_of o ≡ Ok tt → o ≡ none
verdict_none none e = refl
verdict_none (some r) e = absurd cc

module _ {Asked : Type 0} (rows : List (Rule Asked)) (asked : Asked) where
  refused_exactly : (refusal : Refusal) → (verdict_of (first_refusal rows asked) ≡ Err refusal) ↔ Earliest rows asked refusal
  refused_exactly refusal =
      (λ e. first_earliest rows asked (verdict_refusal (first_refusal rows asked) e), λ earliest. ap verdict_of (earliest_first earliest))

  accepted_exactly : (verdict_of (first_refusal rows asked) ≡ Ok tt) ↔ NoneApplies rows asked
  accepted_exactly =
      (λ e. first_none rows asked (verdict_none (first_refusal rows asked) e), λ none_applies. ap verdict_of (none_first rows asked none_applies))

pub measurements_answered : MeasurementsAnswered
unfolding measure_refusal measured_board
measurements_answered c =
    record {
      refused = refused_exactly measure_refusals c;
      unchanged = λ refusal e. ap (λ (o : Option Refusal). measured_by o c) (verdict_refusal (measure_refusal c) e);
      accepted = accepted_exactly measure_refusals c;
    }

pub set_ups_answered : SetUpsAnswered
unfolding set_up_refusal set_up_board
set_ups_answered given =
    record {
      refused = refused_exactly set_up_refusals given;
      replaced = λ refusal e. ap (λ (o : Option Refusal). board_of o given) (verdict_refusal (set_up_refusal given) e);
      accepted = accepted_exactly set_up_refusals given;
      started = λ e. ap (λ (o : Option Refusal). board_of o given) (verdict_none (set_up_refusal given) e);
    }

-- the answers to packets
reports_no_refusal :
    (reports : List Report) (r : Request) (buffer : List ℕ) {refusal : Refusal}
    → (answer_with reports r buffer).answer ≡ answer.Refused refusal → ⊥
reports_no_refusal [] r buffer e = cc
reports_no_refusal (report ∷ reports) r buffer e = cc

answer_refusal : (o : Option Refusal) (r : Request) (buffer : List ℕ) {refusal : Refusal} → (outcome_by o r buffer).answer ≡ answer.Refused refusal → o ≡ some refusal
answer_refusal none r buffer e = absurd (reports_no_refusal (reports_of r) r buffer e)
answer_refusal (some found) r buffer e = cc

pub refusal_answered : (c : Call) {refusal : Refusal} → (step c).answer ≡ answer.Refused refusal → step_refusal c ≡ some refusal
unfolding step
refusal_answered c e = answer_refusal (step_refusal c) (request c) c.buffer e

-- the response of a packet that is not refused has the length that 12 judges by, and room in the buffer
response_size : (c : Call) → PassedStep c → (length (packet_of (response (request c))) ≤ 256) × (256 ≤ length c.buffer)
response_size c passed =
    let short : packet_length (response (request c)) ≤ 256 = ltb-false _ _ (passed_request (request c) passed.request).short in
    let id_size : length c.board.id ≡ 16 = id_length c.board (not-false (sound c.board) passed.board) in
    (omega (arith, length_packet (response (request c))), ltb-false _ _ passed.room)

answered_by :
    (c : Call) → PassedStep c → (reports : List Report) → reports_of (request c) ≡ reports → step c ≡ answer_with reports (request c) c.buffer
    → Silent c ⊎ Responds c
answered_by c passed [] r e = inl (record { reports = r; answer = ap (λ (o : Outcome). o.answer) e; buffer = ap (λ (o : Outcome). o.buffer) e })
answered_by c passed (report ∷ reports) r e =
    let packet : List ℕ = packet_of (response (request c)) in
    let bounds : (length packet ≤ 256) × (256 ≤ length c.buffer) = response_size c passed in
    let filled : (step c).buffer ≡ overwrite c.buffer 0 packet = ap (λ (o : Outcome). o.buffer) e in
    let whole : 0 + length packet ≡ length packet = omega arith in
    inr
    (record {
      reports = λ none_left. cc;
      size = length packet;
      answer = ap (λ (o : Outcome). o.answer) e;
      sent = rw filled (take_at packet _ (length packet) refl);
      rest = rw filled (drop_at packet _ (length packet) refl ∙ ap (λ (n : ℕ). drop n c.buffer) whole);
      exact = refl;
      short = bounds.0;
      fits = omega (arith, bounds);
    })

-- silence and a response are no refusal
pub none_refused : (c : Call) → ((refusal : Refusal) → (step c).answer ≡ answer.Refused refusal → ⊥) → step_refusal c ≡ none
none_refused c other = by_refusal (step_refusal c) refl
  where
    by_refusal : (o : Option Refusal) → step_refusal c ≡ o → step_refusal c ≡ none
    by_refusal none e = e
    by_refusal (some refusal) e = absurd (other refusal (ap (λ (o : Outcome). o.answer) (step_refused c e)))

pub answered_none : (c : Call) → Silent c ⊎ Responds c → step_refusal c ≡ none
answered_none c (inl silent) = none_refused c (λ refusal e. cc silent.answer)
answered_none c (inr responds) = none_refused c (λ refusal e. cc responds.answer)

pub none_answered : (c : Call) → step_refusal c ≡ none → Silent c ⊎ Responds c
none_answered c e = answered_by c (passed_step c e) (reports_of (request c)) refl (step_answered c e)

pub packets_answered : PacketsAnswered
unfolding step_refusal
packets_answered c =
    record {
      refused =
          λ refusal.
          (λ e. first_earliest step_refusals c (refusal_answered c e), λ earliest. ap (λ (o : Outcome). o.answer) (step_refused c (earliest_first earliest)));
      unchanged = λ refusal e.
          let same : step c ≡ outcome_of c.board (answer.Refused refusal) c.buffer = step_refused c (refusal_answered c e) in
          (ap (λ (o : Outcome). o.board) same, ap (λ (o : Outcome). o.buffer) same);
      accepted = (
        λ answered. first_none step_refusals c (answered_none c answered),
        λ none_applies. none_answered c (none_first step_refusals c none_applies),
      );
    }

-- a packet for the board's own ID, or for the default ID at an access point, is for the board and no discovery
addressed :
    (own default access searches : Bool) → (own ≡ true → default ≡ false) → (access ≡ true → searches ≡ false)
    → (own || access && default) ≡ true → (not (own || default) ≡ false) × ((searches && default) ≡ false)
addressed true default access searches other apart h = (refl, ap (λ (d : Bool). searches && d) (other refl) ∙ and-false searches)
addressed false default true searches other apart h = (ap not h, ap (λ (s : Bool). s && default) (apart refl))
addressed false default false searches other apart h = absurd cc

authorized_passes : (c : Call) → Authorized c → step_refusal c ≡ none
unfolding or_else
authorized_passes c a =
    let r : Request = request c in
    let bearing = both_true (passes c.packet) (same r.frame.password (password_of c.board)) a.password in
    let not_default : not (same c.board.id default_id) ≡ true = (both_true (eqb (length c.board.id) 16) _ (sound_parts c.board a.board).id).1 in
    let for_board : (other_id r ≡ false) × (is_discovery r ≡ false) =
    addressed (same r.frame.id c.board.id) (same r.frame.id default_id) (eqb c.board.mode access_point) (eqb c.board.mode client)
    (λ own. rw (same_equal r.frame.id c.board.id own) (not-true _ not_default))
    (λ access. rw (eqb-true c.board.mode access_point access))
    a.id in
    step_refusal_by c (ap not a.board) (le-ltb _ _ a.room) (no_refusal (packet_refusal c.packet) bearing.0)
    (request_refusal_by r for_board.0
    (ap (λ (same_password : Bool). not (is_discovery r) && not same_password) bearing.1 ∙ and-false (not (is_discovery r)))
    (λ i. not (le-leb 1 r.frame.function a.function.0 i && le-leb r.frame.function 5 a.function.1 i))
    (ap not a.block)
    (ap (λ (d : Bool). d && other_than_reads r.frame) for_board.1)
    (le-ltb _ _ a.short))

pub authorized_answered : AuthorizedAnswered
authorized_answered c a = none_answered c (authorized_passes c a)

-- the unit type of a set-up
module _ (given : SetUp) (id : is_id given.id ≡ true) (password : is_password given.password ≡ true) where
  set_up_by :
      {mode_wrong unit_wrong : Bool} → not (is_mode given.mode) ≡ mode_wrong → not (is_unit given.unit) ≡ unit_wrong
      → set_up_refusal given ≡ cond mode_wrong (some BadMode) (cond unit_wrong (some BadUnitType) none)
  unfolding set_up_refusal set_up_refusals first_refusal
  set_up_by m u = λ i. cond (not (id i)) (some BadId) (cond (not (password i)) (some BadPassword) (cond (m i) (some BadMode) (cond (u i) (some BadUnitType) none)))

  mode_right : (given.mode ≡ 1) ⊎ (given.mode ≡ 2) → not (is_mode given.mode) ≡ false
  mode_right m = ⊎_elim (λ e. ap (λ (mode : ℕ). not (is_mode mode)) e) (λ e. ap (λ (mode : ℕ). not (is_mode mode)) e) m

  unit_outside : (given.unit < 2) ⊎ (5 < given.unit) → not (is_unit given.unit) ≡ true
  unit_outside u =
      ⊎_elim
      (λ h. ap (λ (b : Bool). not (b && leb given.unit 5)) (lt-leb 2 given.unit h))
      (λ h. ap not (ap (λ (b : Bool). leb 2 given.unit && b) (lt-leb given.unit 5 h) ∙ and-false (leb 2 given.unit)))
      u

  made : {o : Option Refusal} → set_up_refusal given ≡ o → unit_of (set_up_board given) ≡ unit_of (board_of o given)
  unfolding set_up_board
  made e = ap (λ (o : Option Refusal). unit_of (board_of o given)) e

  judges_unit : JudgesUnit given
  unfolding start
  judges_unit =
      record {
        mode_first = λ one two. ap verdict_of (set_up_by {mode_wrong = true} (rw (ne_eqb given.mode 1 one, ne_eqb given.mode 2 two)) refl);
        unit_wrong = λ m u. ap verdict_of (set_up_by (mode_right m) (unit_outside u));
        accepted = λ m low high.
            let none_applies = set_up_by {unit_wrong = false} (mode_right m) (rw (le-leb 2 given.unit low, le-leb given.unit 5 high)) in
            (ap verdict_of none_applies, made none_applies);
        refused = λ refusal e. made (verdict_refusal (set_up_refusal given) e);
      }

pub units_judged : UnitsJudged
units_judged given id password = judges_unit given id password
