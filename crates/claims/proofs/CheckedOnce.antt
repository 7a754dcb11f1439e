-- Both ends refuse with 2 to 6 what framing's `read` refuses, and test the frame at its places: the proof of `OneCheck`.
use Prim.Native.Nat.{ℕ, ◌+◌, ◌/◌, ◌%◌, ◌≤◌}
use native.Mathlib.Omega.{arith}
use mathlib.Core.Bool.{Bool, true, false, cond, not, ◌&&◌}
use mathlib.Core.List.{List, [], ◌∷◌, ◌++◌}
use mathlib.Core.Logic.Iff
use mathlib.Core.Logic.{◌↔◌}
use mathlib.Core.Option
use mathlib.Core.Option.{Option, none, some, or_else}
use mathlib.Core.Path.{◌≡◌, refl, sym, ap, ◌∙◌}
use borrow.Author.Tests.{leb-true, le-ltb, lt-ltb, eq-eqb}
use lib.Dec.{leb, ltb}
use lib.ListN.{length, drop, get_or}
use Rattle.octets.proofs.Booleans.{both_true}
use Rattle.std.specs.Prelude.{Result, Ok, Err}
use Rattle.refusals.specs.Refusals.{number_of}
use Rattle.refusals.specs.declared.Refusal.{Refusal}
use Rattle.refusals.proofs.Distinct.{numbers_distinct}
use Rattle.framing.specs.Packet.{packet_refusals, packet_refusal, places_of, frame_of, parsed_as}
use Rattle.framing.specs.Refusal.{Rule, first_refusal}
use Rattle.framing.specs.Statements.{Concluded}
use Rattle.framing.specs.declared.Places.{Places}
use Rattle.framing.proofs.Answers.{read_concludes}
use Rattle.framing.proofs.Refusals.{passed_then}
use Rattle.block.specs.Command.{Report}
use Rattle.block.specs.Encoding.{every}
use Rattle.model.specs.Step.{Call, call, request, request_refusals, step_refusal, Outcome, outcome_of, outcome_by, step}
use Rattle.model.proofs.Refused.{refusal_answered}
use Rattle.model.proofs.StepRefusals.{step_refusal_by, step_refused}
use Rattle.tool.specs.Listing.{line_feed, refused_line, listing_as}
use Rattle.tool.specs.Response.{ReadCall, read_call, received, frame_refusals, response_refusals, read_refusal, response_as, any_response_refusal, reports_of}
use Rattle.tool.proofs.Listings.{refused_as}
use Rattle.tool.proofs.Refusals.{read_refusal_lem, any_refusal}
use Rattle.claims.specs.OneCheck.{BothEnds, Ready, Answers, outcome_at, response_at, listing_at, RefusedAlike, TestedThere, OneCheck}
use Rattle.claims.proofs.Numbers.{number_passes}

-- where the rest has numbers from 7 on, a refusal with one up to 6 is of the first
first_decides :
    (first rest : Option Refusal) {refusal : Refusal} → number_of refusal ≤ 6
    → ((other : Refusal) → rest ≡ some other → leb 7 (number_of other) ≡ true) → (or_else first rest ≡ some refusal) ↔ (first ≡ some refusal)
unfolding or_else
first_decides (some found) rest small later = (λ e. e, λ e. e)
first_decides none rest {refusal} small later =
    (λ e. absurd (omega (arith, leb-true 7 (number_of refusal) (later refusal e))), λ e. absurd cc)

-- a line with one digit has no other number
line_number : (found number : ℕ) → number ≤ 6 → refused_line found ≡ refused_line number → found ≡ number
line_number found number small e =
    let one_digit : ltb number 10 ≡ true = lt-ltb number 10 (omega arith) in
    by_digits (ltb found 10) (ap (drop 8) e ∙ ap (λ (one : Bool). end one number) one_digit)
  where
    end : Bool → ℕ → List ℕ
    end one n = cond one ((0x30 + n) ∷ []) ((0x30 + n / 10) ∷ (0x30 + n % 10) ∷ []) ++ line_feed

    by_digits : (one : Bool) → end one found ≡ end true number → found ≡ number
    by_digits true k = omega (arith, ap (λ (l : List ℕ). get_or l 0 0) k)
    by_digits false k = absurd (omega (arith, ap length k))

listing_number :
    (refused : Option Refusal) (found : List Report) {refusal : Refusal} → number_of refusal ≤ 6
    → (listing_as refused found ≡ refused_line (number_of refusal)) ↔ (refused ≡ some refusal)
listing_number none found small =
    (λ e. absurd (omega (arith, ap (λ (l : List ℕ). get_or l 0 0) e)), λ e. absurd cc)
listing_number (some other) found {refusal} small =
    (λ e. ap some (numbers_distinct other refusal (line_number (number_of other) (number_of refusal) small e)), λ e. ap (λ (o : Option Refusal). listing_as o found) e)

module _ (given : BothEnds) (ready : Ready given) (answers : Answers given) where
  called : Call
  called = call given.board given.packet given.buffer

  asked : ReadCall
  asked = read_call given.packet given.id given.password

  -- each end's refusal: that of the packet, else that of its frame
  board_refusal : step_refusal called ≡ or_else (packet_refusal given.packet) (first_refusal request_refusals (request called))
  unfolding called
  board_refusal = step_refusal_by called (ap not ready.board) (le-ltb _ 256 ready.room) refl refl

  reader_refusal : read_refusal asked ≡ or_else (packet_refusal given.packet) (first_refusal frame_refusals (received asked))
  unfolding asked
  reader_refusal = read_refusal_lem asked (ap not (eq-eqb _ 16 ready.id)) (ap not ready.password)

  -- what `read` refuses
  concluded : Concluded given.packet answers.parsed
  concluded = read_concludes given.packet answers.parsed answers.parses

  packet_refused : {refusal : Refusal} → packet_refusal given.packet ≡ some refusal → answers.parsed ≡ Err refusal
  packet_refused k = answers.parses ∙ ap (λ (o : Option Refusal). parsed_as o (places_of given.packet)) k

  module _ (refusal : Refusal) (small : number_of refusal ≤ 6) where
    -- a refusal of the packet, else of its frame, is that of `read` where it is up to 6
    by_packet :
        {A : Type 0} (rows : List (Rule A)) (part : A) {refused : Option Refusal} → every (λ (row : Rule A). leb 7 (number_of row.refusal)) rows ≡ true
        → refused ≡ or_else (packet_refusal given.packet) (first_refusal rows part) → (refused ≡ some refusal) ↔ (answers.parsed ≡ Err refusal)
    by_packet rows part later e =
        let decided = first_decides (packet_refusal given.packet) (first_refusal rows part) small (λ other k. number_passes (leb 7) rows part later k) in
        (λ k. packet_refused (decided.0 (sym e ∙ k)), λ k. e ∙ decided.1 (concluded.refused k))

    refused_alike : RefusedAlike given answers refusal
    unfolding called asked request_refusals frame_refusals response_refusals every
    refused_alike =
        record {
          board = Iff.trans
              (λ k. refusal_answered called (sym answers.steps.answer ∙ k), λ k. answers.steps.answer ∙ ap (λ (o : Outcome). o.answer) (step_refused called k))
              (by_packet request_refusals (request called) refl board_refusal);
          reader = Iff.trans
              (λ k. refused_as (read_refusal asked) (places_of given.packet) answers.reads k, λ k. answers.reads ∙ ap (λ (o : Option Refusal). response_as o (places_of given.packet)) k)
              (by_packet frame_refusals (received asked) refl reader_refusal);
          listed = Iff.trans
              (listing_number (any_response_refusal given.packet) (Option.get_or (reports_of given.packet) []) small)
              (by_packet response_refusals (frame_of given.packet) refl (any_refusal given.packet));
        }

  tested_at : {places : Places} → answers.parsed ≡ Ok places → TestedThere given answers
  unfolding called asked step
  tested_at {places} e =
      let stood = concluded.read e in
      let right = stood.accepted in
      let here : places_of given.packet ≡ places = sym stood.placed in
      record {
        places = places;
        found = e;
        board = (λ i. outcome_of (answers.steps.board i) (answers.steps.answer i) (answers.steps.buffer i))
            ∙ ap (λ (o : Option Refusal). outcome_by o (request called) given.buffer) (board_refusal ∙ passed_then _ right)
            ∙ ap (outcome_at given) here;
        reader = answers.reads
            ∙ ap (λ (o : Option Refusal). response_as o (places_of given.packet)) (reader_refusal ∙ passed_then _ right)
            ∙ ap (response_at given) here;
        listed =
            ap (λ (o : Option Refusal). listing_as o (Option.get_or (reports_of given.packet) []))
            (any_refusal given.packet ∙ passed_then _ right)
            ∙ ap (listing_at given) here;
      }

  -- the numbers of `read`
  packet_number : {refusal : Refusal} → answers.parsed ≡ Err refusal → (2 ≤ number_of refusal) × (number_of refusal ≤ 6)
  unfolding packet_refusal packet_refusals every
  packet_number {refusal} e =
      let both = both_true (leb 2 (number_of refusal)) (leb (number_of refusal) 6) (number_passes (λ (n : ℕ). leb 2 n && leb n 6) packet_refusals given.packet refl (concluded.refused e)) in
      (leb-true 2 (number_of refusal) both.0, leb-true (number_of refusal) 6 both.1)

  tested_else : ((refusal : Refusal) → 2 ≤ number_of refusal → number_of refusal ≤ 6 → answers.parsed ≡ Err refusal → ⊥) → TestedThere given answers
  tested_else other = by_answer answers.parsed refl
    where
      by_answer : (p : Result Places Refusal) → answers.parsed ≡ p → TestedThere given answers
      by_answer (Ok places) e = tested_at e
      by_answer (Err refusal) e = let bounds = packet_number e in absurd (other refusal bounds.0 bounds.1 e)

pub one_check : OneCheck
one_check given ready answers =
    record { refused = λ refusal large small. refused_alike given ready answers refusal small; otherwise = tested_else given ready answers }
