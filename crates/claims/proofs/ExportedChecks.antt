-- One check for the exported calls, from that for the functions under them: the proof of `ExportedOneCheck`.
use Prim.Native.Nat.{ℕ, zero, suc, ◌≤◌}
use native.Mathlib.Omega.{arith}
use mathlib.Core.Logic.Iff
use mathlib.Core.Logic.{◌↔◌}
use mathlib.Core.Path.{◌≡◌, refl, sym, ap, subst, ◌∙◌}
use Rattle.std.specs.Prelude.{Result, Ok, Err}
use Rattle.refusals.specs.Refusals.{number_of, number_in}
use Rattle.refusals.specs.declared.Refusal.{Refusal}
use Rattle.refusals.specs.declared.Refusal.TheVariants.{WrongLength, WrongMark, WrongChecksum, WrongHeader, WrongPasswordSize}
use Rattle.refusals.proofs.Distinct.{numbers_distinct, numbers_above_zero}
use Rattle.framing.specs.Packet.{parsed_of}
use Rattle.framing.specs.declared.Places.{Places}
use Rattle.model.specs.Step.{call, Outcome}
use Rattle.model.specs.declared.Answer.{Answer}
use Rattle.model.specs.declared.Answer.TheVariants as answer
use Rattle.tool.specs.Listing.{listing}
use Rattle.tool.specs.Response.{read_call, response_of}
use Rattle.tool.proofs.Bounds.{listing_bounded}
use Rattle.firmware.specs.Controller.{reply_of}
use Rattle.firmware.specs.Exported.{FromStep}
use Rattle.firmware.specs.Packet.{parts_of}
use Rattle.firmware.specs.declared.packet.Parts.{Parts}
use Rattle.firmware.specs.declared.Reply.{Reply}
use Rattle.firmware.proofs.Exported.{exports_follow}
use Rattle.claims.specs.OneCheck.{BothEnds, Ready, Answers, outcome_at, response_at, listing_at}
use Rattle.claims.specs.ExportedOneCheck.{ExportedAnswers, listed_text, ExportedRefusedAlike, ExportedTestedThere, ExportedOneCheck}
use Rattle.claims.proofs.CheckedOnce.{one_check}
use Rattle.claims.proofs.ExportedCalls.{shown}

-- the refusal of a number from 2 to 6
of_number : (number : ℕ) → 2 ≤ number → number ≤ 6 → (refusal : Refusal) × (number_of refusal ≡ number)
of_number zero large small = absurd (omega (arith, large))
of_number (suc zero) large small = absurd (omega (arith, large))
of_number (suc (suc zero)) large small = (WrongLength, refl)
of_number (suc (suc (suc zero))) large small = (WrongMark, refl)
of_number (suc (suc (suc (suc zero)))) large small = (WrongChecksum, refl)
of_number (suc (suc (suc (suc (suc zero))))) large small = (WrongHeader, refl)
of_number (suc (suc (suc (suc (suc (suc zero)))))) large small = (WrongPasswordSize, refl)
of_number (suc (suc (suc (suc (suc (suc (suc more))))))) large small = absurd (omega (arith, small))

-- an answer has the number of a refusal exactly when it is refused so
result_number : {A : Type 0} (a : Result A Refusal) (refusal : Refusal) → (number_in a ≡ number_of refusal) ↔ (a ≡ Err refusal)
result_number {A} a refusal = (by_number a, ap number_in)
  where
    by_number : (a : Result A Refusal) → number_in a ≡ number_of refusal → a ≡ Err refusal
    by_number (Ok answer) e = absurd (omega (arith, numbers_above_zero refusal))
    by_number (Err other) e = ap Err (numbers_distinct other refusal e)

answer_number : (a : Answer) (refusal : Refusal) → ((reply_of a).refusal ≡ number_of refusal) ↔ (a ≡ answer.Refused refusal)
answer_number a refusal = (by_number a, ap (λ (a : Answer). (reply_of a).refusal))
  where
    by_number : (a : Answer) → (reply_of a).refusal ≡ number_of refusal → a ≡ answer.Refused refusal
    by_number (answer.Refused other) e = ap answer.Refused (numbers_distinct other refusal e)
    by_number answer.Silence e = absurd (omega (arith, numbers_above_zero refusal))
    by_number (answer.Response length) e = absurd (omega (arith, numbers_above_zero refusal))

parts_number : (p : Result Places Refusal) → (parts_of p).refusal ≡ number_in p
parts_number (Ok places) = refl
parts_number (Err refusal) = refl

-- of two equal things one is a third exactly when the other is
along : {A : Type 0} {left right other : A} → left ≡ right → (left ≡ other) ↔ (right ≡ other)
along e = (λ k. sym e ∙ k, λ k. e ∙ k)

module _ (given : BothEnds) (ready : Ready given) (told : ExportedAnswers given) where
  follows : FromStep (call given.board given.packet given.buffer) told.next told.reply told.after
  follows = exports_follow.packet (call given.board given.packet given.buffer) told.next told.reply told.after told.replies

  answers : Answers given
  answers =
      record {
        parsed = parsed_of given.packet;
        parses = refl;
        stepped = follows.result;
        after = told.after;
        steps = follows.contract;
        response = response_of (read_call given.packet given.id given.password);
        reads = refl;
      }

  text_shown : listed_text told ≡ listing given.packet
  text_shown = (shown (listing given.packet) told.text told.lists (omega (arith, listing_bounded given.packet, told.long))).front

  -- the answers of the functions by their numbers
  module _ (refusal : Refusal) where
    parts_refused : (told.parts.refusal ≡ number_of refusal) ↔ (parsed_of given.packet ≡ Err refusal)
    parts_refused =
        Iff.trans (along (ap (λ (p : Parts). p.refusal) told.parses ∙ parts_number (parsed_of given.packet))) (result_number (parsed_of given.packet) refusal)

    reply_refused : (told.reply.refusal ≡ number_of refusal) ↔ (follows.result.answer ≡ answer.Refused refusal)
    reply_refused = Iff.trans (along (ap (λ (r : Reply). r.refusal) follows.answer)) (answer_number follows.result.answer refusal)

    read_refused : (told.number ≡ number_of refusal) ↔ (response_of (read_call given.packet given.id given.password) ≡ Err refusal)
    read_refused = Iff.trans (along told.reads) (result_number (response_of (read_call given.packet given.id given.password)) refusal)

  refused_alike : (refusal : Refusal) → 2 ≤ number_of refusal → number_of refusal ≤ 6 → ExportedRefusedAlike given told (number_of refusal)
  unfolding answers
  refused_alike refusal large small =
      let alike = (one_check given ready answers).refused refusal large small in
      let back = Iff.symm (parts_refused refusal) in
      record {
        board = Iff.trans (reply_refused refusal) (Iff.trans alike.board back);
        reader = Iff.trans (read_refused refusal) (Iff.trans alike.reader back);
        listed = Iff.trans (along text_shown) (Iff.trans alike.listed back);
      }

  numbers_alike : (number : ℕ) → 2 ≤ number → number ≤ 6 → ExportedRefusedAlike given told number
  numbers_alike number large small =
      let found = of_number number large small in
      subst (ExportedRefusedAlike given told) found.1 (refused_alike found.0 (omega (arith, found.1)) (omega (arith, found.1)))

  tested_there : ((number : ℕ) → 2 ≤ number → number ≤ 6 → told.parts.refusal ≡ number → ⊥) → ExportedTestedThere given told
  unfolding answers
  tested_there other =
      let tested = (one_check given ready answers).otherwise (λ refusal large small e. other (number_of refusal) large small ((parts_refused refusal).1 e)) in
      let parts : told.parts ≡ parts_of (Ok tested.places) = told.parses ∙ ap parts_of tested.found in
      let here : tested.places ≡ told.parts.places = ap (λ (p : Parts). p.places) (sym parts) in
      let outcome = tested.board ∙ ap (outcome_at given) here in
      record {
        found = ap (λ (p : Parts). p.refusal) parts;
        board = follows.board ∙ ap (λ (o : Outcome). o.board) outcome;
        reply = follows.answer ∙ ap (λ (o : Outcome). reply_of o.answer) outcome;
        buffer = ap (λ (o : Outcome). o.buffer) outcome;
        reader = told.reads ∙ ap number_in (tested.reader ∙ ap (response_at given) here);
        listed = text_shown ∙ tested.listed ∙ ap (listing_at given) here;
      }

pub exported_one_check : ExportedOneCheck
exported_one_check given ready told = record { refused = numbers_alike given ready told; otherwise = tested_there given ready told }
