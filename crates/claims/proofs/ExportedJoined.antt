-- Joining packets for the exported calls, from that for the functions under them: the proof of `ExportedPacketsJoin`.
use Prim.Native.Nat.{ℕ, ◌≤◌}
use native.Mathlib.Omega.{arith}
use mathlib.Core.List.{List, [], ◌∷◌, ◌++◌, append_assoc}
use mathlib.Core.Logic.{◌⊎◌, inl, inr}
use mathlib.Core.Path.{◌≡◌, refl, sym, ap, subst, ◌∙◌}
use lib.ListN.{take}
use Rattle.refusals.specs.Refusals.{number_of}
use Rattle.refusals.proofs.Distinct.{numbers_above_zero}
use Rattle.framing.proofs.Writing.{length_packet}
use Rattle.block.specs.Command.{Report}
use Rattle.model.specs.Refusals.{Silent, Responds}
use Rattle.model.specs.Step.{Call, call, request, response, step}
use Rattle.model.specs.declared.Answer.{Answer}
use Rattle.model.specs.declared.Answer.TheVariants.{Refused, Silence, Response}
use Rattle.model.proofs.Refused.{none_refused, none_answered}
use Rattle.tool.specs.Listing.{report_line, report_lines, header}
use Rattle.tool.specs.Request.{write_refusal, written_as}
use Rattle.tool.specs.Response.{reports_of}
use Rattle.firmware.specs.Client.{written_reply}
use Rattle.firmware.specs.Controller.{reply_of}
use Rattle.firmware.specs.Exported.{FromStep}
use Rattle.firmware.specs.Reply.{reply_with}
use Rattle.firmware.specs.declared.Reply.{Reply}
use Rattle.firmware.proofs.Exported.{exports_follow}
use Rattle.claims.specs.ExportedAgreement.{Shown}
use Rattle.claims.specs.ExportedJoining.{PacketCalled, Reported, RepliesReported, Listed, ExportedPacketsJoin}
use Rattle.claims.specs.Joining.{PacketMade, Accepted, Told, AnswersJoin, WrittenJoins}
use Rattle.claims.proofs.ExportedCalls.{responded, exported_responses_agree}
use Rattle.claims.proofs.Joined.{told_once, answers_told, contracts_join}

lines_join : (reports more : List Report) → report_lines (reports ++ more) ≡ report_lines reports ++ report_lines more
unfolding report_lines
lines_join [] more = refl
lines_join (report ∷ reports) more = ap (λ (lines : List ℕ). report_line report ++ lines) (lines_join reports more) ∙ simp append_assoc

-- an exported call as one of `packet`
module _ {c : Call} (called : PacketCalled c) where
  follows : FromStep c called.next called.reply called.after
  follows = exports_follow.packet c called.next called.reply called.after called.contract

  abbrev made : PacketMade c
  made = record { result = follows.result; after = called.after; contract = follows.contract }

  length_as : {answer : Answer} → follows.result.answer ≡ answer → called.reply.length ≡ (reply_of answer).length
  length_as e = ap (λ (r : Reply). r.length) (follows.answer ∙ ap reply_of e)

  -- refusal 0 is no refusal
  taken : called.reply.refusal ≡ 0 → Accepted follows.result.answer
  taken zero refusal e =
      let same : number_of refusal ≡ 0 = sym (ap (λ (r : Reply). r.refusal) (follows.answer ∙ ap reply_of e)) ∙ zero in
      omega (arith, numbers_above_zero refusal)

  -- a response has a length
  long : {size : ℕ} → follows.result.answer ≡ Response size → 1 ≤ size
  long {size} e = by_answer (none_answered c (none_refused c (λ refusal k. cc (told, k))))
    where
      told : (step c).answer ≡ Response size
      told = sym follows.contract.answer ∙ e

      by_answer : Silent c ⊎ Responds c → 1 ≤ size
      by_answer (inl silent) = absurd (cc (told, silent.answer))
      by_answer (inr responds) =
          let whole : size ≡ responds.size = cc (told, responds.answer) in
          omega (arith, responds.exact, length_packet (response (request c)))

  tells : {reports : List Report} → Reported called reports → Told made reports
  tells found =
      record {
        silence = λ e. found.silence (length_as e);
        response = λ size e.
            ap (λ (n : ℕ). reports_of (take n called.after)) (sym (length_as e)) ∙ found.response (omega (arith, long e, length_as e));
      }

  module _ (zero : called.reply.refusal ≡ 0) {reports : List Report} (told : Told made reports) where
    reported : Reported called reports
    reported =
        record {
          silence = by_answer follows.result.answer refl;
          response = λ some_long. told.response called.reply.length (responded follows.result.answer follows.answer some_long);
        }
      where
        by_answer : (answer : Answer) → follows.result.answer ≡ answer → called.reply.length ≡ 0 → reports ≡ []
        by_answer (Refused refusal) e none_long = absurd (taken zero refusal e)
        by_answer Silence e none_long = told.silence e
        by_answer (Response size) e none_long = absurd (omega (arith, long e, length_as e))

    listed : Listed called (report_lines reports)
    listed some_long reply text shown lists room =
        subst (λ (lines : List ℕ). Shown (header ++ lines) reply text shown) (ap report_lines (sym (told_once made (taken zero) reports told)))
        ((exported_responses_agree c called.next called.reply called.after called.contract some_long).listed reply text shown lists room)

pub replies_reported : RepliesReported
replies_reported c called zero = let told = answers_told c (made called) in (told.0, reported called zero told.1)

pub exported_packets_join : ExportedPacketsJoin
exported_packets_join first second earlier later one two turn zero zero_too reports more found found_too fit given asks reply written writes =
    let joined : WrittenJoins first.board (made two) (earlier ++ later) (reports ++ more) (written_as (write_refusal given) given) written =
    contracts_join first second earlier later (made one) (made two)
    (record { one = turn.one; two = turn.two; next = turn.next ∙ (follows one).board })
    (taken one zero) (taken two zero_too) reports more (tells one found) (tells two found_too) fit given asks (written_as (write_refusal given) given) written
    (record { answered = refl; held = writes.held }) in
    let told : reply ≡ reply_with 0 joined.size = writes.answered ∙ ap written_reply joined.taken in
    record {
      taken = ap (λ (r : Reply). r.refusal) told;
      joins = λ buffer room both.
          let joins : AnswersJoin (made two) (made both) (earlier ++ later) (reports ++ more) =
          subst (λ (size : ℕ). (both : PacketMade (call first.board (take size written) buffer)) → AnswersJoin (made two) both (earlier ++ later) (reports ++ more))
          (ap (λ (r : Reply). r.length) (sym told)) (joined.joins buffer room) (made both) in
          let zero_again : both.reply.refusal ≡ 0 =
          ap (λ (r : Reply). r.refusal) (follows both).answer ∙ not_refused (follows both).result.answer joins.accepted in
          record {
            own = joins.own;
            accepted = zero_again;
            board = (follows both).board ∙ joins.board ∙ sym (follows two).board;
            reported = reported both zero_again joins.told;
            first_listed = listed one zero (tells one found);
            second_listed = listed two zero_too (tells two found_too);
            both_listed = subst (Listed both) (lines_join reports more) (listed both zero_again joins.told);
          };
    }
  where
    not_refused : (answer : Answer) → Accepted answer → (reply_of answer).refusal ≡ 0
    not_refused (Refused refusal) accepted = absurd (accepted refusal refl)
    not_refused Silence accepted = refl
    not_refused (Response size) accepted = refl
