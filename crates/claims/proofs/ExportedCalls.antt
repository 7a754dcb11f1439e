-- The agreement for the exported calls, from that for the functions after them.
use Prim.Native.Nat.{ℕ, ◌+◌, ◌≤◌}
use native.Mathlib.Omega.{arith}
use mathlib.Core.Bool.{Bool, true, cond}
use mathlib.Core.List.{List, ◌++◌}
use mathlib.Core.Option.{Option, none, some}
use mathlib.Core.Path.{◌≡◌, refl, sym, ap, subst, ◌∙◌}
use borrow.Author.Tests.{le-leb}
use lib.ListN.{length, take, drop}
use lib.Seq.{take_at, drop_at}
use Rattle.std.specs.Prelude.{Some, None, Ok}
use Rattle.octets.specs.Octets.{overwrite, fits}
use Rattle.refusals.specs.Refusals.{number_of, number_in}
use Rattle.refusals.specs.declared.Refusal.{Refusal}
use Rattle.refusals.proofs.Distinct.{numbers_above_zero}
use Rattle.model.specs.Step.{Request}
use Rattle.model.specs.declared.Answer.{Answer}
use Rattle.model.specs.declared.Answer.TheVariants as answer
use Rattle.tool.specs.Listing.{listing}
use Rattle.tool.specs.Request.{WriteCall, write_refusal, written_as, Writes}
use Rattle.tool.proofs.Bounds.{listing_bounded}
use Rattle.firmware.specs.Client.{written_reply, listed_reply, WritesInNumbers, ListsInNumbers}
use Rattle.firmware.specs.Controller.{reply_of}
use Rattle.firmware.specs.Reply.{reply_with}
use Rattle.firmware.specs.declared.Reply.{Reply}
use Rattle.firmware.proofs.Exported.{exports_follow}
use Rattle.claims.specs.Agreement.{ResponseRead}
use Rattle.claims.specs.ExportedAgreement.{ExportedRequestsAgree, Shown, ResponseTold, ExportedResponsesAgree, ExportedExchangesAgree}
use Rattle.claims.proofs.Exchanges.{exchanges_agree}
use Rattle.claims.proofs.RequestsRead.{requests_agree}
use Rattle.claims.proofs.ResponsesRead.{responses_agree}

-- refusal 0 is a packet written
written : (given : WriteCall) {reply : Reply} {after : List ℕ} → WritesInNumbers given reply after → reply.refusal ≡ 0 → Writes given (Ok reply.length) after
written given {reply} {after} contract zero =
    record { answered = by_refusal (write_refusal given) refl contract.answered; held = contract.held }
  where
    by_refusal : (o : Option Refusal) → write_refusal given ≡ o → reply ≡ written_reply (written_as o given) → Ok reply.length ≡ written_as o given
    by_refusal none e told = ap (λ (r : Reply). Ok r.length) told
    by_refusal (some refusal) e told =
        let same : number_of refusal ≡ 0 = sym (ap (λ (r : Reply). r.refusal) told) ∙ zero in
        absurd (omega (arith, numbers_above_zero refusal))

pub exported_requests_agree : ExportedRequestsAgree
exported_requests_agree given reply after contract zero board buffer =
    requests_agree given (Ok reply.length) after reply.length (written given contract zero) refl board buffer

-- a reply with a length is a response
pub responded : (a : Answer) {reply : Reply} → reply ≡ reply_of a → 1 ≤ reply.length → a ≡ answer.Response reply.length
responded (answer.Refused refusal) e long = absurd (omega (arith, ap (λ (r : Reply). r.length) e))
responded answer.Silence e long = absurd (omega (arith, ap (λ (r : Reply). r.length) e))
responded (answer.Response size) e long = ap (λ (r : Reply). answer.Response r.length) (sym e)

-- what fits is shown
pub shown : (text buffer : List ℕ) {reply : Reply} {after : List ℕ} → ListsInNumbers text buffer reply after → length text ≤ length buffer → Shown text reply buffer after
shown text buffer {reply} {after} contract short =
    let room : fits buffer 0 text ≡ true = le-leb (0 + length text) (length buffer) (omega arith) in
    let told : reply ≡ reply_with 0 (length text) =
    contract.answered ∙ ap (λ (b : Bool). listed_reply (cond b (Some (length text)) None)) room in
    let held : after ≡ text ++ drop (0 + length text) buffer = contract.held ∙ ap (λ (b : Bool). cond b (overwrite buffer 0 text) buffer) room in
    let size : reply.length ≡ length text = ap (λ (r : Reply). r.length) told in
    let remaining : 0 + length text ≡ reply.length = omega arith in
    record {
      accepted = ap (λ (r : Reply). r.refusal) told;
      front = (λ i. take (size i) (held i)) ∙ take_at text _ (length text) refl;
      rest = (λ i. drop (size i) (held i)) ∙ drop_at text _ (length text) refl ∙ ap (λ (n : ℕ). drop n buffer) remaining;
    }

in_numbers : {r : Request} {packet : List ℕ} → ResponseRead r packet → ResponseTold r packet
in_numbers {r} {packet} read =
    record {
      accepted = λ of_discovery number e. e ∙ ap number_in (read.accepted of_discovery);
      listed = λ reply buffer after contract long.
          subst (λ (text : List ℕ). Shown text reply buffer after) read.listed
          (shown (listing packet) buffer contract (omega (arith, listing_bounded packet)));
    }

pub exported_responses_agree : ExportedResponsesAgree
exported_responses_agree c next reply after contract long =
    let follows = exports_follow.packet c next reply after contract in
    in_numbers
    (responses_agree c follows.result after reply.length follows.contract (responded follows.result.answer follows.answer long))

pub exported_exchanges_agree : ExportedExchangesAgree
exported_exchanges_agree given reply after contract zero board next buffer held back contract' long =
    let follows = exports_follow.packet _ next back held contract' in
    in_numbers
    (exchanges_agree given (Ok reply.length) after reply.length (written given contract zero) refl board buffer follows.result held back.length
    follows.contract (responded follows.result.answer follows.answer long)).1
