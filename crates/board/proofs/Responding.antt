-- What the code makes of a request, case by case.
use Prim.Native.Nat.{ℕ, ◌-◌}
use mathlib.Core.List.{List, ◌++◌}
use Rattle.std.specs.Prelude.{Result}
use mathlib.Core.Path.{◌≡◌, refl, sym, ap, ◌∙◌}
use lib.ListN.{length, replicate, take}
use lib.Seq.{take_at}
use Rattle.framing.specs.Frame.{Frame}
use Rattle.framing.specs.Refusal.{first_refusal}
use Rattle.refusals.specs.declared.Refusal.{Refusal}
use Rattle.board.specs.Answering.{Leaves, answered, answered_as, judged, request_to}
use Rattle.model.specs.Record.{password_of}
use Rattle.model.specs.Step.{Call, Outcome, Request, Steps, step, outcome_of, request_of, request_refusals}
use Rattle.model.specs.declared.Answer.{Answer}
use Rattle.model.specs.declared.Board.{Board}
use Rattle.model.specs.declared.Stepped.{Stepped}
use Rattle.commands.specs.declared.Scope.{Scope}

-- the outcome that a result and a buffer are, and its transport
pub leaves : {board : Board} {answer : Answer} {buffer : List ℕ} {result : Stepped} {after : List ℕ} {outcome : Outcome} → outcome ≡ outcome_of board answer buffer
    → result.board ≡ board → result.answer ≡ answer → after ≡ buffer → Leaves outcome result after
leaves e a b c =
    record {
      board = a ∙ ap (λ (o : Outcome). o.board) (sym e);
      answer = b ∙ ap (λ (o : Outcome). o.answer) (sym e);
      buffer = c ∙ ap (λ (o : Outcome). o.buffer) (sym e);
    }

pub leaves_as : {result : Stepped} {after : List ℕ} {left right : Outcome} → left ≡ right → Leaves right result after → Leaves left result after
leaves_as e d = leaves e d.board d.answer d.buffer

-- the password of a start record, and a judgement that knows only ID, password and mode
pub own_password : (password : List ℕ) → password ≡ take (length password) (password ++ replicate (8 - length password) 0)
own_password password = sym (take_at password _ _ refl)

pub judged_by_identity : (board : Board) (f : Frame) → judged (request_to board.id (password_of board) board.mode f) ≡ judged (request_of board f)
unfolding request_refusals first_refusal
judged_by_identity board f = rw (← own_password (password_of board))

-- a request by its judgement
pub answered_by : (r : Request) (buffer : List ℕ) {judgement : Result Scope Refusal} → judgement ≡ judged r → answered r buffer ≡ answered_as judgement r buffer
answered_by r buffer e = ap (λ (judgement : Result Scope Refusal). answered_as judgement r buffer) (sym e)

-- a contract of a packet, by its outcome
pub steps : {c : Call} {result : Stepped} {after : List ℕ} {outcome : Outcome} → step c ≡ outcome → Leaves outcome result after → Steps c result after
steps e d =
    record {
      board = d.board ∙ ap (λ (o : Outcome). o.board) (sym e);
      answer = d.answer ∙ ap (λ (o : Outcome). o.answer) (sym e);
      buffer = d.buffer ∙ ap (λ (o : Outcome). o.buffer) (sym e);
    }
