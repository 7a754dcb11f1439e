-- What was rewritten holds what the capture held, its refusal is told, and it may be rewritten in pieces.
use Prim.Native.Nat.{ℕ, ◌+◌}
use mathlib.Core.Bool.{Bool, true, false, cond}
use mathlib.Core.List.{List, ◌++◌}
use mathlib.Core.Option.{Option, none, some, or_else}
use mathlib.Core.Path.{◌≡◌, refl, sym, ap, ◌∙◌}
use lib.ListN.{length, take, drop}
use lib.Seq.{take_at}
use Rattle.octets.specs.Octets.{overwrite}
use Rattle.refusals.specs.declared.Refusal.{Refusal}
use Rattle.refusals.specs.declared.Refusal.TheVariants.{NoSpace, WrongRecord}
use Rattle.framing.proofs.Refusals.{both_none}
use Rattle.captures.specs.Form.{newest, capture_bytes}
use Rattle.captures.specs.Reading.{version_of, reading_of, records_of, wrong_record, head_refusal, records_as}
use Rattle.captures.specs.Statements.{joined}
use Rattle.captures.specs.Writing.{buffer_as}
use Rattle.captures.proofs.Pieces.{head_front, ids_front, read_front}
use Rattle.captures.proofs.Rewriting.{rewrites_hold}
use Rattle.captures.proofs.Told.{refusal_then}
use Rattle.rewriting.specs.Rewriting.{rewritten, rewritten_as, rewritten_refusal}
use Rattle.rewriting.specs.Statements.{RewriteKeeps, RewriteTells, PiecesRewritten}
use Rattle.rewriting.specs.declared.Rewritten.TheVariants.{Whole, Part}
use Rattle.rewriting.proofs.Outcomes.{refusal_as}

first_put : (buffer bytes : List ℕ) → take (length bytes) (overwrite buffer 0 bytes) ≡ bytes
first_put buffer bytes = take_at bytes (drop (0 + length bytes) buffer) (length bytes) refl

pub rewrite_keeps : RewriteKeeps
rewrite_keeps call answer after small accepted done =
    let right = (both_none (head_refusal call.capture) _ (sym (refusal_as call) ∙ accepted)).0 in
    let back = rewrites_hold call.capture small right in
    let held = done.held ∙ ap (λ o. buffer_as o call.buffer (rewritten call.capture)) accepted in
    record {
      stands =
          ap (take (length (rewritten call.capture))) held
          ∙ first_put call.buffer (rewritten call.capture);
      accepted = back.accepted;
      version_new = back.version_back;
      ids_kept = back.ids_back;
      records_kept = back.records_back;
    }

told_by :
    (refused : Option Refusal) (capture : List ℕ)
    → rewritten_refusal (rewritten_as (or_else refused none) capture) ≡ or_else refused (cond (wrong_record (reading_of capture)) (some WrongRecord) none)
unfolding or_else
told_by (some refusal) capture = refl
told_by none capture = by_record (wrong_record (reading_of capture))
  where
    by_record : (wrong : Bool) → rewritten_refusal (cond wrong (Part (length (rewritten capture))) (Whole (length (rewritten capture)))) ≡ cond wrong (some WrongRecord) none
    by_record true = refl
    by_record false = refl

pub rewrite_tells : RewriteTells
rewrite_tells call roomy =
    ap (λ o. rewritten_refusal (rewritten_as o call.capture)) (refusal_as call ∙ ap (λ (short : Bool). or_else (head_refusal call.capture) (cond short (some NoSpace) none)) roomy)
    ∙ told_by (head_refusal call.capture) call.capture
    ∙ sym (refusal_then call.capture)

pub pieces_rewritten : PiecesRewritten
pieces_rewritten front pieces long right =
    let whole = front ++ joined pieces in
    let accepted = head_front front (joined pieces) long ∙ right in
    λ i.
    capture_bytes newest (ids_front front (joined pieces) long i)
    ((ap (λ o. records_as (version_of whole) o whole) accepted ∙ ap records_of (read_front front (joined pieces) long pieces refl right)) i)
