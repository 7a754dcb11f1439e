-- What becomes of a capture, by the answers of `open` and `fit`.
use Rattle.std.proofs.Common.{◌≡◌, ℕ, ◌+◌, ◌*◌, ◌<◌, ◌≤◌, Bool, true, false, cond, List, [], ◌∷◌, map, None, Some, Ok, Err, refl, sym, ap, ◌∙◌, length, take, drop, arith, length-append}
use Rattle.std.proofs.Math.Option.{none, some}
use mathlib.Core.Option.{or_else}
use borrow.Author.Tests.{lt-ltb, le-ltb, ltb-true, ltb-false}
use lib.Dec.{ltb}
use Rattle.octets.specs.Octets.{overwrite}
use Rattle.refusals.specs.declared.Refusal.{Refusal}
use Rattle.refusals.specs.declared.Refusal.TheVariants.{NoSpace}
use Rattle.framing.specs.Refusal.{rule, rule_of, first_refusal}
use Rattle.framing.proofs.Refusals.{first_of_joined, first_of_part, refused_then, passed_then}
use Rattle.captures.specs.Form.{newest, ids_at, head_bytes, capture_bytes}
use Rattle.captures.specs.Reading.{Reading, read, wrong_record, reading_of, head_refusals, head_refusal, ids_in, opened_of}
use Rattle.captures.specs.Writing.{buffer_as, too_short}
use Rattle.captures.specs.declared.reading.Head.{Head}
use Rattle.captures.proofs.Lists.{length_head}
use Rattle.captures.proofs.Opening.{head_refused, accepted_as, reading_same, records_same}
use Rattle.captures.proofs.Rewriting.{ids_same}
use Rattle.rewriting.specs.Rewriting.{records_read, bytes_read, rewritten, RewriteCall, rewrite_call, capture_of, rewrite_refusals, rewrite_refusal, rewritten_as, Rewrites, fitted}
use Rattle.rewriting.specs.declared.Extent.{Extent}
use Rattle.rewriting.specs.declared.Extent.TheVariants as extent
use Rattle.rewriting.specs.declared.Rewritten.{Rewritten}
use Rattle.rewriting.specs.declared.Rewritten.TheVariants.{Whole, Part, Refused}

-- `NoSpace` is judged where the head is not refused
pub refusal_as : (call : RewriteCall) → rewrite_refusal call ≡ or_else (head_refusal call.capture) (cond (too_short call.buffer (rewritten call.capture)) (some NoSpace) none)
unfolding rewrite_refusal rewrite_refusals head_refusal first_refusal
refusal_as call =
    first_of_joined call (map (rule_of capture_of) head_refusals) (rule NoSpace (λ (c : RewriteCall). too_short c.buffer (rewritten c.capture)) ∷ [])
    ∙ ap (λ o. or_else o (cond (too_short call.buffer (rewritten call.capture)) (some NoSpace) none)) (first_of_part call capture_of head_refusals)

pub size_read : (ids : List ℕ) (reading : Reading) → length (bytes_read ids reading) ≡ ids_at newest + length ids + length (records_read reading)
size_read ids reading = omega (arith, length-append (head_bytes newest ids) (records_read reading), length_head newest ids)

-- what the answer of `fit` tells
module _ (room : ℕ) (reading : Reading) where
  pub fits_not : fitted room reading ≡ None → room < length (records_read reading)
  unfolding fitted
  fits_not e = by_test (ltb room (length (records_read reading))) refl e
    where
      by_test : (short : Bool) → ltb room (length (records_read reading)) ≡ short → cond short None (Some (cond (wrong_record reading) extent.Part extent.Whole)) ≡ None → room < length (records_read reading)
      by_test true s e = ltb-true room _ s
      by_test false s e = cc

  pub fits : {found : Extent} → fitted room reading ≡ Some found → (length (records_read reading) ≤ room) × (cond (wrong_record reading) extent.Part extent.Whole ≡ found)
  unfolding fitted
  fits {found} e = by_test (ltb room (length (records_read reading))) refl e
    where
      by_test :
          (short : Bool) → ltb room (length (records_read reading)) ≡ short → cond short None (Some (cond (wrong_record reading) extent.Part extent.Whole)) ≡ Some found
          → (length (records_read reading) ≤ room) × (cond (wrong_record reading) extent.Part extent.Whole ≡ found)
      by_test true s e = cc
      by_test false s e = (ltb-false room _ s, cc)

-- the answer where so much was rewritten
abbrev pub ended : Extent → ℕ → Rewritten
ended extent.Whole end = Whole end
ended extent.Part end = Part end

by_wrong : (wrong : Bool) (end : ℕ) → ended (cond wrong extent.Part extent.Whole) end ≡ cond wrong (Part end) (Whole end)
by_wrong true end = refl
by_wrong false end = refl

module _ (buffer capture : List ℕ) where
  pub head_refuses : {refusal : Refusal} → opened_of capture ≡ Err refusal → Rewrites (rewrite_call buffer capture) (Refused refusal) buffer
  head_refuses e =
      let refused = refusal_as (rewrite_call buffer capture) ∙ refused_then _ (head_refused capture e) in
      record { answered = rw refused; held = rw refused }

  -- by the IDs and the records that were taken from the capture
  module _
      {head : Head} (e : opened_of capture ≡ Ok head) {ids rest : List ℕ} (ids_taken : ids ≡ take (16 * head.boards) (drop head.ids capture))
      (rest_taken : rest ≡ drop head.records capture)
    where
      abbrev reading : Reading
      reading = read head.version head.boards rest

      ids_read : ids ≡ ids_in capture
      ids_read = ids_taken ∙ ids_same capture e

      reading_read : reading ≡ reading_of capture
      reading_read = ap (read head.version head.boards) rest_taken ∙ reading_same capture e

      bytes_same : rewritten capture ≡ bytes_read ids reading
      bytes_same =
          (λ i. capture_bytes newest (sym ids_read i) (records_same capture e i)) ∙ ap (λ (l : List ℕ). bytes_read ids (read head.version head.boards l)) (sym rest_taken)

      refused_by : (short : Bool) → ltb (length buffer) (length (bytes_read ids reading)) ≡ short → rewrite_refusal (rewrite_call buffer capture) ≡ cond short (some NoSpace) none
      refused_by short h =
          refusal_as (rewrite_call buffer capture)
          ∙ passed_then _ (accepted_as capture e).accepted
          ∙ ap (λ (l : List ℕ). cond (too_short buffer l) (some NoSpace) none) bytes_same
          ∙ ap (λ (t : Bool). cond t (some NoSpace) none) h

      pub no_space : length buffer < ids_at newest + length ids + length (records_read reading) → Rewrites (rewrite_call buffer capture) (Refused NoSpace) buffer
      no_space h =
          let refused = refused_by true (lt-ltb (length buffer) (length (bytes_read ids reading)) (omega (arith, size_read ids reading))) in
          record { answered = rw refused; held = rw refused }

      pub all_put :
          {found : Extent} {end : ℕ} {after : List ℕ} → cond (wrong_record reading) extent.Part extent.Whole ≡ found
          → ids_at newest + length ids + length (records_read reading) ≤ length buffer → end ≡ length (bytes_read ids reading) → after ≡ overwrite buffer 0 (bytes_read ids reading)
          → Rewrites (rewrite_call buffer capture) (ended found end) after
      all_put {end} told inside ends stored =
          let accepted = refused_by false (le-ltb (length buffer) (length (bytes_read ids reading)) (omega (arith, size_read ids reading))) in
          let size : end ≡ length (rewritten capture) = ends ∙ ap length (sym bytes_same) in
          record {
            answered =
                ap (λ (f : Extent). ended f end) (sym told)
                ∙ by_wrong (wrong_record reading) end
                ∙ (λ i. cond (wrong_record (reading_read i)) (Part (size i)) (Whole (size i)))
                ∙ ap (λ o. rewritten_as o capture) (sym accepted);
            held =
                stored ∙ ap (overwrite buffer 0) (sym bytes_same) ∙ ap (λ o. buffer_as o buffer (rewritten capture)) (sym accepted);
          }
