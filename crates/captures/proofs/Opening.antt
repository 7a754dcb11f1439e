-- What the answer of `open` tells of a capture.
use Rattle.std.proofs.Common.{◌≡◌, ℕ, List, Ok, Err, refl, sym, ap, ◌∙◌, drop}
use Rattle.std.proofs.Math.Option.{Option, none, some}
use Rattle.refusals.specs.declared.Refusal.{Refusal}
use Rattle.captures.specs.Reading.{version_of, head_refusal, read, reading_of, records_of, records_as, records_in, head_as, opened_as, opened_of}
use Rattle.captures.specs.declared.reading.Head.{Head}

module _ (capture : List ℕ) where
  refused_by : (refused : Option Refusal) {refusal : Refusal} → opened_as (version_of capture) refused capture ≡ Err refusal → refused ≡ some refusal
  refused_by none e = cc
  refused_by (some first) e = cc

  pub head_refused : {refusal : Refusal} → opened_of capture ≡ Err refusal → head_refusal capture ≡ some refusal
  head_refused = refused_by (head_refusal capture)

  pub record Accepted (head : Head) : Type 0 where
    pub accepted : head_refusal capture ≡ none
    pub told : head ≡ head_as (version_of capture) capture

  accepted_by :
      (refused : Option Refusal) → head_refusal capture ≡ refused → {head : Head} → opened_as (version_of capture) refused capture ≡ Ok head
      → Accepted head
  accepted_by none h e = record { accepted = h; told = cc }
  accepted_by (some first) h e = record { accepted = cc; told = cc }

  module _ {head : Head} (e : opened_of capture ≡ Ok head) where
    pub accepted_as : Accepted head
    accepted_as = accepted_by (head_refusal capture) refl e

    -- the records that stand there are those of the capture
    pub reading_same : read head.version head.boards (drop head.records capture) ≡ reading_of capture
    reading_same = ap (λ (h : Head). read h.version h.boards (drop h.records capture)) accepted_as.told

    pub records_same : records_in capture ≡ records_of (read head.version head.boards (drop head.records capture))
    records_same = ap (λ (o : Option Refusal). records_as (version_of capture) o capture) accepted_as.accepted ∙ ap records_of (sym reading_same)
