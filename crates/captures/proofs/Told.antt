-- The refusal of a capture is told by the answers of `open` and `next_record`.
use Rattle.std.proofs.Common.{◌≡◌, ℕ, Bool, true, false, cond, List, [], ◌∷◌, refl, ap, ◌∙◌, length}
use mathlib.Core.Option.{Option, none, some, or_else}
use lib.Dec.{eqb}
use Rattle.refusals.specs.declared.Refusal.{Refusal}
use Rattle.refusals.specs.declared.Refusal.TheVariants.{WrongRecord}
use Rattle.framing.specs.Refusal.{rule, first_refusal}
use Rattle.framing.proofs.Refusals.{first_of_joined}
use Rattle.captures.specs.Reading.{Reading, read, wrong_record, version_of, read_in, reading_of, head_refusals, head_refusal, capture_refusals, capture_refusal, opened_as, next_record}
use Rattle.captures.specs.Statements.{read_after, records_refusal, refusal_after, refusal_told, RefusalsTold}
use Rattle.captures.specs.declared.reading.NextRecord.{NextRecord}
use Rattle.captures.specs.declared.reading.NextRecord.TheVariants as next
use Rattle.captures.specs.declared.Version.{Version}
use Rattle.captures.proofs.Records.{read_step}

-- `WrongRecord` is judged where the head is not refused
pub refusal_then : (capture : List ℕ) → capture_refusal capture ≡ or_else (head_refusal capture) (cond (wrong_record (reading_of capture)) (some WrongRecord) none)
unfolding capture_refusal capture_refusals head_refusal first_refusal
refusal_then capture = first_of_joined capture head_refusals (rule WrongRecord (λ (c : List ℕ). wrong_record (reading_of c)) ∷ [])

head_by :
    (version : Version) (capture : List ℕ) (refused : Option Refusal)
    → or_else refused (cond (wrong_record (read_in version capture)) (some WrongRecord) none) ≡ refusal_told capture (opened_as version refused capture)
unfolding or_else
head_by version capture (some refusal) = refl
head_by version capture none = refl

module _ (version : Version) (boards : ℕ) (bytes : List ℕ) where
  -- the start of a record is a byte at the least
  cut_by : (empty : Bool) → eqb (length bytes) 0 ≡ empty → next_record version boards bytes ≡ next.Cut → eqb (length bytes) 0 ≡ false
  cut_by false e cut = e
  cut_by true e cut = let never : next.End ≡ next.Cut = rw e at cut in cc

  pub cut_some : next_record version boards bytes ≡ next.Cut → eqb (length bytes) 0 ≡ false
  cut_some = cut_by (eqb (length bytes) 0) refl

  record_by :
      (found : NextRecord) → (found ≡ next.Cut → eqb (length bytes) 0 ≡ false)
      → cond (wrong_record (read_after (read version boards) bytes found)) (some WrongRecord) none ≡ refusal_after (records_refusal version boards) bytes found
  unfolding wrong_record
  record_by next.End some_left = refl
  record_by next.Cut some_left = rw (some_left refl)
  record_by next.Wrong some_left = refl
  record_by (next.Record index direction counter packet rest) some_left = refl

pub refusals_told : RefusalsTold
refusals_told =
    record {
      by_head = λ capture. refusal_then capture ∙ head_by (version_of capture) capture (head_refusal capture);
      by_record = λ version boards bytes.
          ap (λ (r : Reading). cond (wrong_record r) (some WrongRecord) none) (read_step version boards bytes)
          ∙ record_by version boards bytes (next_record version boards bytes) (cut_some version boards bytes);
    }
