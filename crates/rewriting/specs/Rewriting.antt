-- Rewriting a capture in the newest version: the bytes, or the refusal.
use Rattle.std.specs.Prelude.{ℕ, cond, List, [], ◌∷◌, ◌++◌, Option as OptionInCode, None, Some, map, ◌≡◌, ltb, length}
use Rattle.std.proofs.Math.Option.{Option, none, some}
use Rattle.framing.specs.Refusal.{Rule, rule, rule_of, first_refusal}
use Rattle.refusals.specs.Refusals.{number_of}
use Rattle.refusals.specs.declared.Refusal.{Refusal}
use Rattle.refusals.specs.declared.Refusal.TheVariants.{NoSpace, WrongRecord}
use Rattle.captures.specs.Form.{newest, records_bytes, head_bytes, capture_bytes}
use Rattle.captures.specs.Reading.{Reading, read, reading_of, records_of, wrong_record, head_refusals, ids_in, records_in}
use Rattle.captures.specs.Writing.{buffer_as, too_short}
use Rattle.rewriting.specs.declared.Extent.{Extent}
use Rattle.rewriting.specs.declared.Extent.TheVariants as extent
use Rattle.rewriting.specs.declared.Records.{Records}
use Rattle.rewriting.specs.declared.Rewritten.{Rewritten}
use Rattle.rewriting.specs.declared.Rewritten.TheVariants.{Whole, Part, Refused}

-- the bytes of the records that were read, and of a capture of them
abbrev pub records_read : Reading → List ℕ
records_read reading = records_bytes newest (records_of reading)

abbrev pub bytes_read : List ℕ → Reading → List ℕ
bytes_read ids reading = head_bytes newest ids ++ records_read reading

-- what is read of the records that a capture holds
abbrev pub reading_given : Records → Reading
reading_given r = read r.version r.boards r.bytes.now

-- a capture as it is rewritten
abbrev pub rewritten : List ℕ → List ℕ
rewritten capture = capture_bytes newest (ids_in capture) (records_in capture)

-- what a call of `rewrite` is given
pub record RewriteCall : Type 0 where
  pub buffer : List ℕ
  pub capture : List ℕ

abbrev pub rewrite_call : List ℕ → List ℕ → RewriteCall
rewrite_call buffer capture = record { buffer = buffer; capture = capture }

abbrev pub capture_of : RewriteCall → List ℕ
capture_of call = call.capture

-- those of the head, then `NoSpace`
unfoldable pub rewrite_refusals : List (Rule RewriteCall)
rewrite_refusals =
    map (rule_of capture_of) head_refusals ++ rule NoSpace (λ (call : RewriteCall). too_short call.buffer (rewritten call.capture)) ∷ []

unfoldable pub rewrite_refusal : RewriteCall → Option Refusal
rewrite_refusal call = first_refusal rewrite_refusals call

-- the answer: the length of the bytes of all of the capture, or of a part where `WrongRecord` refuses it, or the refusal
abbrev pub rewritten_as : Option Refusal → List ℕ → Rewritten
rewritten_as none capture = cond (wrong_record (reading_of capture)) (Part (length (rewritten capture))) (Whole (length (rewritten capture)))
rewritten_as (some refusal) capture = Refused refusal

-- the refusal that an answer tells of, if any
abbrev pub rewritten_refusal : Rewritten → Option Refusal
rewritten_refusal (Whole length) = none
rewritten_refusal (Part length) = some WrongRecord
rewritten_refusal (Refused refusal) = some refusal

abbrev pub number_told : Option Refusal → ℕ
number_told none = 0
number_told (some refusal) = number_of refusal

abbrev pub rewritten_number : Rewritten → ℕ
rewritten_number answer = number_told (rewritten_refusal answer)

-- the contract of `rewrite`
pub record Rewrites (call : RewriteCall) (answer : Rewritten) (after : List ℕ) : Type 0 where
  pub answered : answer ≡ rewritten_as (rewrite_refusal call) call.capture
  pub held : after ≡ buffer_as (rewrite_refusal call) call.buffer (rewritten call.capture)

-- how much of a capture was read, where that has room
unfoldable pub fitted : ℕ → Reading → OptionInCode Extent
fitted room reading = cond (ltb room (length (records_read reading))) None (Some (cond (wrong_record reading) extent.Part extent.Whole))
