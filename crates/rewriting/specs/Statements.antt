-- What holds of rewriting, beside the contract.
use Rattle.std.specs.Prelude.{ℕ, ◌≤◌, false, List, ◌++◌, ◌≡◌, length, take}
use Rattle.std.proofs.Math.Option.{none}
use Rattle.captures.specs.Form.{newest}
use Rattle.captures.specs.Numbers.{Bytes}
use Rattle.captures.specs.Reading.{version_of, board_count, reading_of, head_refusal, capture_refusal, ids_in, records_in}
use Rattle.captures.specs.Statements.{resumed_by, joined, longest_head}
use Rattle.captures.specs.Writing.{too_short}
use Rattle.rewriting.specs.Rewriting.{bytes_read, rewritten, RewriteCall, rewrite_refusal, rewritten_as, rewritten_refusal, Rewrites}
use Rattle.rewriting.specs.declared.Rewritten.{Rewritten}

-- what a call leaves in its buffer is read back: the IDs and the records of the capture
pub record Holds (call : RewriteCall) (after : List ℕ) : Type 0 where
  pub stands : take (length (rewritten call.capture)) after ≡ rewritten call.capture
  pub accepted : capture_refusal (rewritten call.capture) ≡ none
  pub version_new : version_of (rewritten call.capture) ≡ newest
  pub ids_kept : ids_in (rewritten call.capture) ≡ ids_in call.capture
  pub records_kept : records_in (rewritten call.capture) ≡ records_in call.capture

abbrev pub RewriteKeeps : Type 0
RewriteKeeps =
    (call : RewriteCall) (answer : Rewritten) (after : List ℕ) → Bytes call.capture → rewrite_refusal call ≡ none → Rewrites call answer after
    → Holds call after

-- a refusal of the capture is told, `WrongRecord` too, where the buffer is long enough
abbrev pub RewriteTells : Type 0
RewriteTells =
    (call : RewriteCall) → too_short call.buffer (rewritten call.capture) ≡ false
    → rewritten_refusal (rewritten_as (rewrite_refusal call) call.capture) ≡ capture_refusal call.capture

-- however a capture is cut into pieces, of which the first has its head: the head of its IDs, and the records as they are read in turn
abbrev pub PiecesRewritten : Type 0
PiecesRewritten =
    (front : List ℕ) (pieces : List (List ℕ)) → longest_head ≤ length front → head_refusal front ≡ none
    → rewritten (front ++ joined pieces)
    ≡ bytes_read (ids_in front) (resumed_by (version_of front) (board_count (version_of front) front) (reading_of front) pieces)
