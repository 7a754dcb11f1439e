-- Laws of each version, and what is known of the version of a capture.
use Prim.Native.Nat.{ℕ, ◌^◌, ◌<◌, ◌≤◌}
use native.Mathlib.Omega.{arith}
use mathlib.Core.Bool.{Bool, true, false, cond, not, ◌||◌}
use mathlib.Core.List.{List}
use mathlib.Core.Option.{Option, none, some, or_else}
use mathlib.Core.Path.{◌≡◌, refl, sym, ◌∙◌}
use Rattle.framing.specs.Refusal.{first_refusal}
use Rattle.refusals.specs.declared.Refusal.{Refusal}
use Rattle.refusals.specs.declared.Refusal.TheVariants.{CaptureMark, UnknownVersion, WrongRecord}
use Rattle.framing.proofs.Refusals.{first_of_joined}
use Rattle.captures.specs.Form.{newest, index_size, board_limit}
use Rattle.captures.specs.Reading.{is_version, version_of, wrong_mark, wrong_version, read_in, wrong_record, head_refusals, head_refusal, ids_as, records_as, opened_as}
use Rattle.captures.specs.Statements.{other, head_refusals_of, capture_refusals_of, ReadAs, VersionsApart}
use Rattle.captures.specs.declared.Version.{Version}
use Rattle.captures.specs.declared.Version.TheVariants.{One, Two}
use Rattle.captures.proofs.Told.{refusal_then}

pub record Sizes (version : Version) : Type 0 where
  pub some_bytes : 1 ≤ index_size version
  pub few_bytes : index_size version ≤ index_size newest
  pub few_boards : board_limit version ≤ board_limit newest
  pub counted : board_limit version < 256 ^ index_size version

pub sizes : (version : Version) → Sizes version
sizes One = record { some_bytes = omega arith; few_bytes = omega arith; few_boards = omega arith; counted = omega arith }
sizes Two = record { some_bytes = omega arith; few_bytes = omega arith; few_boards = omega arith; counted = omega arith }

-- the version of a capture that `UnknownVersion` does not refuse stands in it
pub version_stands : (capture : List ℕ) → wrong_version capture ≡ false → is_version (version_of capture) capture ≡ true
version_stands capture known = by_version (is_version One capture) (is_version Two capture) refl refl known
  where
    by_version :
        (one two : Bool) → is_version One capture ≡ one → is_version Two capture ≡ two → not (one || two) ≡ false → is_version (cond one One Two) capture ≡ true
    by_version true two e f h = e
    by_version false true e f h = f
    by_version false false e f h = cc

module _ (version : Version) (capture : List ℕ) (apart : is_version (other version) capture ≡ false) where
  abbrev alone : Option Refusal
  alone = first_refusal (head_refusals_of version) capture

  version_found : (v : Version) → is_version (other v) capture ≡ false → is_version v capture ≡ true → version_of capture ≡ v
  version_found One absent there = rw there
  version_found Two absent there = rw absent

  not_found : (v : Version) → is_version (other v) capture ≡ false → is_version v capture ≡ false → wrong_version capture ≡ true
  not_found One absent neither = rw (absent, neither)
  not_found Two absent neither = rw (absent, neither)

  found : (v : Version) → is_version v capture ≡ true → wrong_version capture ≡ false
  found One there = rw there
  found Two there = by_one (is_version One capture)
    where
      by_one : (one : Bool) → not (one || is_version Two capture) ≡ false
      by_one true = refl
      by_one false = rw there

  -- whatever is told by version and refusal of the head, and not by the version where there is a refusal
  module _ {A : Type 0} (told : Version → Option Refusal → A) (same_refused : (refusal : Refusal) → told (version_of capture) (some refusal) ≡ told version (some refusal)) where
    by_mark : (wrong : Bool) → told (version_of capture) (cond wrong (some CaptureMark) (some UnknownVersion)) ≡ told version (cond wrong (some CaptureMark) (some UnknownVersion))
    by_mark true = same_refused CaptureMark
    by_mark false = same_refused UnknownVersion

    by_found : (mine : Bool) → is_version version capture ≡ mine → told (version_of capture) (head_refusal capture) ≡ told version alone
    unfolding head_refusal head_refusals head_refusals_of first_refusal
    by_found true there = rw (found version there, there, version_found version apart there)
    by_found false absent = rw (not_found version apart absent, absent) (by_mark (wrong_mark capture))

    told_alike : told (version_of capture) (head_refusal capture) ≡ told version alone
    told_alike = by_found (is_version version capture) refl

  alone_then : first_refusal (capture_refusals_of version) capture ≡ or_else alone (cond (wrong_record (read_in version capture)) (some WrongRecord) none)
  unfolding capture_refusals_of first_refusal
  alone_then = first_of_joined capture (head_refusals_of version) _

  pub read_apart : ReadAs version capture
  unfolding or_else
  read_apart =
      record {
        opened_same = told_alike (λ v o. opened_as v o capture) (λ refusal. refl);
        ids_same = told_alike (λ v o. ids_as v o capture) (λ refusal. refl);
        records_same = told_alike (λ v o. records_as v o capture) (λ refusal. refl);
        refused_as =
            refusal_then capture
            ∙ told_alike (λ v o. or_else o (cond (wrong_record (read_in v capture)) (some WrongRecord) none)) (λ refusal. refl)
            ∙ sym alone_then;
      }

pub versions_apart : VersionsApart
versions_apart = read_apart
