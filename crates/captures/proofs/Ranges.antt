-- The records that are read are in their ranges.
use Prim.Native.Nat.{ℕ, ◌*◌, ◌<◌, ◌≤◌}
use native.Mathlib.Omega.{arith}
use mathlib.Core.Bool.{true}
use mathlib.Core.List.{List, ◌∷◌}
use mathlib.Core.Option.{Option, none, some}
use mathlib.Core.Path.{◌≡◌, refl}
use borrow.Author.Tests.{ltb-true, leb-true}
use lib.Dec.{leb}
use lib.ListN.{length, take, drop, length-take, length-drop}
use lib.Seq.{length-take-le}
use Rattle.octets.proofs.Booleans.{both_true}
use Rattle.refusals.specs.declared.Refusal.{Refusal}
use Rattle.captures.specs.Form.{ids_at, packet_at, boards_of, fields_in_range}
use Rattle.captures.specs.Reading.{version_of, board_count, records_at, index_in, direction_in, size_in, Reading, read, records_of, head_refusal, ids_as, records_as}
use Rattle.captures.specs.Statements.{Within, RecordsWithin}
use Rattle.captures.specs.declared.Version.{Version}
use Rattle.captures.proofs.Readings.{of_readings}
use Rattle.captures.proofs.Pieces.{inside}

-- what fields in range are
pub record Ranges (boards index direction size : ℕ) : Type 0 where
  pub board : index < boards
  pub way : direction ≤ 1
  pub long : size ≤ 256

pub ranges : (boards index direction size : ℕ) → fields_in_range boards index direction size ≡ true → Ranges boards index direction size
ranges boards index direction size h =
    let all = both_true _ (leb size 256) h in
    let two = both_true _ (leb direction 1) all.0 in
    record { board = ltb-true _ _ two.0; way = leb-true _ _ two.1; long = leb-true size 256 all.1 }

within : (version : Version) (boards : ℕ) (bytes : List ℕ) → Within boards (records_of (read version boards bytes))
unfolding records_of Within
within version boards bytes =
    of_readings (λ (l : List ℕ) (r : Reading). Within boards (records_of r))
    (record {
      none_left = tt;
      passed_over = λ b s r h. h;
      head_cut = λ l few. tt;
      out_of_range = λ l. tt;
      packet_cut = λ l right few. tt;
      whole = λ b s r right h.
          let found = ranges boards (index_in version (b ∷ s)) (direction_in version (b ∷ s)) (size_in version (b ∷ s)) right in
          (found.board, found.way, omega (arith, found.long, length-take (size_in version (b ∷ s)) (drop (packet_at version) (b ∷ s))), h);
    })
    bytes 0

by_head : (capture : List ℕ) (refused : Option Refusal) → head_refusal capture ≡ refused → Within (boards_of (ids_as (version_of capture) refused capture)) (records_as (version_of capture) refused capture)
unfolding Within
by_head capture (some refusal) e = tt
by_head capture none e =
    let version = version_of capture in
    let long : 16 * board_count version capture ≤ length (drop (ids_at version) capture) = simp length-drop (omega (arith, inside capture e)) in
    let boards : boards_of (take (16 * board_count version capture) (drop (ids_at version) capture)) ≡ board_count version capture =
    omega (arith, length-take-le (16 * board_count version capture) (drop (ids_at version) capture) long) in
    rw boards (within version (board_count version capture) (drop (records_at version capture) capture))

pub records_within : RecordsWithin
records_within capture = by_head capture (head_refusal capture) refl
