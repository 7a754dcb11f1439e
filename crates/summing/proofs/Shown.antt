-- Texts written into a buffer in two parts.
use Prim.Native.Nat.{ℕ, ◌+◌, ◌-◌, ◌≤◌}
use native.Mathlib.Omega.{arith}
use mathlib.Core.Bool.{Bool, true, false, cond}
use mathlib.Core.List.{List, ◌++◌}
use mathlib.Core.Path.{◌≡◌, refl, ap}
use borrow.Author.Tests.{leb-true, le-leb}
use lib.Dec.{leb}
use lib.ListN.{length, length-append}
use Rattle.std.specs.Prelude.{Option as OptionInCode, Some, None}
use Rattle.octets.specs.Octets.{Overwrites}
use Rattle.octets.proofs.Overwriting.{overwrites_after}
use Rattle.tool.specs.Listing.{Shows}
use Rattle.summing.specs.Text.{room_after, WritesLines}

left_by : (t : Bool) {answer : OptionInCode ℕ} (rest : ℕ) {left : ℕ} → answer ≡ cond t (Some rest) None → answer ≡ Some left → (t ≡ true) × (left ≡ rest)
left_by true rest e h = (refl, cc)
left_by false rest e h = ((cc), (cc))

-- what the room left tells of a text's length
module _ (space : ℕ) (text : List ℕ) {answer : OptionInCode ℕ} (e : answer ≡ room_after space text) where
  pub text_fits : {left : ℕ} → answer ≡ Some left → length text + left ≡ space
  text_fits h =
      let told = left_by (leb (length text) space) (space - length text) e h in
      omega (arith, told.1, leb-true (length text) space told.0)

module _ (buffer first second : List ℕ) where
  whole : length (first ++ second) ≡ length first + length second
  whole = length-append first second

  pub both_shown :
      {at size : ℕ} {between after : List ℕ} {answer : Bool} → length first + length second ≤ length buffer → WritesLines first buffer at between
      → Overwrites between at second answer after → size ≡ length second → Shows (first ++ second) buffer (Some (at + size)) after
  both_shown {at} {size} h lines last e =
      let in_room : leb (0 + length (first ++ second)) (length buffer) ≡ true = le-leb (0 + length (first ++ second)) (length buffer) (omega (arith, whole)) in
      let ends : at + size ≡ length (first ++ second) = omega (arith, whole, lines.ends) in
      record {
        answered = rw in_room (ap Some ends);
        held =
            rw in_room
            (overwrites_after buffer 0 first last (omega (arith, lines.ends)) lines.stored (omega (arith, lines.ends)));
      }
