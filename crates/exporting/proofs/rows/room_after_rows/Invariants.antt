use Prim.Native.Nat.{ℕ}
use mathlib.Core.Bool.{true}
use mathlib.Core.List.{List}
use mathlib.Core.Path.{◌≡◌}
use lib.ListN.{length}
use Rattle.block.specs.Reading.{is_some}
use Rattle.block.specs.Response.{reports_from}
use Rattle.exporting.proofs.RowSteps.{RoomLeft}
use Rattle.exporting.proofs.rows.room_after_rows.Given as goal

abbrev pub invariant-loop-next_page : goal.invariant-loop-next_page
invariant-loop-next_page l = (is_some (reports_from l.page l.left) ≡ true) × ((start : List ℕ) → length start ≡ l.size → RoomLeft l.room start l.block l.space l.page l.left)

abbrev pub decreases-loop-next_page : goal.decreases-loop-next_page
decreases-loop-next_page l = length l.left
