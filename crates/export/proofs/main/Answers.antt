-- The text has the room that its type says.
use Prim.Native.Nat.{ℕ}
use mathlib.Core.Path.{sym}
use lib.ListN.{length-replicate}
use Rattle.export.proofs.main.Goals as goal

pub slice_bounds-export-end : goal.slice_bounds-export-end
slice_bounds-export-end c = sym (length-replicate {0} {A = ℕ} 655360 0)
