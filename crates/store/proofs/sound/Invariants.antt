use mathlib.Core.Path.{◌≡◌}
use lib.ListN.{drop}
use Rattle.rows.specs.Rows.{rows}
use Rattle.store.specs.Sound.{sound, sound_rows}
use Rattle.store.proofs.sound.Given as goal

abbrev pub invariant-loop-index : goal.invariant-loop-index
invariant-loop-index l = sound l.store ≡ sound_rows l.store (drop l.index rows)
