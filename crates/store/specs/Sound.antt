-- A store is sound if each row that its unit type has holds a value of its set.
use Rattle.std.specs.Prelude.{Bool, true, not, ◌&&◌, ◌||◌, List, [], ◌∷◌}
use Rattle.rows.specs.Rows.{Row, rows, has}
use Rattle.store.specs.declared.Store.{Store}
use Rattle.store.specs.Layout.{value_of}
use Rattle.store.specs.Operations.{legal}

unfoldable pub sound_rows : Store → List Row → Bool
sound_rows store [] = true
sound_rows store (r ∷ rs) = (not (has store.unit r) || legal store r.number (value_of store r.number)) && sound_rows store rs

-- a read-only row takes any bytes of its size, so that only writable rows decide
abbrev pub sound : Store → Bool
sound store = sound_rows store rows
