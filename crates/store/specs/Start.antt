-- The store as set-up leaves it.
use Rattle.std.specs.Prelude.{ℕ, ◌+◌, ◌-◌, Bool, true, false, cond, not, List, [], ◌∷◌, ◌++◌, replicate}
use Rattle.rows.specs.Layout.{store_size, width_of, is_micra, of_micra}
use Rattle.rows.specs.Rows.{Row, rows, index_of}
use Rattle.rows.specs.Start.{start_value}
use Rattle.store.specs.declared.Store.{Store}
use Rattle.store.specs.Layout.{to_slot, store_of, with_value_at}

-- whether a row is of a product: the Micra, or the VENTO Expert
abbrev pub of_product : Bool → Row → Bool
of_product true r = of_micra r
of_product false r = not (of_micra r)

-- the slots of a product's rows with their start values, one after the other, and `rest` behind them; and how many bytes they take
unfoldable pub start_slots : Bool → ℕ → List ℕ → List ℕ → List Row → List ℕ
start_slots micra unit id rest [] = rest
start_slots micra unit id rest (r ∷ rs) = cond (of_product micra r) (to_slot r.set (start_value unit id r)) [] ++ start_slots micra unit id rest rs

unfoldable pub product_size : Bool → List Row → ℕ
product_size micra [] = 0
product_size micra (r ∷ rs) = cond (of_product micra r) (width_of r.set) 0 + product_size micra rs

-- zeros behind them
unfoldable pub start_bytes : Bool → ℕ → List ℕ → List ℕ
start_bytes micra unit id = start_slots micra unit id (replicate (store_size - product_size micra rows) 0) rows

unfoldable pub start : List ℕ → ℕ → Store
start id unit = store_of unit (start_bytes (is_micra unit) unit id)

-- a store with an ID in 007C and its unit type in 00B9. The two rows lie where unit type `own` has them: on a VENTO Expert at the same
-- places on every type
abbrev pub with_identity : Store → ℕ → List ℕ → Store
with_identity store own id = with_value_at (with_value_at store (index_of own 0x00B9) (store.unit ∷ 0 ∷ [])) (index_of own 0x007C) id
