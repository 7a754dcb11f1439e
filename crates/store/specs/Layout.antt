-- What stands in the rows' slots.
use Rattle.std.specs.Prelude.{ℕ, ◌-◌, cond, List, ◌∷◌, ◌++◌, length, get_or, take, drop, replicate}
use Rattle.octets.specs.Octets.{overwrite}
use Rattle.rows.specs.Layout.{size_of, is_text, width_of, set_at, place_at}
use Rattle.rows.specs.Rows.{Set, index_of}
use Rattle.store.specs.declared.Store.{Store}

-- bytes that fill a slot of a size: a longer list is cut, a shorter one followed by zeros
abbrev pub filled : ℕ → List ℕ → List ℕ
filled size value = take size value ++ replicate (size - length value) 0

-- a value as it stands in its slot, and back
abbrev pub to_slot : Set → List ℕ → List ℕ
to_slot set value =
    cond (is_text set)
    (length (take (size_of set) value) ∷ filled (size_of set) value)
    (filled (size_of set) value)

abbrev pub from_slot : Set → List ℕ → List ℕ
from_slot set slot = cond (is_text set) (take (get_or slot 0 0) (drop 1 slot)) slot

abbrev pub slot_at : List ℕ → ℕ → List ℕ
slot_at bytes index = take (width_of (set_at index)) (drop (place_at index) bytes)

abbrev pub value_at : List ℕ → ℕ → List ℕ
value_at bytes index = from_slot (set_at index) (slot_at bytes index)

abbrev pub store_of : ℕ → List ℕ → Store
store_of unit bytes = record { unit = unit; bytes = bytes }

abbrev pub overwritten : Store → ℕ → List ℕ → Store
overwritten store at bytes = store_of store.unit (overwrite store.bytes at bytes)

abbrev pub with_value_at : Store → ℕ → List ℕ → Store
with_value_at store index value = overwritten store (place_at index) (to_slot (set_at index) value)

-- the bytes of the store that are a parameter's own; an unknown parameter has none
abbrev pub slot_of : Store → ℕ → List ℕ
slot_of store n = slot_at store.bytes (index_of store.unit n)

-- the value that a parameter holds, in the bytes of a store of this unit type
abbrev pub value_in : List ℕ → ℕ → ℕ → List ℕ
value_in bytes unit n = value_at bytes (index_of unit n)

abbrev pub value_of : Store → ℕ → List ℕ
value_of store n = value_in store.bytes store.unit n

-- the store with another value for a parameter
abbrev pub with_value : Store → ℕ → List ℕ → Store
with_value store n value = with_value_at store (index_of store.unit n) value
