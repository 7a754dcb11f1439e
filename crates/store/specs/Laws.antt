-- What holds of every operation on a store.
use Rattle.std.specs.Prelude.{ℕ, ◌≤◌, ◌<◌, true, false, List, [], ◌∷◌, ◌⊎◌, ◌≡◌, length, Option, Some}
use Rattle.octets.specs.Octets.{between}
use Rattle.rows.specs.declared.Range.{Range}
use Rattle.rows.specs.Layout.{store_size}
use Rattle.rows.specs.Rows.{Number, row_of, allows, known, is_identity}
use Rattle.rows.specs.Sets.{low_first_number, in_range}
use Rattle.rows.specs.Start.{start_value}
use Rattle.store.specs.declared.Store.{Store}
use Rattle.store.specs.Layout.{slot_of, value_of}
use Rattle.store.specs.Operations.{legal, write_value, raise_value, lower_value, measurement, accepted, stored, affected}
use Rattle.store.specs.Start.{start}
use Rattle.store.specs.Sound.{sound}

pub data Operation : Type 0 where
  Write : List ℕ → Operation
  Raise : Operation
  Lower : Operation
  Measure : List ℕ → Operation

-- what an operation stores for a parameter, if anything
abbrev pub new_value : Operation → Store → ℕ → Option (List ℕ)
new_value (Write value) store n = write_value store n value
new_value Raise store n = raise_value store n
new_value Lower store n = lower_value store n
new_value (Measure value) store n = accepted (measurement store.unit n value) value

-- `written`, `raised`, `lowered` or `measured`
abbrev pub after : Operation → Store → ℕ → Store
after operation store n = stored store n (new_value operation store n)

-- a store as the code has it
abbrev pub Sized : Store → Type 0
Sized store = length store.bytes ≡ store_size

abbrev pub SizeKept : Type 0
SizeKept = (operation : Operation) (store : Store) (n : ℕ) → Sized store → Sized (after operation store n)

-- the unit type stays whatever is done
abbrev pub UnitKept : Type 0
UnitKept = (operation : Operation) (store : Store) (n : ℕ) → (after operation store n).unit ≡ store.unit

-- parameters that an operation does not affect keep their bytes
abbrev pub OthersKept : Type 0
OthersKept =
    (operation : Operation) (store : Store) (n other : ℕ) → Sized store → affected n other ≡ false
    → slot_of (after operation store n) other ≡ slot_of store other

-- the ID and the unit type keep their bytes whatever is done
abbrev pub IdentityKept : Type 0
IdentityKept =
    (operation : Operation) (store : Store) (n other : ℕ) → Sized store → is_identity other ≡ true
    → slot_of (after operation store n) other ≡ slot_of store other

-- a value read is the value stored
abbrev pub ReadBack : Type 0
ReadBack =
    (operation : Operation) (store : Store) (n : ℕ) (value : List ℕ) → Sized store → new_value operation store n ≡ Some value
    → value_of (after operation store n) n ≡ value

abbrev pub SoundKept : Type 0
SoundKept = (operation : Operation) (store : Store) (n : ℕ) → Sized store → sound store ≡ true → sound (after operation store n) ≡ true

-- in a sound store each parameter's value is one of its set, and has 1 to 64 bytes
abbrev pub HeldLegal : Type 0
HeldLegal = (store : Store) (n : ℕ) → sound store ≡ true → known store.unit n ≡ true → legal store n (value_of store n) ≡ true

abbrev pub HeldLength : Type 0
HeldLength = (store : Store) (n : ℕ) → sound store ≡ true → known store.unit n ≡ true → (1 ≤ length (value_of store n)) × (length (value_of store n) ≤ 64)

-- the start store of an ID and a unit type: each row that the unit type has holds its start value
abbrev pub StartSized : Type 0
StartSized = (id : List ℕ) (unit : ℕ) → Sized (start id unit)

abbrev pub StartHeld : Type 0
StartHeld = (id : List ℕ) (unit n : ℕ) → length id ≡ 16 → known unit n ≡ true → value_of (start id unit) n ≡ start_value unit id (row_of unit n)

abbrev pub StartIdentity : Type 0
StartIdentity =
    (id : List ℕ) (unit : ℕ) → length id ≡ 16 → between 2 5 unit ≡ true
    → (value_of (start id unit) 0x007C ≡ id) × (value_of (start id unit) 0x00B9 ≡ unit ∷ 0 ∷ [])

abbrev pub StartSound : Type 0
StartSound = (id : List ℕ) (unit : ℕ) → length id ≡ 16 → sound (start id unit) ≡ true

-- y is the least number of a range above x
pub record Least (r : Range) (x y : ℕ) : Type 0 where
  pub within : in_range r y ≡ true
  pub above : x < y
  pub least : (z : ℕ) → in_range r z ≡ true → x < z → y ≤ z

pub record Greatest (r : Range) (x y : ℕ) : Type 0 where
  pub within : in_range r y ≡ true
  pub below : y < x
  pub greatest : (z : ℕ) → in_range r z ≡ true → z < x → z ≤ y

-- a parameter's value as a number
abbrev pub held_number : Store → ℕ → ℕ
held_number store n = low_first_number (value_of store n)

-- a raise gives the least number above the one held, or there is none and nothing changes
abbrev pub RaiseLeast : Type 0
RaiseLeast =
    (store : Store) (n size : ℕ) (r : Range) → Sized store → allows store.unit n 4 ≡ true → (row_of store.unit n).set ≡ Number size r
    → Least r (held_number store n) (held_number (after Raise store n) n)
    ⊎ ((after Raise store n ≡ store) × ((z : ℕ) → in_range r z ≡ true → z ≤ held_number store n))

abbrev pub LowerGreatest : Type 0
LowerGreatest =
    (store : Store) (n size : ℕ) (r : Range) → Sized store → allows store.unit n 5 ≡ true → (row_of store.unit n).set ≡ Number size r
    → Greatest r (held_number store n) (held_number (after Lower store n) n)
    ⊎ ((after Lower store n ≡ store) × ((z : ℕ) → in_range r z ≡ true → held_number store n ≤ z))
