-- What a write, a raise, a lower and a measurement make of a store, and what a command is answered with.
use Rattle.std.specs.Prelude.{ℕ, Bool, false, cond, not, ◌&&◌, List, [], ◌∷◌, eqb, length, get_or, Option, None, Some, option_map, Result, Ok, Err, ⊤}
use Rattle.refusals.specs.declared.Refusal.{Refusal}
use Rattle.refusals.specs.declared.Refusal.TheVariants.{NotMeasured, MeasuredLength}
use Rattle.rows.specs.declared.Range.{Range}
use Rattle.rows.specs.Layout.{size_of}
use Rattle.rows.specs.Rows.{Set, Switch, Number, Text, Free, Clock, Calendar, Time, row_of, index_of, allows, known, is_identity}
use Rattle.rows.specs.Sets.{low_first_number, bytes_of, member, least_above, greatest_below}
use Rattle.store.specs.declared.Answer.{Answer}
use Rattle.store.specs.declared.Answer.TheVariants.{Value, Unknown, Silence}
use Rattle.store.specs.declared.Store.{Store}
use Rattle.store.specs.Layout.{value_of, with_value}

-- looking a number up
abbrev pub found : ℕ → ℕ → Option ℕ
found unit n = cond (known unit n) (Some (index_of unit n)) None

-- whether a parameter may hold a value, in a store
abbrev pub legal : Store → ℕ → List ℕ → Bool
legal store n value = member (row_of store.unit n).set value

-- a switch, and a 2 written to it
abbrev pub inverts : Set → List ℕ → Bool
inverts Switch value = eqb (length value) 1 && eqb (get_or value 0 0) 2
inverts (Number size r) value = false
inverts (Text shortest longest) value = false
inverts (Free size) value = false
inverts Clock value = false
inverts Calendar value = false
inverts Time value = false

abbrev pub inverse : List ℕ → List ℕ
inverse held = cond (eqb (get_or held 0 0) 0) (1 ∷ []) (0 ∷ [])

-- the write rule: what a parameter's value becomes, if anything is stored
abbrev pub write_value : Store → ℕ → List ℕ → Option (List ℕ)
write_value store n value =
    cond (allows store.unit n 2)
    (cond (legal store n value)
    (Some value)
    (cond (inverts (row_of store.unit n).set value) (Some (inverse (value_of store n))) None))
    None

-- a number's neighbour, in as many bytes
abbrev pub neighbour : (Range → ℕ → Option ℕ) → Set → List ℕ → Option (List ℕ)
neighbour next Switch held = None
neighbour next (Number size r) held = option_map (bytes_of size) (next r (low_first_number held))
neighbour next (Text shortest longest) held = None
neighbour next (Free size) held = None
neighbour next Clock held = None
neighbour next Calendar held = None
neighbour next Time held = None

abbrev pub raise_value : Store → ℕ → Option (List ℕ)
raise_value store n = cond (allows store.unit n 4) (neighbour least_above (row_of store.unit n).set (value_of store n)) None

abbrev pub lower_value : Store → ℕ → Option (List ℕ)
lower_value store n = cond (allows store.unit n 5) (neighbour greatest_below (row_of store.unit n).set (value_of store n)) None

-- a measurement is for a read-only row other than the two of the identity, and has its row's size
abbrev pub measurable : ℕ → ℕ → Bool
measurable unit n = known unit n && not (allows unit n 2) && not (is_identity n)

-- whether a measurement is accepted, or why it is refused
abbrev pub measurement : ℕ → ℕ → List ℕ → Result ⊤ Refusal
measurement unit n value =
    cond (measurable unit n)
    (cond (eqb (length value) (size_of (row_of unit n).set)) (Ok tt) (Err MeasuredLength))
    (Err NotMeasured)

abbrev pub accepted : Result ⊤ Refusal → List ℕ → Option (List ℕ)
accepted (Ok done) value = Some value
accepted (Err refusal) value = None

-- the store after an operation on a parameter: the new value, or nothing changes
abbrev pub stored : Store → ℕ → Option (List ℕ) → Store
stored store n (Some value) = with_value store n value
stored store n None = store

abbrev pub written : Store → ℕ → List ℕ → Store
written store n value = stored store n (write_value store n value)

abbrev pub raised : Store → ℕ → Store
raised store n = stored store n (raise_value store n)

abbrev pub lowered : Store → ℕ → Store
lowered store n = stored store n (lower_value store n)

abbrev pub measured : Store → ℕ → List ℕ → Store
measured store n value = stored store n (accepted (measurement store.unit n value) value)

-- what a measurement returns: the store after it, or why it is refused
abbrev pub answered_as : Store → Result ⊤ Refusal → Result Store Refusal
answered_as after (Ok done) = Ok after
answered_as after (Err refusal) = Err refusal

abbrev pub measured_as : Store → ℕ → List ℕ → Result Store Refusal
measured_as store n value = answered_as (measured store n value) (measurement store.unit n value)

-- which parameters an operation on a parameter may change
abbrev pub affected : ℕ → ℕ → Bool
affected n other = eqb n other

-- what a command is answered with: the value after it, the mark of an unknown parameter, or nothing
abbrev pub answer : ℕ → ℕ → ℕ → Answer
answer unit function n = cond (eqb function 2) Silence (cond (known unit n) Value Unknown)
