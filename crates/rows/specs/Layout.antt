-- Where the rows' slots lie: those of a product one after the other, in the table's order.
use Rattle.std.specs.Prelude.{ℕ, suc, ◌+◌, Bool, true, false, cond, List, [], ◌∷◌, eqb, get_or}
use Rattle.rows.specs.Rows.{Set, Switch, Number, Text, Free, Clock, Calendar, Time, Row, rows, row_at}

-- how many rows there are, and how many bytes those of one product take at most
abbrev pub row_count : ℕ
row_count = 122

abbrev pub store_size : ℕ
store_size = 227

-- no value is longer
abbrev pub longest : ℕ
longest = 64

-- how many bytes a value has, a text at most
abbrev pub size_of : Set → ℕ
size_of Switch = 1
size_of (Number size r) = size
size_of (Text shortest longest) = longest
size_of (Free size) = size
size_of Clock = 3
size_of Calendar = 4
size_of Time = 2

abbrev pub is_text : Set → Bool
is_text Switch = false
is_text (Number size r) = false
is_text (Text shortest longest) = true
is_text (Free size) = false
is_text Clock = false
is_text Calendar = false
is_text Time = false

-- how many bytes of the store a row takes: a text has its length before it
abbrev pub width_of : Set → ℕ
width_of set = cond (is_text set) (suc (size_of set)) (size_of set)

-- the product of a unit type, and of a row
abbrev pub is_micra : ℕ → Bool
is_micra unit = eqb unit 2

abbrev pub of_micra : Row → Bool
of_micra r = is_micra r.first

-- where each row begins: the next of the Micra at `own`, the next of the VENTO Expert at `other`
unfoldable pub places_from : ℕ → ℕ → List Row → List ℕ
places_from own other [] = []
places_from own other (r ∷ rs) =
    cond (of_micra r) own other
    ∷ places_from (own + cond (of_micra r) (width_of r.set) 0) (other + cond (of_micra r) 0 (width_of r.set)) rs

abbrev pub set_at : ℕ → Set
set_at index = (row_at index).set

abbrev pub place_at : ℕ → ℕ
place_at index = get_or (places_from 0 0 rows) index 0
