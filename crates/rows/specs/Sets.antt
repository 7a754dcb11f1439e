-- Membership in a set, and the neighbours of a number in it.
use Rattle.std.specs.Prelude.{ℕ, zero, suc, ◌+◌, ◌*◌, ◌-◌, ◌/◌, ◌%◌, Bool, cond, ◌&&◌, ◌||◌, List, [], ◌∷◌, eqb, leb, ltb, length, get_or, take, Option, Some, None}
use Rattle.std.specs.List.{list_all}
use Rattle.octets.specs.Octets.{between}
use Rattle.calendar.specs.Dates.{is_date}
use Rattle.rows.specs.declared.Range.{Range}
use Rattle.rows.specs.Rows.{Set, Switch, Number, Text, Free, Clock, Calendar, Time}

-- the number that one or two bytes make, low byte first
abbrev pub low_first_number : List ℕ → ℕ
low_first_number value = get_or value 0 0 + 256 * get_or value 1 0

-- a number in one or two bytes, low byte first
abbrev pub bytes_of : ℕ → ℕ → List ℕ
bytes_of size x = take size (x % 256 ∷ x / 256 % 256 ∷ [])

abbrev pub in_range : Range → ℕ → Bool
in_range r x = eqb x r.extra || between r.low r.high x && eqb ((x - r.low) % r.step) 0

-- every byte is a character, 20 to 7E
unfoldable pub printable : List ℕ → Bool
printable = list_all (between 0x20 0x7E)

-- seconds, minutes, hours
abbrev pub is_clock : List ℕ → Bool
is_clock v = leb (get_or v 0 0) 59 && leb (get_or v 1 0) 59 && leb (get_or v 2 0) 23

-- minutes, hours
abbrev pub is_time : List ℕ → Bool
is_time v = leb (get_or v 0 0) 59 && leb (get_or v 1 0) 23

-- day, weekday, month, year
abbrev pub is_calendar : List ℕ → Bool
is_calendar v = is_date (get_or v 0 0) (get_or v 1 0) (get_or v 2 0) (get_or v 3 0)

abbrev pub member : Set → List ℕ → Bool
member Switch v = eqb (length v) 1 && leb (get_or v 0 0) 1
member (Number size r) v = eqb (length v) size && in_range r (low_first_number v)
member (Text shortest longest) v = between shortest longest (length v) && printable v
member (Free size) v = eqb (length v) size
member Clock v = eqb (length v) 3 && is_clock v
member Calendar v = eqb (length v) 4 && is_calendar v
member Time v = eqb (length v) 2 && is_time v

-- the first of x + 1, .., x + n that passes a test
unfoldable pub first_after : (ℕ → Bool) → ℕ → ℕ → Option ℕ
first_after test x zero = None
first_after test x (suc n) = cond (test (suc x)) (Some (suc x)) (first_after test (suc x) n)

-- the first of x - 1, x - 2, .., 0 that passes a test
unfoldable pub first_before : (ℕ → Bool) → ℕ → Option ℕ
first_before test zero = None
first_before test (suc x) = cond (test x) (Some x) (first_before test x)

-- the greatest number of a range
abbrev pub greatest : Range → ℕ
greatest r = cond (ltb r.high r.extra) r.extra r.high

abbrev pub least_above : Range → ℕ → Option ℕ
least_above r x = first_after (in_range r) x (greatest r - x)

abbrev pub greatest_below : Range → ℕ → Option ℕ
greatest_below r x = first_before (in_range r) x
