-- The one rule of the table of both products: numbers ascending, every set non-empty, every start value legal, sizes as the set demands.
use Rattle.std.specs.Prelude.{ℕ, ◌^◌, ◌≤◌, ◌<◌, Bool, true, not, ◌&&◌, ◌||◌, List, ◌≡◌, eqb, length}
use Rattle.octets.specs.Octets.{between}
use Rattle.rows.specs.Rows.{Set, Switch, Number, Text, Free, Clock, Calendar, Time, Row, row_at, has, known}
use Rattle.rows.specs.Sets.{greatest, member}
use Rattle.rows.specs.Layout.{row_count, longest}
use Rattle.rows.specs.Start.{start_value}

-- the size that a set demands: a number's bytes hold its greatest, and its steps go on; a text has a character at least
abbrev pub Fits : Set → Type 0
Fits Switch = Unit {0}
Fits (Number size r) = (1 ≤ size) × (size ≤ 2) × (greatest r < 256 ^ size) × (1 ≤ r.step)
Fits (Text shortest most) = (1 ≤ shortest) × (shortest ≤ most) × (most ≤ longest)
Fits (Free size) = (1 ≤ size) × (size ≤ longest)
Fits Clock = Unit {0}
Fits Calendar = Unit {0}
Fits Time = Unit {0}

-- what each row follows
pub record Follows (r : Row) : Type 0 where
  pub fits : Fits r.set
  pub some_value : (value : List ℕ) × (member r.set value ≡ true)
  pub start_legal : (unit : ℕ) (id : List ℕ) → length id ≡ 16 → member r.set (start_value unit id r) ≡ true

abbrev pub RowsFollow : Type 0
RowsFollow = (k : ℕ) → k < row_count → Follows (row_at k)

-- the numbers of a unit type's rows ascend, so that none stands twice
abbrev pub NumbersAscend : Type 0
NumbersAscend =
    (unit j k : ℕ) → j < k → k < row_count → has unit (row_at j) ≡ true → has unit (row_at k) ≡ true → (row_at j).number < (row_at k).number

-- the rows with one star are unknown on type 5, those with two on every type but 3
abbrev pub one_star : ℕ → Bool
one_star n = eqb n 0x0016 || eqb n 0x002D || eqb n 0x00B8 || eqb n 0x0305

abbrev pub two_stars : ℕ → Bool
two_stars n = between 0x003A 0x003F n || eqb n 0x0063

pub record StarsLack (n : ℕ) : Type 0 where
  pub two : known 4 n ≡ (known 3 n && not (two_stars n))
  pub one : known 5 n ≡ (known 4 n && not (one_star n))

abbrev pub StarsKept : Type 0
StarsKept = (n : ℕ) → StarsLack n
