-- How the code's columns stand for a set and a quantity: a number for each kind, and the range of a number or of a text's length.
use Rattle.std.specs.Prelude.{ℕ, cond, eqb}
use Rattle.rows.specs.declared.Kind.{Kind}
use Rattle.rows.specs.declared.Kind.TheVariants as kind
use Rattle.rows.specs.declared.Quantity.{Quantity}
use Rattle.rows.specs.declared.Quantity.TheVariants.{Plain, Tenths, WholeDegrees}
use Rattle.rows.specs.declared.Range.{Range}
use Rattle.rows.specs.Rows.{Set, Switch, Number, Text, Free, Clock, Calendar, Time, numbers}

abbrev pub kind_of : Set → Kind
kind_of Switch = kind.Switch
kind_of (Number size r) = kind.Number
kind_of (Text shortest longest) = kind.Text
kind_of (Free size) = kind.Free
kind_of Clock = kind.Clock
kind_of Calendar = kind.Calendar
kind_of Time = kind.Time

-- a kind's number in its column, and back
abbrev pub kind_number : Kind → ℕ
kind_number kind.Switch = 0
kind_number kind.Number = 1
kind_number kind.Text = 2
kind_number kind.Free = 3
kind_number kind.Clock = 4
kind_number kind.Calendar = 5
kind_number kind.Time = 6

abbrev pub kind_from : ℕ → Kind
kind_from number =
    cond (eqb number 0) kind.Switch
    (cond (eqb number 1) kind.Number
    (cond (eqb number 2) kind.Text
    (cond (eqb number 3) kind.Free
    (cond (eqb number 4) kind.Clock
    (cond (eqb number 5) kind.Calendar kind.Time)))))

abbrev pub range_of : Set → Range
range_of Switch = numbers 0 0 0 1
range_of (Number size r) = r
range_of (Text shortest longest) = numbers 0 shortest longest 1
range_of (Free size) = numbers 0 0 0 1
range_of Clock = numbers 0 0 0 1
range_of Calendar = numbers 0 0 0 1
range_of Time = numbers 0 0 0 1

abbrev pub quantity_number : Quantity → ℕ
quantity_number Plain = 0
quantity_number Tenths = 1
quantity_number WholeDegrees = 2

abbrev pub quantity_of : ℕ → Quantity
quantity_of number = cond (eqb number 1) Tenths (cond (eqb number 2) WholeDegrees Plain)
