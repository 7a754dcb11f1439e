-- What set-up leaves in each row.
use Rattle.std.specs.Prelude.{ℕ, cond, List, [], ◌∷◌, eqb, ltb, replicate}
use Rattle.rows.specs.declared.Range.{Range}
use Rattle.rows.specs.Rows.{Set, Switch, Number, Text, Free, Clock, Calendar, Time, Row}
use Rattle.rows.specs.Sets.{bytes_of}

-- the least number of a range
abbrev pub least : Range → ℕ
least r = cond (ltb r.extra r.low) r.extra r.low

-- the lowest bytes of a set; of the calendar the first date, Saturday 1 January 2000
unfoldable pub lowest : Set → List ℕ
lowest Switch = 0 ∷ []
lowest (Number size r) = bytes_of size (least r)
lowest (Text shortest longest) = replicate shortest 0x20
lowest (Free size) = replicate size 0
lowest Clock = 0 ∷ 0 ∷ 0 ∷ []
lowest Calendar = 1 ∷ 6 ∷ 1 ∷ 0 ∷ []
lowest Time = 0 ∷ 0 ∷ []

unfoldable pub start_value : ℕ → List ℕ → Row → List ℕ
start_value unit id r =
    cond (eqb r.number 0x0037) (100 ∷ [])
    (cond (eqb r.number 0x007C) id
    (cond (eqb r.number 0x0095) (0x41 ∷ [])
    (cond (eqb r.number 0x0096) (replicate 8 0x30)
    (cond (eqb r.number 0x00B9) (unit ∷ 0 ∷ [])
    (lowest r.set)))))
