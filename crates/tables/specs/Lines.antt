-- The lines of a text: each runs to the first CR LF, or to the end.
use Rattle.std.specs.Prelude.{ℕ, zero, suc, ◌+◌, Bool, cond, ◌&&◌, List, [], ◌∷◌, eqb, ltb, length, take, get_or}

-- CR LF
abbrev pub line_end : List ℕ
line_end = 0x0D ∷ 0x0A ∷ []

-- whether it stands at the start
abbrev pub ends_here : List ℕ → Bool
ends_here text = eqb (get_or text 0 0) 0x0D && eqb (get_or text 1 0) 0x0A

-- the bytes before the first CR LF, or all where there is none
unfoldable pub line_size : List ℕ → ℕ
line_size [] = 0
line_size (c ∷ s) = cond (ends_here (c ∷ s)) 0 (suc (line_size s))

-- a line, and whether CR LF ends it
pub record Line : Type 0 where
  pub text : List ℕ
  pub ended : Bool

abbrev pub line_of : List ℕ → Bool → Line
line_of text ended = record { text = text; ended = ended }

abbrev pub first_line : List ℕ → Line
first_line text = line_of (take (line_size text) text) (ltb (line_size text) (length text))

-- behind k bytes that belong to a line
unfoldable pub lines_behind : List ℕ → ℕ → List Line
lines_behind [] k = []
lines_behind (c ∷ s) (suc k) = lines_behind s k
lines_behind (c ∷ s) zero = first_line (c ∷ s) ∷ lines_behind s (line_size (c ∷ s) + 1)

abbrev pub lines : List ℕ → List Line
lines text = lines_behind text 0
