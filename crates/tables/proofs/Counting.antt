-- The line of a refusal.
use Prim.Native.Nat.{ℕ, ◌+◌}
use native.Mathlib.Omega.{arith}
use mathlib.Core.Bool.{false}
use mathlib.Core.List.{[], ◌∷◌}
use mathlib.Core.Option.{Option, none, some}
use mathlib.Core.Path.{◌≡◌}
use lib.ListN.{length}
use Rattle.refusals.specs.declared.Refusal.{Refusal}
use Rattle.framing.specs.Refusal.{first_refusal}
use Rattle.tables.specs.Lines.{Line}
use Rattle.tables.specs.Importing.{fields_in, row_from, line_refusals, Imported, row, or_refused, import_from, rows_given, is_whole}
use Rattle.tables.specs.Statements.{line_of_refusal, LinesCounted}

after_line :
    (line : ℕ) (l : Line) (after : Imported) → (is_whole after ≡ false → line_of_refusal after ≡ line + 1 + length (rows_given after)) → (by : Option Refusal)
    → is_whole (or_refused by line (row (row_from (fields_in l)) after)) ≡ false
    → line_of_refusal (or_refused by line (row (row_from (fields_in l)) after)) ≡ line + length (rows_given (or_refused by line (row (row_from (fields_in l)) after)))
unfolding rows_given is_whole line_of_refusal
after_line line l after again (some refusal) h = omega arith
after_line line l after again none h = omega (arith, again h)

pub lines_counted : LinesCounted
unfolding import_from is_whole
lines_counted line [] h = let impossible : ◌≡◌ {A = ℕ} 0 1 = cc in absurd (omega arith)
lines_counted line (l ∷ ls) h = after_line line l (import_from (line + 1) ls) (lines_counted (line + 1) ls) (first_refusal line_refusals l) h
