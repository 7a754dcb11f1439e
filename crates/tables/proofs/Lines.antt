-- A line that was written is read.
use Prim.Native.Nat.{ℕ, zero, suc, ◌+◌, ◌<◌}
use native.Mathlib.Omega.{arith}
use mathlib.Core.Bool.{true, false}
use mathlib.Core.List.{List, [], ◌∷◌, ◌++◌}
use mathlib.Core.Path.{◌≡◌, refl, ap, ◌∙◌}
use borrow.Author.Tests.{lt-ltb}
use lib.Dec.{eqb, ltb}
use lib.ListN.{length, take, drop, length-append}
use lib.Seq.{take_at, drop-append-add}
use Rattle.tables.specs.Lines.{line_size, Line, line_of, first_line, lines_behind, lines}

-- no CR
abbrev pub NoReturn : List ℕ → Type 0
NoReturn [] = Unit {0}
NoReturn (c ∷ s) = (eqb c 0x0D ≡ false) × NoReturn s

size_written : (text rest : List ℕ) → NoReturn text → line_size (text ++ (0x0D ∷ 0x0A ∷ rest)) ≡ length text
unfolding line_size
size_written [] rest h = refl
size_written (c ∷ s) rest h = rw h.0 (ap suc (size_written s rest h.1))

skip : (l : List ℕ) (k : ℕ) → lines_behind l k ≡ lines (drop k l)
unfolding lines_behind
skip [] zero = refl
skip [] (suc k) = refl
skip (c ∷ s) zero = refl
skip (c ∷ s) (suc k) = skip s k

-- lines of a text that is not empty
pub some_lines : (l : List ℕ) → 0 < length l → lines l ≡ first_line l ∷ lines (drop (line_size l + 2) l)
unfolding lines_behind
some_lines [] h = absurd (omega arith)
some_lines (c ∷ s) h = ap (λ (rest : List Line). first_line (c ∷ s) ∷ rest) (skip s (line_size (c ∷ s) + 1) ∙ ap (λ (n : ℕ). lines (drop n (c ∷ s))) more)
  where
    more : suc (line_size (c ∷ s) + 1) ≡ line_size (c ∷ s) + 2
    more = omega arith

pub line_written : (text rest : List ℕ) → NoReturn text → lines (text ++ (0x0D ∷ 0x0A ∷ rest)) ≡ line_of text true ∷ lines rest
line_written text rest h =
    let whole : List ℕ = text ++ (0x0D ∷ 0x0A ∷ rest) in
    let size : line_size whole ≡ length text = size_written text rest h in
    let long : length whole ≡ length text + length (0x0D ∷ 0x0A ∷ rest) = length-append text (0x0D ∷ 0x0A ∷ rest) in
    let shorter : length text < length whole = omega arith in
    let first : first_line whole ≡ line_of text true =
    (λ i. line_of (take (size i) whole) (ltb (size i) (length whole)))
    ∙ (λ i. line_of (take_at text (0x0D ∷ 0x0A ∷ rest) (length text) refl i) (lt-ltb (length text) (length whole) shorter i)) in
    let behind : drop (line_size whole + 2) whole ≡ rest = ap (λ (n : ℕ). drop (n + 2) whole) size ∙ past text rest in
    some_lines whole (omega arith) ∙ λ i. first i ∷ lines (behind i)
  where
    past : (text rest : List ℕ) → drop (length text + 2) (text ++ (0x0D ∷ 0x0A ∷ rest)) ≡ rest
    past text rest = drop-append-add text (0x0D ∷ 0x0A ∷ rest) 2
