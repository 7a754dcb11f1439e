-- How long the text of the counts of all boards can be.
use Prim.Native.Nat.{ℕ, zero, suc, ◌+◌, ◌*◌, ◌/◌, ◌%◌, ◌<◌, ◌≤◌}
use native.Mathlib.Omega.{arith}
use mathlib.Core.Bool.{Bool, true, false, cond}
use mathlib.Core.List.{List, [], ◌∷◌, ◌++◌}
use lib.Dec.{ltb, eqb}
use lib.ListN.{length, get_or, length-append}
use Rattle.captures.specs.Form.{newest, board_limit}
use Rattle.numerals.specs.Numerals.{decimal}
use Rattle.numerals.proofs.Decimals.{few_digits, decimal_short}
use Rattle.tool.specs.Listing.{line_feed}
use Rattle.counts.specs.Counting.{numbers_per_board}
use Rattle.summing.specs.Text.{comma, each, line_at, lines_of, last_line}
use Rattle.summing.specs.Statements.{TextsFit}

line_by : (t : Bool) (index number count : List ℕ) → length index ≤ 3 → length number ≤ 2 → length count ≤ 20
    → length (cond t [] (index ++ comma ∷ number ++ comma ∷ count ++ line_feed)) ≤ 28
line_by true index number count i n c = omega arith
line_by false index number count i n c = simp length-append (omega arith)

line_short : (counts : List ℕ) (place : ℕ) → place < board_limit newest * numbers_per_board → length (line_at counts place) ≤ 28
line_short counts place small =
    line_by (eqb (get_or counts place 0) 0) (decimal (place / numbers_per_board)) (decimal (place % numbers_per_board)) (decimal (get_or counts place 0))
    (few_digits 20 2 (place / numbers_per_board) (omega arith)) (few_digits 20 1 (place % numbers_per_board) (omega arith)) (decimal_short 20 (get_or counts place 0))

lines_short : (counts : List ℕ) (n : ℕ) → n ≤ board_limit newest * numbers_per_board → length (each n (line_at counts)) ≤ n * 28
unfolding each
lines_short counts zero h = omega arith
lines_short counts (suc n) h =
    simp length-append (omega (arith, lines_short counts n (omega arith), line_short counts n (omega arith)))

last_by : (none small : Bool) (one two three : ℕ) → length (cond none [] (0x72 ∷ 0x65 ∷ 0x66 ∷ 0x75 ∷ 0x73 ∷ 0x65 ∷ 0x64 ∷ comma ∷ cond small (one ∷ []) (two ∷ three ∷ []) ++ line_feed)) ≤ 11
last_by true small one two three = omega arith
last_by false true one two three = omega arith
last_by false false one two three = omega arith

last_short : (refusal : ℕ) → length (last_line refusal) ≤ 11
last_short refusal = last_by (eqb refusal 0) (ltb refusal 10) (0x30 + refusal) (0x30 + refusal / 10) (0x30 + refusal % 10)

pub texts_fit : TextsFit
unfolding lines_of
texts_fit counts refusal small = simp length-append (omega (arith, lines_short counts (length counts) small, last_short refusal))
