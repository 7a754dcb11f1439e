-- Laws of the text of rows.
use Prim.Native.Nat.{ℕ, ◌+◌, ◌*◌, ◌≤◌}
use native.Mathlib.Omega.{arith}
use mathlib.Core.Bool.{Bool}
use mathlib.Core.List.{List, [], ◌∷◌, ◌++◌, map, append_assoc}
use mathlib.Core.Path.{◌≡◌, refl}
use lib.ListN.{length, length-append}
use Rattle.octets.specs.Octets.{Overwrites}
use Rattle.block.specs.Command.{Report}
use Rattle.captures.proofs.Buffers.{PutFrom, put_on, put_all}
use Rattle.numerals.specs.Numerals.{hex_bytes, decimal}
use Rattle.numerals.proofs.Decimals.{one_digit}
use Rattle.numerals.proofs.Hex.{length_hex}
use Rattle.tables.specs.Lines.{line_end}
use Rattle.tables.specs.Fields.{quote, quoted}
use Rattle.tables.specs.Rows.{row_of, number_of, value_of, row_line, row_lines}
use Rattle.exporting.specs.RowText.{before_id, before_counter, before_number, before_value, row_end, row_start, row_number, row_text, row_texts, row_size, Puts}

pub length_row : (start number value : List ℕ) → length number ≡ 2 → length (row_text start number value) ≡ row_size (length start) (length value)
length_row start number value e = simp length-append (omega (arith, length_hex number, length_hex value))

pub length_start : (id : List ℕ) (counter : ℕ) → length (row_start id counter) ≡ 14 + 2 * length id + length (decimal counter)
length_start id counter = simp length-append (omega (arith, length_hex id))

-- the parts of a line as they are put
regroup :
    (a h b d c n e v f l : List ℕ)
    → a ++ (h ++ (b ++ (d ++ (c ++ (n ++ (e ++ (v ++ f))))))) ++ l ≡ a ++ (h ++ (b ++ (d ++ c))) ++ (n ++ e) ++ (v ++ (f ++ l))
regroup a h b d c n e v f l = simp append_assoc

-- the line of a row, and the lines of the rows of a response
row_line_lem : (id : List ℕ) (counter : ℕ) (r : Report) → row_line (row_of id 1 counter r) ≡ row_text (row_start id counter) (number_of r) (value_of r)
unfolding quoted
row_line_lem id counter r =
    rw (one_digit 19 1 (omega arith))
    (regroup before_id (hex_bytes id) before_counter (decimal counter) before_number (hex_bytes (number_of r)) before_value (hex_bytes (value_of r)) (quote ∷ []) line_end)

pub rows_text : (id : List ℕ) (counter : ℕ) (rs : List Report) → row_lines (map (row_of id 1 counter) rs) ≡ row_texts (row_start id counter) rs
unfolding row_lines row_texts
rows_text id counter [] = refl
rows_text id counter (r ∷ rs) = rw (row_line_lem id counter r, rows_text id counter rs)

-- nothing is put yet
pub put_none : (text : List ℕ) (at : ℕ) (bytes : List ℕ) → at + length bytes ≤ length text → PutFrom text at bytes text at bytes
put_none text at bytes roomy = record { ends = refl; fits_in = roomy; same_room = refl; held = refl }

-- all is put
pub all_put : {text : List ℕ} {at : ℕ} {bytes after : List ℕ} {end : ℕ} → PutFrom text at bytes after end [] → Puts text at bytes end after
all_put so_far = let done = put_all so_far refl in record { ends = done.0; held = done.1 }

-- the calls that put the start of a row
pub start_put :
    (text id : List ℕ) (counter : ℕ) {digits a b c d e : List ℕ} {size : ℕ} {v w x y z : Bool}
    → length (row_start id counter) ≤ length text → digits ≡ decimal counter → size ≡ length (decimal counter)
    → Overwrites text 0 before_id v a → Overwrites a 2 (hex_bytes id) w b
    → Overwrites b (2 + 2 * length id) before_counter x c → Overwrites c (2 + 2 * length id + 7) digits y d
    → Overwrites d (2 + 2 * length id + 7 + size) before_number z e
    → Puts text 0 (row_start id counter) (2 + 2 * length id + 7 + size + 5) e
start_put text id counter {size = size} roomy same sized first second third fourth fifth =
    let id_size = length_hex id in
    let one = put_on before_id _ (put_none text 0 (row_start id counter) (omega arith)) refl {next = 2} (omega arith) first in
    let two = put_on (hex_bytes id) _ one refl {next = 2 + 2 * length id} (omega arith) second in
    let three = put_on before_counter _ two refl {next = 2 + 2 * length id + 7} (omega arith) third in
    let four = put_on (decimal counter) _ three refl {next = 2 + 2 * length id + 7 + size} (omega arith) (rw same at fourth) in
    all_put (put_on before_number [] four refl (omega arith) fifth)

-- the calls that put a row
pub row_put :
    (text start : List ℕ) (at page low : ℕ) (value : List ℕ) {number a b c : List ℕ} {x y z : Bool}
    → at + length (row_text start (page ∷ low ∷ []) value) ≤ length text → number ≡ row_number (page ∷ low ∷ [])
    → Overwrites text at (start ++ number) x a → Overwrites a (at + length start + 8) (hex_bytes value) y b
    → Overwrites b (at + length start + 8 + 2 * length value) row_end z c
    → Puts text at (row_text start (page ∷ low ∷ []) value) (at + length start + 8 + 2 * length value + 3) c
row_put text start at page low value roomy same first second third =
    let size : length (start ++ row_number (page ∷ low ∷ [])) ≡ length start + 8 = simp length-append (omega (arith, length_hex (page ∷ low ∷ []))) in
    let one = put_on (start ++ row_number (page ∷ low ∷ [])) _ (put_none text at (row_text start (page ∷ low ∷ []) value) roomy) refl {next = at + length start + 8} (omega arith) (rw same at first) in
    let two = put_on (hex_bytes value) _ one refl {next = at + length start + 8 + 2 * length value} (omega (arith, length_hex value)) second in
    all_put (put_on row_end [] two refl (omega arith) third)
