-- Import is `open`, and then `next_row` again and again.
use Prim.Native.Nat.{ℕ, ◌+◌, ◌-◌, ◌<◌}
use native.Mathlib.Omega.{arith}
use mathlib.Core.Bool.{true}
use mathlib.Core.List.{List, [], ◌∷◌, ◌++◌, append_assoc}
use mathlib.Core.Option.{Option, none, some}
use mathlib.Core.Path.{◌≡◌, refl, sym, ap, ◌∙◌}
use borrow.Author.Tests.{lt-ltb, ltb-true}
use lib.Dec.{eqb-suc-zero}
use lib.ListN.{length, take, drop, get_or, length-append, length-drop, take-append-drop}
use lib.Seq.{length-take-le}
use Rattle.octets.proofs.Same.{same_equal}
use Rattle.refusals.specs.declared.Refusal.{Refusal}
use Rattle.framing.specs.Refusal.{first_refusal}
use Rattle.block.specs.Reading.{part_of}
use Rattle.block.proofs.Parts.{between_parts, between_last}
use Rattle.numerals.specs.Numerals.{decimal_in, number_from, decimal}
use Rattle.tables.specs.Lines.{Line, line_size, first_line, lines_behind}
use Rattle.tables.specs.Fields.{quote, quoted}
use Rattle.tables.specs.Rows.{row_of}
use Rattle.tables.specs.Importing.{bytes_in, number_in, fields_in, field_at, is_direction, line_refusals, header_refusals, report_of, row_from, row, or_refused, import_from, import_lines, import_of}
use Rattle.tables.proofs.Lines.{some_lines}
use Rattle.tables.proofs.Fields.{fields_quoted}
use Rattle.tables.proofs.InForm.{Passed, passed}
use Rattle.importing.specs.Reading.{line_limit, line_after, rest_size, opened_as, opened_of, next_as, next_row, import_after, import_opened}
use Rattle.importing.specs.Statements.{import_text, ReadsTables}
use Rattle.importing.proofs.Sizes.{line_within}
use Rattle.importing.proofs.RowForms.{in_form_lem}
use Rattle.importing.proofs.Places.{Starts, Ends, board_first, value_last, value_within}

-- what is left of a text after so many bytes
rest_part : (count : ℕ) (text : List ℕ) → part_of (length text - count) 0 text ≡ drop count text
rest_part count text =
    (λ i. part_of (sym (length-drop count text) i) 0 (sym (take-append-drop count text) i)) ∙ between_last (take count text) (drop count text)

-- the direction is 1
direction_one : (field : List ℕ) → is_direction field ≡ true → number_in field ≡ 1
unfolding decimal_in number_from
direction_one field h = ap (number_from 0) (same_equal field (decimal 1) h)

-- a report takes two bytes of its number
number_pair : (number value : List ℕ) → report_of (get_or number 0 0 ∷ get_or number 1 0 ∷ []) value ≡ report_of number value
number_pair number [] = refl
number_pair number (byte ∷ bytes) = refl

-- a field without its first byte, by its places in a text
field_part :
    {text : List ℕ} (front field after : List ℕ) {from to : ℕ} → text ≡ front ++ (field ++ after) → from ≡ length field - 1 + length after → to ≡ length after
    → part_of from to text ≡ drop 1 field
field_part {text} front field after e f t =
    let split : text ≡ (front ++ take 1 field) ++ (drop 1 field ++ after) =
    e
    ∙ ap (λ (l : List ℕ). front ++ (l ++ after)) (sym (take-append-drop 1 field))
    ∙ ap (λ (l : List ℕ). front ++ l) (append_assoc (take 1 field) (drop 1 field) after)
    ∙ sym (append_assoc front (take 1 field) (drop 1 field ++ after)) in
    (λ i. part_of ((f ∙ ap (λ (n : ℕ). n + length after) (sym (length-drop 1 field))) i) (t i) (split i))
    ∙ between_parts (front ++ take 1 field) (drop 1 field) after

module _ (text : List ℕ) where
  abbrev first : Line
  first = first_line text

  abbrev fields : List (List ℕ)
  fields = fields_in first

  abbrev behind : List ℕ
  behind = drop (line_size text) text

  -- the places of an accepted row
  module _ (right : Passed first) where
    ended : line_size text < length text
    ended = ltb-true _ _ right.line_ended

    long : length first.text ≡ line_size text
    long = length-take-le (line_size text) text (line_within text)

    stands : {line : List ℕ} → quoted fields ≡ line → text ≡ line ++ behind
    stands e = sym (take-append-drop (line_size text) text) ∙ ap (λ (l : List ℕ). l ++ behind) (sym (fields_quoted first.text fields right.found) ∙ e)

    board_part : part_of (length text - 2) (length text - 2 - 32) text ≡ drop 1 (field_at 0 fields)
    board_part =
        let place : Starts (quoted fields) (field_at 0 fields) = board_first fields right.count in
        let size = (in_form_lem fields right.form).board_size in
        let split : text ≡ (quote ∷ []) ++ (field_at 0 fields ++ (place.after ++ behind)) =
        stands place.first ∙ ap (λ (l : List ℕ). quote ∷ l) (append_assoc (field_at 0 fields) place.after behind) in
        let sizes : length text ≡ 1 + (length (field_at 0 fields) + length (place.after ++ behind)) = ap length split ∙ simp length-append (omega arith) in
        field_part (quote ∷ []) (field_at 0 fields) (place.after ++ behind) split (omega arith) (omega arith)

    value_part :
        part_of (length text - (line_size text - 1) + (length (field_at 4 fields) - 1)) (length text - (line_size text - 1)) text ≡ drop 1 (field_at 4 fields)
    value_part =
        let place : Ends (quoted fields) (field_at 4 fields) = value_last fields right.count in
        let value = field_at 4 fields in
        let split : text ≡ place.front ++ (value ++ (quote ∷ behind)) =
        stands place.last
        ∙ append_assoc place.front (value ++ quote ∷ []) behind
        ∙ ap (λ (l : List ℕ). place.front ++ l) (append_assoc value (quote ∷ []) behind) in
        let whole : length (quoted fields) ≡ line_size text = ap length (fields_quoted first.text fields right.found) ∙ long in
        let after : length text - (line_size text - 1) ≡ length (quote ∷ behind) = omega (arith, length-drop (line_size text) text, line_within text, value_within place) in
        field_part place.front value (quote ∷ behind) split (ap (λ (n : ℕ). n + (length value - 1)) after ∙ omega arith) after

    report_same :
        (from to : ℕ) → part_of from to text ≡ drop 1 (field_at 4 fields)
        → report_of (bytes_in (drop 2 (field_at 3 fields))) (bytes_in (drop 1 (field_at 4 fields)))
        ≡ report_of (get_or (bytes_in (drop 2 (field_at 3 fields))) 0 0 ∷ get_or (bytes_in (drop 2 (field_at 3 fields))) 1 0 ∷ []) (bytes_in (part_of from to text))
    report_same from to e =
        let number = bytes_in (drop 2 (field_at 3 fields)) in
        sym (number_pair number (bytes_in (drop 1 (field_at 4 fields)))) ∙ ap (λ (l : List ℕ). report_of (get_or number 0 0 ∷ get_or number 1 0 ∷ []) (bytes_in l)) (sym e)

  -- what is read after the first line
  abbrev rest : List ℕ
  rest = drop (line_size text + 2) text

  rest_same : (line : ℕ) → import_text line rest ≡ import_text line (part_of (rest_size text) 0 text)
  rest_same line = ap (import_text line) (sym (rest_part (line_size text + 2) text))

  opened_by : (by : Option Refusal) → or_refused by 1 (import_text 2 rest) ≡ import_opened import_text text (opened_as by text)
  opened_by none = rest_same 2
  opened_by (some refusal) = refl

  row_by :
      (line : ℕ) → line < line_limit → (by : Option Refusal) → first_refusal line_refusals first ≡ by
      → or_refused by line (row (row_from fields) (import_text (line + 1) rest)) ≡ import_after import_text text (next_as by text line)
  row_by line h (some refusal) e = refl
  row_by line h none e =
      let right : Passed first = passed first e in
      let next : line + 1 ≡ line_after line = rw (lt-ltb line line_limit h) in
      λ i.
      row
      (row_of (bytes_in (sym (board_part right) i)) (direction_one (field_at 1 fields) (in_form_lem fields right.form).one i) (number_in (field_at 2 fields))
      (report_same right (length text - (line_size text - 1) + (length (field_at 4 fields) - 1)) (length text - (line_size text - 1)) (value_part right) i))
      ((rest_same (line + 1) ∙ ap (λ (n : ℕ). import_text n (part_of (rest_size text) 0 text)) next) i)

header_read : (text : List ℕ) → import_of text ≡ import_opened import_text text (opened_of text)
unfolding import_lines lines_behind
header_read [] = refl
header_read (c ∷ s) =
    let text = c ∷ s in
    ap import_lines (some_lines text (omega arith))
    ∙ opened_by text (first_refusal header_refusals (first_line text))
    ∙ rw (eqb-suc-zero (length s))

row_read : (text : List ℕ) (line : ℕ) → line < line_limit → import_text line text ≡ import_after import_text text (next_row text line)
unfolding import_from lines_behind
row_read [] line h = refl
row_read (c ∷ s) line h =
    let text = c ∷ s in
    ap (import_from line) (some_lines text (omega arith))
    ∙ row_by text line h (first_refusal line_refusals (first_line text)) refl
    ∙ rw (eqb-suc-zero (length s))

pub reads_tables : ReadsTables
reads_tables = record { by_header = header_read; by_row = row_read }
