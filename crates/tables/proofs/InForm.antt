-- The rows that import gives are in form, and a text that it accepts is the table of its rows.
use Prim.Native.Nat.{ℕ, zero, suc, ◌+◌, ◌*◌, ◌%◌, ◌<◌, ◌≤◌}
use native.Mathlib.Omega.{arith}
use mathlib.Core.Bool.{Bool, true, false, cond, not, ◌&&◌}
use mathlib.Core.List.{List, [], ◌∷◌, ◌++◌}
use mathlib.Core.Option
use mathlib.Core.Option.{Option, none, some}
use mathlib.Core.Path.{◌≡◌, refl, sym, ap, ◌∙◌}
use borrow.Author.Tests.{eqb-true, leb-true, ltb-true, not-false}
use lib.Dec.{leb, ltb, eqb}
use lib.ListN.{length, take, drop, get_or}
use Rattle.octets.proofs.Booleans.{both_true, neither}
use Rattle.octets.proofs.Same.{same_equal}
use Rattle.refusals.specs.declared.Refusal.{Refusal}
use Rattle.framing.specs.Refusal.{first_refusal}
use Rattle.framing.proofs.Refusals.{not_refused}
use Rattle.block.specs.Reading.{is_some}
use Rattle.captures.specs.Numbers.{Bytes}
use Rattle.numerals.specs.Numerals.{decimal}
use Rattle.numerals.proofs.ReadDecimals.{number_back}
use Rattle.tables.specs.Lines.{Line, line_end, ends_here, line_size, first_line, lines_behind}
use Rattle.tables.specs.Fields.{quoted, fields_of}
use Rattle.tables.specs.Rows.{Row, number_of, value_of, hex_field, number_field, row_fields, header_fields, header_line, row_line, row_lines, table_of}
use Rattle.tables.specs.Importing.{bytes_in, all_hex, is_hex_field, is_board, is_direction, is_decimal, is_counter, is_number, is_value, number_in, counter_limit, fields_in, field_at, in_form, line_refusals, header_refusals, report_of, row_from, Imported, row, or_refused, import_from, import_lines, import_of, rows_given, is_whole}
use Rattle.tables.specs.Statements.{Reported, Exportable, AllExportable, ImportsInForm}
use Rattle.tables.proofs.Fields.{fields_quoted}
use Rattle.tables.proofs.Digits.{HexForth, hex_written, decimal_written}

-- CR LF stands where a line ends
line_stands : (text : List ℕ) → line_size text < length text → take (line_size text) text ++ line_end ++ drop (line_size text + 2) text ≡ text
unfolding line_size
line_stands [] h = absurd (omega (arith, h))
line_stands (c ∷ s) h = by_test (ends_here (c ∷ s)) refl (λ less. line_stands s less) h
  where
    second : (s : List ℕ) → get_or s 0 0 ≡ 0x0A → 0x0A ∷ drop 1 s ≡ s
    second [] e = absurd (omega (arith, e))
    second (d ∷ t) e = ap (λ (n : ℕ). n ∷ t) (sym e)

    by_test :
        (here : Bool) → ends_here (c ∷ s) ≡ here → (line_size s < length s → take (line_size s) s ++ line_end ++ drop (line_size s + 2) s ≡ s)
        → cond here 0 (suc (line_size s)) < length (c ∷ s)
        → take (cond here 0 (suc (line_size s))) (c ∷ s) ++ line_end ++ drop (cond here 0 (suc (line_size s)) + 2) (c ∷ s) ≡ c ∷ s
    by_test true e again h =
        let both = both_true (eqb c 0x0D) (eqb (get_or s 0 0) 0x0A) e in
        λ i. sym (eqb-true c 0x0D both.0) i ∷ second s (eqb-true (get_or s 0 0) 0x0A both.1) i
    by_test false e again h =
        let moved : suc (line_size s) + 2 ≡ suc (line_size s + 2) = omega arith in
        rw moved (ap (λ (l : List ℕ). c ∷ l) (again (omega (arith, h))))

-- a field of bytes
record HexRead (field : List ℕ) : Type 0 where
  shown : hex_field (bytes_in (drop 1 field)) ≡ field
  small : Bytes (bytes_in (drop 1 field))
  size : length field ≡ 1 + 2 * length (bytes_in (drop 1 field))

hex_read : (field : List ℕ) → is_hex_field field ≡ true → HexRead field
hex_read [] h = let impossible : ◌≡◌ {A = ℕ} 0 1 = cc in absurd (omega arith)
hex_read (c ∷ s) h =
    let odd = both_true (eqb c 0x78 && all_hex s) (eqb (length (c ∷ s) % 2) 1) h in
    let hex = both_true (eqb c 0x78) (all_hex s) odd.0 in
    let pairs : length s % 2 ≡ 0 = omega (arith, eqb-true (length (c ∷ s) % 2) 1 odd.1) in
    let back : HexForth s = hex_written s hex.1 pairs in
    record {
      shown = λ i. sym (eqb-true c 0x78 hex.0) i ∷ back.forth i;
      small = back.small;
      size = omega (arith, back.size);
    }

-- a number of two bytes, and a report by number and value
two : (l : List ℕ) → length l ≡ 2 → get_or l 0 0 ∷ get_or l 1 0 ∷ [] ≡ l
two [] h = absurd (omega (arith, h))
two (a ∷ []) h = absurd (omega (arith, h))
two (a ∷ b ∷ []) h = refl
two (a ∷ b ∷ c ∷ s) h = absurd (omega (arith, h))

number_kept : (number value : List ℕ) → length number ≡ 2 → number_of (report_of number value) ≡ number
number_kept number [] h = two number h
number_kept number (byte ∷ bytes) h = two number h

value_kept : (number value : List ℕ) → value_of (report_of number value) ≡ value
value_kept number [] = refl
value_kept number (byte ∷ bytes) = refl

reported : (number value : List ℕ) → Bytes number → Bytes value → length value ≤ 255 → Reported (report_of number value)
reported number [] h k few = (h 0, h 1)
reported number (byte ∷ bytes) h k few = (h 0, h 1, k, omega arith, few)

five : (fields : List (List ℕ)) → length fields ≡ 5 → field_at 0 fields ∷ field_at 1 fields ∷ field_at 2 fields ∷ field_at 3 fields ∷ field_at 4 fields ∷ [] ≡ fields
five [] h = absurd (omega (arith, h))
five (a ∷ []) h = absurd (omega (arith, h))
five (a ∷ b ∷ []) h = absurd (omega (arith, h))
five (a ∷ b ∷ c ∷ []) h = absurd (omega (arith, h))
five (a ∷ b ∷ c ∷ d ∷ []) h = absurd (omega (arith, h))
five (a ∷ b ∷ c ∷ d ∷ e ∷ []) h = refl
five (a ∷ b ∷ c ∷ d ∷ e ∷ f ∷ s) h = absurd (omega (arith, h))

-- the fields of a row are those that it was read from
module _ (fields : List (List ℕ)) (count : length fields ≡ 5) (form : in_form fields ≡ true) where
  abbrev board : List ℕ
  board = field_at 0 fields

  abbrev direction : List ℕ
  direction = field_at 1 fields

  abbrev counter : List ℕ
  counter = field_at 2 fields

  abbrev number : List ℕ
  number = field_at 3 fields

  abbrev value : List ℕ
  value = field_at 4 fields

  record Forms : Type 0 where
    board_form : is_board board ≡ true
    direction_form : is_direction direction ≡ true
    counter_form : is_counter counter ≡ true
    number_form : is_number number ≡ true
    value_form : is_value value ≡ true

  forms : Forms
  forms =
      let four = both_true (is_board board && is_direction direction && is_counter counter && is_number number) (is_value value) form in
      let three = both_true (is_board board && is_direction direction && is_counter counter) (is_number number) four.0 in
      let both = both_true (is_board board && is_direction direction) (is_counter counter) three.0 in
      let one = both_true (is_board board) (is_direction direction) both.0 in
      record { board_form = one.0; direction_form = one.1; counter_form = both.1; number_form = three.1; value_form = four.1 }

  board_read : HexRead board
  board_read = hex_read board (both_true (is_hex_field board) (eqb (length board) 33) forms.board_form).0

  direction_read : decimal 1 ≡ direction
  direction_read = sym (same_equal direction (decimal 1) forms.direction_form)

  response : number_in direction ≡ 1
  response = ap number_in (sym direction_read) ∙ number_back 20 1 (omega arith)

  counter_read : (decimal (number_in counter) ≡ counter) × (number_in counter ≤ counter_limit)
  counter_read =
      let both = both_true (is_decimal counter) (leb (number_in counter) counter_limit) forms.counter_form in
      let small : number_in counter ≤ counter_limit = leb-true (number_in counter) counter_limit both.1 in
      (decimal_written counter both.0 small, small)

  value_read : HexRead value
  value_read = hex_read value (both_true (is_hex_field value) (leb (length value) 511) forms.value_form).0

  value_short : length (bytes_in (drop 1 value)) ≤ 255
  value_short =
      omega (arith, value_read.size, leb-true (length value) 511 (both_true (is_hex_field value) (leb (length value) 511) forms.value_form).1)

  -- 0 before a field of two bytes
  record NumberRead (field : List ℕ) : Type 0 where
    behind : HexRead (drop 1 field)
    bytes_size : length (bytes_in (drop 2 field)) ≡ 2
    number_shown : number_field (bytes_in (drop 2 field)) ≡ field

  number_in_lem : (field : List ℕ) → is_number field ≡ true → NumberRead field
  number_in_lem [] h = let impossible : ◌≡◌ {A = ℕ} 0 1 = cc in absurd (omega arith)
  number_in_lem (c ∷ s) h =
      let six = both_true (eqb c 0x30 && is_hex_field s) (eqb (length (c ∷ s)) 6) h in
      let first = both_true (eqb c 0x30) (is_hex_field s) six.0 in
      let rest : HexRead s = hex_read s first.1 in
      record {
        behind = rest;
        bytes_size = omega (arith, dropped s, rest.size, eqb-true (length (c ∷ s)) 6 six.1);
        number_shown = λ i. sym (eqb-true c 0x30 first.0) i ∷ rest.shown i;
      }
    where
      dropped : (s : List ℕ) → length (bytes_in (drop 2 (c ∷ s))) ≡ length (bytes_in (drop 1 s))
      dropped s = refl

  number_read : NumberRead number
  number_read = number_in_lem number forms.number_form

  abbrev r : Row
  r = row_from fields

  pub fields_kept : row_fields r ≡ fields
  fields_kept =
      (λ i.
      board_read.shown i
      ∷ (ap decimal response ∙ direction_read) i
      ∷ counter_read.0 i
      ∷ (ap number_field (number_kept (bytes_in (drop 2 number)) (bytes_in (drop 1 value)) number_read.bytes_size) ∙ number_read.number_shown) i
      ∷ (ap hex_field (value_kept (bytes_in (drop 2 number)) (bytes_in (drop 1 value))) ∙ value_read.shown) i
      ∷ [])
      ∙ five fields count

  number_bytes : Bytes (bytes_in (drop 2 number))
  number_bytes = ap_bytes number number_read.behind.small
    where
      ap_bytes : (field : List ℕ) → Bytes (bytes_in (drop 1 (drop 1 field))) → Bytes (bytes_in (drop 2 field))
      ap_bytes [] h = h
      ap_bytes (c ∷ s) h = h

  pub row_exportable : Exportable r
  row_exportable =
      record {
        id_size = omega (arith, board_read.size, eqb-true (length board) 33 (both_true (is_hex_field board) (eqb (length board) 33) forms.board_form).1);
        id_bytes = board_read.small;
        response = response;
        counter_small = counter_read.1;
        reported = reported (bytes_in (drop 2 number)) (bytes_in (drop 1 value)) number_bytes value_read.small value_short;
      }

-- what is known of a line that is not refused
pub record Passed (l : Line) : Type 0 where
  pub line_ended : l.ended ≡ true
  pub found : fields_of l.text ≡ some (fields_in l)
  pub count : length (fields_in l) ≡ 5
  pub form : in_form (fields_in l) ≡ true

some_found : (found : Option (List (List ℕ))) → is_some found ≡ true → found ≡ some (Option.get_or found [])
some_found none h = cc
some_found (some fields) h = refl

pub passed : (l : Line) → first_refusal line_refusals l ≡ none → Passed l
unfolding line_refusals
passed l h =
    let quoting = not_refused _ _ l h in
    let counted = not_refused _ _ l quoting.1 in
    let formed = not_refused _ _ l counted.1 in
    let both = neither (not l.ended) (not (is_some (fields_of l.text))) quoting.0 in
    record {
      line_ended = not-false _ both.0;
      found = some_found (fields_of l.text) (not-false _ both.1);
      count = eqb-true (length (fields_in l)) 5 (not-false _ counted.0);
      form = not-false _ formed.0;
    }

-- the rows that are read of a text, and the text
record Kept (text : List ℕ) (read : Imported) : Type 0 where
  exportable : AllExportable (rows_given read)
  table : is_whole read ≡ true → row_lines (rows_given read) ≡ text

-- the first line, with its end, and the rest
first_kept : (text first : List ℕ) → first ≡ take (line_size text) text → ltb (line_size text) (length text) ≡ true → first ++ line_end ++ drop (line_size text + 2) text ≡ text
first_kept text first e ended =
    ap (λ (l : List ℕ). l ++ line_end ++ drop (line_size text + 2) text) e
    ∙ line_stands text (ltb-true (line_size text) (length text) ended)

module _ (text : List ℕ) (rest : Imported) (after : Kept (drop (line_size text + 2) text) rest) where
  row_kept :
      (line : ℕ) (by : Option Refusal) → first_refusal line_refusals (first_line text) ≡ by
      → Kept text (or_refused by line (row (row_from (fields_in (first_line text))) rest))
  unfolding rows_given is_whole row_lines AllExportable
  row_kept line (some refusal) e = record { exportable = tt; table = λ h. let impossible : ◌≡◌ {A = ℕ} 0 1 = cc in absurd (omega arith) }
  row_kept line none e =
      let right : Passed (first_line text) = passed (first_line text) e in
      let fields = fields_in (first_line text) in
      let stands : quoted (row_fields (row_from fields)) ≡ take (line_size text) text =
      ap quoted (fields_kept fields right.count right.form) ∙ fields_quoted (take (line_size text) text) fields right.found in
      record {
        exportable = (row_exportable fields right.count right.form, after.exportable);
        table = λ h.
            ap (λ (l : List ℕ). row_line (row_from fields) ++ l) (after.table h)
            ∙ first_kept text (quoted (row_fields (row_from fields))) stands right.line_ended;
      }

kept : (line : ℕ) (text : List ℕ) (k : ℕ) → Kept (drop k text) (import_from line (lines_behind text k))
unfolding lines_behind import_from rows_given is_whole row_lines AllExportable
kept line [] zero = record { exportable = tt; table = λ h. refl }
kept line [] (suc k) = record { exportable = tt; table = λ h. refl }
kept line (c ∷ s) (suc k) = kept line s k
kept line (c ∷ s) zero =
    let moved : line_size (c ∷ s) + 2 ≡ suc (line_size (c ∷ s) + 1) = omega arith in
    let after : Kept (drop (line_size (c ∷ s) + 2) (c ∷ s)) (import_from (line + 1) (lines_behind s (line_size (c ∷ s) + 1))) =
    rw moved (kept (line + 1) s (line_size (c ∷ s) + 1)) in
    row_kept (c ∷ s) (import_from (line + 1) (lines_behind s (line_size (c ∷ s) + 1))) after line (first_refusal line_refusals (first_line (c ∷ s))) refl

-- the header, which is not refused, and the rows behind it
module _ (text : List ℕ) (rest : Imported) (after : Kept (drop (line_size text + 2) text) rest) where
  table_kept :
      (by : Option Refusal) → first_refusal header_refusals (first_line text) ≡ by
      → AllExportable (rows_given (or_refused by 1 rest)) × (is_whole (or_refused by 1 rest) ≡ true → table_of (rows_given (or_refused by 1 rest)) ≡ text)
  unfolding rows_given is_whole AllExportable header_refusals
  table_kept (some refusal) e = (tt, λ h. let impossible : ◌≡◌ {A = ℕ} 0 1 = cc in absurd (omega arith))
  table_kept none e =
      let header = not_refused _ _ (first_line text) e in
      let ended = not_refused _ _ (first_line text) header.1 in
      let stands : quoted header_fields ≡ take (line_size text) text = sym (same_equal (take (line_size text) text) (quoted header_fields) (not-false _ header.0)) in
      (after.exportable, λ h. ap (λ (l : List ℕ). header_line ++ l) (after.table h) ∙ first_kept text (quoted header_fields) stands (not-false _ ended.0))

in_form_lem : (text : List ℕ) → AllExportable (rows_given (import_of text)) × (is_whole (import_of text) ≡ true → table_of (rows_given (import_of text)) ≡ text)
unfolding lines_behind import_lines rows_given is_whole AllExportable
in_form_lem [] = (tt, λ h. let impossible : ◌≡◌ {A = ℕ} 0 1 = cc in absurd (omega arith))
in_form_lem (c ∷ s) =
    let moved : line_size (c ∷ s) + 2 ≡ suc (line_size (c ∷ s) + 1) = omega arith in
    let after : Kept (drop (line_size (c ∷ s) + 2) (c ∷ s)) (import_from 2 (lines_behind s (line_size (c ∷ s) + 1))) =
    rw moved (kept 2 s (line_size (c ∷ s) + 1)) in
    table_kept (c ∷ s) (import_from 2 (lines_behind s (line_size (c ∷ s) + 1))) after (first_refusal header_refusals (first_line (c ∷ s))) refl

pub imports_in_form : ImportsInForm
imports_in_form text = record { exportable = (in_form_lem text).0; table = (in_form_lem text).1 }
