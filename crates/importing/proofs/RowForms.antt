-- The fields of a row, field by field: the first that is outside its form decides.
use Prim.Native.Nat.{ℕ, ◌%◌, ◌≤◌}
use native.Mathlib.Omega.{arith}
use mathlib.Core.Bool.{Bool, true, false, cond, ◌&&◌, and-false}
use mathlib.Core.List.{List}
use mathlib.Core.Path.{◌≡◌, refl}
use borrow.Author.Tests.{eqb-true}
use lib.Dec.{leb, eqb}
use lib.ListN.{length, drop, get_or}
use Rattle.octets.proofs.Booleans.{both_true}
use Rattle.tables.specs.Importing.{all_hex, bytes_in, number_in, field_at, is_hex_field, is_board, is_direction, is_counter, is_number, is_value, in_form}
use Rattle.importing.specs.Forms.{counter_of, fields_read, row_fields_of}
use Rattle.importing.specs.Splitting.{first_field, after_field, first_fields}
use Rattle.importing.specs.declared.forms.RowFields.{RowFields}
use Rattle.std.specs.Prelude.{Option, Some, None}

-- what an answer tells that is a value where a condition holds, and none elsewhere
given : {a : Type 0} {answer : Option a} {value : a} (holds : Bool) → answer ≡ cond holds (Some value) None → {read : a} → answer ≡ Some read → (holds ≡ true) × (read ≡ value)
given true e h = (refl, cc)
given false e h = ((cc), (cc))

not_given : {a : Type 0} {answer : Option a} (holds : Bool) (value : a) → answer ≡ cond holds (Some value) None → answer ≡ None → holds ≡ false
not_given true value e h = cc
not_given false value e h = refl

-- what the answer of `read_counter` tells
module _ {answer : Option ℕ} (field : List ℕ) (told : answer ≡ counter_of field) where
  pub counter_read : {number : ℕ} → answer ≡ Some number → (is_counter field ≡ true) × (number ≡ number_in field)
  counter_read = given (is_counter field) told

  pub counter_wrong : answer ≡ None → is_counter field ≡ false
  counter_wrong = not_given (is_counter field) (number_in field) told

-- and that of `read_fields`
module _ {answer : Option RowFields} (fields : List (List ℕ)) (told : answer ≡ row_fields_of fields) where
  pub in_form_read : {read : RowFields} → answer ≡ Some read → (in_form fields ≡ true) × (read ≡ fields_read fields)
  in_form_read = given (in_form fields) told

  pub fields_wrong : answer ≡ None → in_form fields ≡ false
  fields_wrong = not_given (in_form fields) (fields_read fields) told

-- the fields of a row in form
pub record Formed (fields : List (List ℕ)) : Type 0 where
  pub board_size : length (field_at 0 fields) ≡ 33
  pub one : is_direction (field_at 1 fields) ≡ true
  pub value_size : 1 ≤ length (field_at 4 fields)

pub in_form_lem : (fields : List (List ℕ)) → in_form fields ≡ true → Formed fields
in_form_lem fields h =
    let four = both_true (is_board (field_at 0 fields) && is_direction (field_at 1 fields) && is_counter (field_at 2 fields) && is_number (field_at 3 fields)) (is_value (field_at 4 fields)) h in
    let three = both_true (is_board (field_at 0 fields) && is_direction (field_at 1 fields) && is_counter (field_at 2 fields)) (is_number (field_at 3 fields)) four.0 in
    let two = both_true (is_board (field_at 0 fields) && is_direction (field_at 1 fields)) (is_counter (field_at 2 fields)) three.0 in
    let first = both_true (is_board (field_at 0 fields)) (is_direction (field_at 1 fields)) two.0 in
    let value = field_at 4 fields in
    let hex = (both_true (is_hex_field value) (leb (length value) 511) four.1).0 in
    let odd : length value % 2 ≡ 1 = eqb-true _ _ (both_true (eqb (get_or value 0 0) 0x78 && all_hex (drop 1 value)) (eqb (length value % 2) 1) hex).1 in
    record {
      board_size = eqb-true _ _ (both_true (is_hex_field (field_at 0 fields)) (eqb (length (field_at 0 fields)) 33) first.0).1;
      one = first.1;
      value_size = omega arith;
    }

module _ (line : List ℕ) where
  abbrev pub line_1 : List ℕ
  line_1 = after_field line

  abbrev pub line_2 : List ℕ
  line_2 = after_field line_1

  abbrev pub line_3 : List ℕ
  line_3 = after_field line_2

  abbrev pub line_4 : List ℕ
  line_4 = after_field line_3

  abbrev board : Bool
  board = is_board (first_field line)

  abbrev direction : Bool
  direction = is_direction (first_field line_1)

  abbrev counter : Bool
  counter = is_counter (first_field line_2)

  abbrev number : Bool
  number = is_number (first_field line_3)

  abbrev value : Bool
  value = is_value (first_field line_4)

  abbrev Refused : Type 0
  Refused = row_fields_of (first_fields 5 line) ≡ None

  pub wrong_board : board ≡ false → Refused
  unfolding first_fields
  wrong_board e = rw e

  pub wrong_direction : direction ≡ false → Refused
  unfolding first_fields
  wrong_direction e = rw (e, and-false board)

  pub wrong_counter : counter ≡ false → Refused
  unfolding first_fields
  wrong_counter e = rw (e, and-false (board && direction))

  pub wrong_number : number ≡ false → Refused
  unfolding first_fields
  wrong_number e = rw (e, and-false (board && direction && counter))

  pub wrong_value : value ≡ false → Refused
  unfolding first_fields
  wrong_value e = rw (e, and-false (board && direction && counter && number))

  pub all_right :
      board ≡ true → direction ≡ true → counter ≡ true → number ≡ true → value ≡ true
      → row_fields_of (first_fields 5 line)
      ≡ Some
      record {
        counter = number_in (first_field line_2);
        page = get_or (bytes_in (drop 2 (first_field line_3))) 0 0;
        low = get_or (bytes_in (drop 2 (first_field line_3))) 1 0;
        value = length (first_field line_4);
      }
  unfolding first_fields
  all_right b d c n v = rw (b, d, c, n, v)
