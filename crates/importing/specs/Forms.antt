-- The fields of a row, as the code reads them.
use Rattle.std.specs.Prelude.{ℕ, cond, ◌&&◌, List, Option, Some, None, leb, length, drop, get_or}
use Rattle.numerals.specs.Numerals.{number_from}
use Rattle.tables.specs.Importing.{all_digits, number_in, bytes_in, counter_limit, is_counter, field_at, in_form}
use Rattle.importing.specs.declared.forms.RowFields.{RowFields}

-- decimal digits, behind those read so far
abbrev pub digits_read : ℕ → List ℕ → Option ℕ
digits_read so_far digits = cond (all_digits digits && leb (number_from so_far digits) counter_limit) (Some (number_from so_far digits)) None

abbrev pub counter_of : List ℕ → Option ℕ
counter_of field = cond (is_counter field) (Some (number_in field)) None

-- the fields of a row in form: its counter, page and low byte of its number, and how many bytes its value's field has
abbrev pub fields_read : List (List ℕ) → RowFields
fields_read fields =
    record {
      counter = number_in (field_at 2 fields);
      page = get_or (bytes_in (drop 2 (field_at 3 fields))) 0 0;
      low = get_or (bytes_in (drop 2 (field_at 3 fields))) 1 0;
      value = length (field_at 4 fields);
    }

abbrev pub row_fields_of : List (List ℕ) → Option RowFields
row_fields_of fields = cond (in_form fields) (Some (fields_read fields)) None
