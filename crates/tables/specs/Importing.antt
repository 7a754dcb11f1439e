-- The rows of a text, and its refusal if there is one.
use Rattle.std.specs.Prelude.{ℕ, ◌+◌, ◌-◌, ◌*◌, ◌%◌, Bool, true, false, cond, not, ◌&&◌, ◌||◌, List, [], ◌∷◌, leb, ltb, eqb, length, drop, get_or}
use Rattle.std.proofs.Math.Option
use Rattle.std.proofs.Math.Option.{Option, none, some}
use Rattle.std.specs.List.{list_all}
use Rattle.octets.specs.Octets.{between, same}
use Rattle.framing.specs.Refusal.{Rule, rule, first_refusal}
use Rattle.refusals.specs.declared.Refusal.{Refusal}
use Rattle.refusals.specs.declared.Refusal.TheVariants.{BadField, BadLine, FieldCount, TableHeader}
use Rattle.block.specs.Command.{Report, held, unknown}
use Rattle.block.specs.Reading.{is_some}
use Rattle.numerals.specs.Numerals.{decimal, number_from}
use Rattle.tables.specs.Lines.{Line, lines}
use Rattle.tables.specs.Fields.{quoted, fields_of}
use Rattle.tables.specs.Rows.{Row, row_of, header_fields}

-- 0 to 9, A to F
abbrev pub is_hex : ℕ → Bool
is_hex c = between 0x30 0x39 c || between 0x41 0x46 c

abbrev pub hex_value : ℕ → ℕ
hex_value c = cond (leb c 0x39) (c - 0x30) (c - 0x37)

unfoldable pub all_hex : List ℕ → Bool
all_hex digits = list_all is_hex digits

-- pairs of digits as bytes
unfoldable pub bytes_in : List ℕ → List ℕ
bytes_in [] = []
bytes_in (high ∷ []) = []
bytes_in (high ∷ low ∷ s) = (hex_value high * 16 + hex_value low) ∷ bytes_in s

abbrev pub is_digit : ℕ → Bool
is_digit c = between 0x30 0x39 c

unfoldable pub all_digits : List ℕ → Bool
all_digits digits = list_all is_digit digits

abbrev pub number_in : List ℕ → ℕ
number_in digits = number_from 0 digits

-- decimal, without leading zeros
abbrev pub is_decimal : List ℕ → Bool
is_decimal digits = ltb 0 (length digits) && all_digits digits && (ltb 0x30 (get_or digits 0 0) || eqb (length digits) 1)

-- the largest number of 32 bits
abbrev pub counter_limit : ℕ
counter_limit = 4294967295

-- x and two digits for each byte
abbrev pub is_hex_field : List ℕ → Bool
is_hex_field field = eqb (get_or field 0 0) 0x78 && all_hex (drop 1 field) && eqb (length field % 2) 1

-- the fields of a line in their order
abbrev pub is_board : List ℕ → Bool
is_board field = is_hex_field field && eqb (length field) 33

abbrev pub is_direction : List ℕ → Bool
is_direction field = same field (decimal 1)

abbrev pub is_counter : List ℕ → Bool
is_counter field = is_decimal field && leb (number_in field) counter_limit

abbrev pub is_number : List ℕ → Bool
is_number field = eqb (get_or field 0 0) 0x30 && is_hex_field (drop 1 field) && eqb (length field) 6

abbrev pub is_value : List ℕ → Bool
is_value field = is_hex_field field && leb (length field) 511

-- the fields of a line; none where its quoting fails
abbrev pub fields_in : Line → List (List ℕ)
fields_in l = Option.get_or (fields_of l.text) []

abbrev pub field_at : ℕ → List (List ℕ) → List ℕ
field_at place fields = get_or fields place []

-- 61: quoting or line end
abbrev pub wrong_quoting : Line → Bool
wrong_quoting l = not l.ended || not (is_some (fields_of l.text))

-- 62: field count
abbrev pub wrong_count : Line → Bool
wrong_count l = not (eqb (length (fields_in l)) 5)

-- 63: a field outside its form, a counter over 32 bits, or a value over 255 bytes
abbrev pub in_form : List (List ℕ) → Bool
in_form fields =
    is_board (field_at 0 fields) && is_direction (field_at 1 fields) && is_counter (field_at 2 fields)
    && is_number (field_at 3 fields) && is_value (field_at 4 fields)

abbrev pub wrong_form : Line → Bool
wrong_form l = not (in_form (fields_in l))

unfoldable pub line_refusals : List (Rule Line)
line_refusals = rule BadLine wrong_quoting ∷ rule FieldCount wrong_count ∷ rule BadField wrong_form ∷ []

-- 60: a header that differs
abbrev pub other_header : Line → Bool
other_header l = not (same l.text (quoted header_fields))

-- and 61 for its line end
unfoldable pub header_refusals : List (Rule Line)
header_refusals = rule TableHeader other_header ∷ rule BadLine (λ (l : Line). not l.ended) ∷ []

-- no value byte stands for an unknown parameter
abbrev pub report_of : List ℕ → List ℕ → Report
report_of number [] = unknown (get_or number 0 0) (get_or number 1 0)
report_of number (byte ∷ bytes) = held (get_or number 0 0) (get_or number 1 0) (byte ∷ bytes)

-- the row of fields in form
abbrev pub row_from : List (List ℕ) → Row
row_from fields =
    row_of (bytes_in (drop 1 (field_at 0 fields))) (number_in (field_at 1 fields)) (number_in (field_at 2 fields))
    (report_of (bytes_in (drop 2 (field_at 3 fields))) (bytes_in (drop 1 (field_at 4 fields))))

-- what is read: the rows in order, up to the end or to a refusal and the number of its line
pub data Imported : Type 0 where
  end : Imported
  refused : Refusal → ℕ → Imported
  row : Row → Imported → Imported

abbrev pub or_refused : Option Refusal → ℕ → Imported → Imported
or_refused none line after = after
or_refused (some refusal) line after = refused refusal line

-- lines from this number on
unfoldable pub import_from : ℕ → List Line → Imported
import_from line [] = end
import_from line (l ∷ ls) = or_refused (first_refusal line_refusals l) line (row (row_from (fields_in l)) (import_from (line + 1) ls))

-- the header is line 1; 60 where it is missing
unfoldable pub import_lines : List Line → Imported
import_lines [] = refused TableHeader 1
import_lines (l ∷ ls) = or_refused (first_refusal header_refusals l) 1 (import_from 2 ls)

abbrev pub import_of : List ℕ → Imported
import_of text = import_lines (lines text)

-- the rows before the end or the refusal
unfoldable pub rows_given : Imported → List Row
rows_given end = []
rows_given (refused refusal line) = []
rows_given (row r after) = r ∷ rows_given after

unfoldable pub is_whole : Imported → Bool
is_whole end = true
is_whole (refused refusal line) = false
is_whole (row r after) = is_whole after
