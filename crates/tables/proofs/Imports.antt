-- Import of an export gives back the same rows.
use Prim.Native.Nat.{ℕ, zero, suc, ◌+◌, ◌*◌, ◌%◌, ◌<◌, ◌≤◌, ◌^◌}
use native.Mathlib.Omega.{arith}
use mathlib.Core.Bool.{Bool, true, false, cond, not, ◌&&◌, ◌||◌}
use mathlib.Core.List.{List, [], ◌∷◌, ◌++◌, append_assoc, map}
use mathlib.Core.Option.{Option, none, some, get_or}
use mathlib.Core.Path.{◌≡◌, refl, ap, ◌∙◌}
use borrow.Author.Tests.{eq-eqb, ne_eqb, lt-ltb, le-leb, leb-true, not-true}
use lib.Dec.{leb, eqb}
use lib.ListN.{length, drop}
use Rattle.octets.specs.Octets.{between, same}
use Rattle.octets.proofs.Booleans.{both_true}
use Rattle.octets.proofs.Same.{same_self}
use Rattle.refusals.specs.declared.Refusal.{Refusal}
use Rattle.refusals.specs.declared.Refusal.{Refusal}
use Rattle.refusals.specs.declared.Refusal.TheVariants.{BadField, BadLine, FieldCount}
use Rattle.framing.specs.Refusal.{first_refusal}
use Rattle.block.specs.Command.{Report, held, unknown}
use Rattle.block.specs.Reading.{is_some}
use Rattle.captures.specs.Numbers.{Bytes}
use Rattle.numerals.specs.Numerals.{hex_bytes, decimal_in, decimal}
use Rattle.numerals.proofs.ReadDecimals.{number_back}
use Rattle.tables.specs.Lines.{Line, line_end, lines_behind, lines}
use Rattle.tables.specs.Fields.{quote, comma, quoted, fields_of}
use Rattle.tables.specs.Rows.{Row, number_of, value_of, hex_field, number_field, row_fields, header_fields, row_lines, table_of}
use Rattle.tables.specs.Importing.{is_hex, all_hex, all_digits, number_in, is_decimal, is_hex_field, is_number, counter_limit, in_form, fields_in, line_refusals, header_refusals, report_of, row_from, row, or_refused, import_from, import_lines, bytes_in}
use Rattle.tables.specs.Statements.{Reported, Exportable, AllExportable, all_rows, ended, ImportsExported}
use Rattle.tables.proofs.Lines.{NoReturn, line_written}
use Rattle.tables.proofs.Fields.{NoQuote, NoQuotes, fields_written}
use Rattle.tables.proofs.Digits.{HexBack, hex_back, decimal_digits, decimal_leads}

-- digits have neither quote nor CR
abbrev Plain : List ℕ → Type 0
Plain l = NoQuote l × NoReturn l

above : (c : ℕ) → 0x30 ≤ c → (eqb c 0x22 ≡ false) × (eqb c 0x0D ≡ false)
above c h = (ne_eqb c 0x22 (λ e. omega arith), ne_eqb c 0x0D (λ e. omega arith))

hex_above : (c : ℕ) → is_hex c ≡ true → 0x30 ≤ c
hex_above c h = by_digit (between 0x30 0x39 c) (between 0x41 0x46 c) refl refl h
  where
    by_digit : (a b : Bool) → between 0x30 0x39 c ≡ a → between 0x41 0x46 c ≡ b → (a || b) ≡ true → 0x30 ≤ c
    by_digit true b e f h = leb-true 0x30 c (both_true (leb 0x30 c) (leb c 0x39) e).0
    by_digit false true e f h = omega (arith, leb-true 0x41 c (both_true (leb 0x41 c) (leb c 0x46) f).0)
    by_digit false false e f h = let impossible : ◌≡◌ {A = ℕ} 0 1 = cc in absurd (omega arith)

hex_plain : (l : List ℕ) → all_hex l ≡ true → Plain l
unfolding all_hex
hex_plain [] h = (tt, tt)
hex_plain (c ∷ s) h =
    let both = both_true (is_hex c) (all_hex s) h in
    let rest = hex_plain s both.1 in
    let first = above c (hex_above c both.0) in
    ((first.0, rest.0), (first.1, rest.1))

digits_plain : (l : List ℕ) → all_digits l ≡ true → Plain l
unfolding all_digits
digits_plain [] h = (tt, tt)
digits_plain (c ∷ s) h =
    let both = both_true (between 0x30 0x39 c) (all_digits s) h in
    let rest = digits_plain s both.1 in
    let first = above c (leb-true 0x30 c (both_true (leb 0x30 c) (leb c 0x39) both.0).0) in
    ((first.0, rest.0), (first.1, rest.1))

-- a line of such fields
no_return_join : (l r : List ℕ) → NoReturn l → NoReturn r → NoReturn (l ++ r)
no_return_join [] r h k = k
no_return_join (c ∷ s) r h k = (h.0, no_return_join s r h.1 k)

abbrev AllPlain : List (List ℕ) → Type 0
AllPlain [] = Unit {0}
AllPlain (f ∷ fs) = Plain f × AllPlain fs

line_plain : (f : List ℕ) (fs : List (List ℕ)) → AllPlain (f ∷ fs) → NoReturn (quoted (f ∷ fs)) × NoQuotes (f ∷ fs)
unfolding quoted
line_plain f [] h = ((refl, no_return_join f (quote ∷ []) h.0.1 (refl, tt)), (h.0.0, tt))
line_plain f (g ∷ fs) h =
    let rest = line_plain g fs h.1 in
    ((refl, no_return_join f (quote ∷ comma ∷ quoted (g ∷ fs)) h.0.1 (refl, (refl, rest.0))), (h.0.0, rest.1))

-- a field of bytes
record HexRead (bytes : List ℕ) : Type 0 where
  form : is_hex_field (hex_field bytes) ≡ true
  size : length (hex_field bytes) ≡ 1 + 2 * length bytes
  back : bytes_in (drop 1 (hex_field bytes)) ≡ bytes
  plain : Plain (hex_field bytes)

hex_read : (bytes : List ℕ) → Bytes bytes → HexRead bytes
hex_read bytes h =
    let b : HexBack bytes = hex_back bytes h in
    let size : length (hex_field bytes) ≡ 1 + 2 * length bytes = omega (arith, b.size) in
    let odd : length (hex_field bytes) % 2 ≡ 1 = ap (λ (n : ℕ). n % 2) size ∙ omega arith in
    let plain = hex_plain (hex_bytes bytes) b.hex in
    record { form = λ i. true && b.hex i && eq-eqb _ 1 odd i; size = size; back = b.back; plain = ((refl, plain.0), (refl, plain.1)) }

-- a number of 32 bits
small : (n : ℕ) → n ≤ counter_limit → n < 10 ^ 20
small n h = omega (arith, h)

zero_form : is_decimal (decimal 0) ≡ true
unfolding decimal_in all_digits
zero_form = refl

decimal_form : (n : ℕ) → n ≤ counter_limit → is_decimal (decimal n) ≡ true
decimal_form zero h = zero_form
decimal_form (suc m) h =
    let leads = decimal_leads 20 (suc m) (small (suc m) h) (omega arith) in
    rw (lt-ltb _ _ leads.0, decimal_digits 20 (suc m), lt-ltb _ _ leads.1)

two_bytes : (page low : ℕ) → page < 256 → low < 256 → Bytes (page ∷ low ∷ [])
two_bytes page low h k zero = h
two_bytes page low h k (suc zero) = k
two_bytes page low h k (suc (suc place)) = omega arith

-- the bytes of a report's number and of its value
number_bytes : (r : Report) → Reported r → Bytes (number_of r) × Bytes (value_of r)
number_bytes (held page low value) h = (two_bytes page low h.0 h.1, h.2)
number_bytes (unknown page low) h = (two_bytes page low h.0 h.1, λ place. omega arith)

report_back : (r : Report) → Reported r → report_of (number_of r) (value_of r) ≡ r
report_back (held page low []) h = absurd (omega (arith, h.3))
report_back (held page low (byte ∷ bytes)) h = refl
report_back (unknown page low) h = refl

value_short : (r : Report) → Reported r → length (value_of r) ≤ 255
value_short (held page low value) h = h.4
value_short (unknown page low) h = omega arith

number_two : (r : Report) → length (number_of r) ≡ 2
number_two (held page low value) = refl
number_two (unknown page low) = refl

module _ (r : Row) (h : Exportable r) where
  board : HexRead r.board
  board = hex_read r.board h.id_bytes

  number : HexRead (number_of r.report)
  number = hex_read (number_of r.report) (number_bytes r.report h.reported).0

  value : HexRead (value_of r.report)
  value = hex_read (value_of r.report) (number_bytes r.report h.reported).1

  direction_plain : Plain (decimal r.direction)
  direction_plain = digits_plain (decimal r.direction) (decimal_digits 20 r.direction)

  counter_plain : Plain (decimal r.counter)
  counter_plain = digits_plain (decimal r.counter) (decimal_digits 20 r.counter)

  all_plain : AllPlain (row_fields r)
  all_plain =
      (board.plain, (direction_plain, (counter_plain, (((refl, number.plain.0), (refl, number.plain.1)), (value.plain, tt)))))

  clean : NoReturn (quoted (row_fields r)) × NoQuotes (row_fields r)
  clean = line_plain _ _ all_plain

  abbrev line : Line
  line = ended (row_fields r)

  split : fields_of (quoted (row_fields r)) ≡ some (row_fields r)
  split = fields_written _ _ clean.1

  number_formed : is_number (number_field (number_of r.report)) ≡ true
  number_formed =
      let six : length (0x30 ∷ hex_field (number_of r.report)) ≡ 6 = omega (arith, number.size, number_two r.report) in
      λ i. true && number.form i && eq-eqb _ 6 six i

  formed : in_form (row_fields r) ≡ true
  formed =
      let sized : length (hex_field r.board) ≡ 33 = omega (arith, board.size, h.id_size) in
      let one : same (decimal r.direction) (decimal 1) ≡ true = ap (λ (n : ℕ). same (decimal n) (decimal 1)) h.response ∙ same_self (decimal 1) in
      let counted : leb (number_in (decimal r.counter)) counter_limit ≡ true =
      ap (λ (n : ℕ). leb n counter_limit) (number_back 20 r.counter (small r.counter h.counter_small)) ∙ le-leb _ _ h.counter_small in
      let short : leb (length (hex_field (value_of r.report))) 511 ≡ true = le-leb (length (hex_field (value_of r.report))) 511 (omega (arith, value.size, value_short r.report h.reported)) in
      λ i. (board.form i && eq-eqb _ 33 sized i) && one i && (decimal_form r.counter h.counter_small i && counted i) && number_formed i && (value.form i && short i)

  one_small : r.direction < 10 ^ 20
  one_small = omega (arith, h.response)

  made_back : row_from (row_fields r) ≡ r
  made_back = λ i.
      record {
        board = board.back i;
        direction = number_back 20 r.direction one_small i;
        counter = number_back 20 r.counter (small r.counter h.counter_small) i;
        report = ((λ j. report_of (number.back j) (value.back j)) ∙ report_back r.report h.reported) i;
      }

  abbrev fields : Option (List (List ℕ)) → List (List ℕ)
  fields o = get_or o []

  row_read : row_from (fields_in line) ≡ r
  row_read = ap (λ (o : Option (List (List ℕ))). row_from (fields o)) split ∙ made_back

  abbrev judged : Option (List (List ℕ)) → Option Refusal
  judged o =
      cond (not true || not (is_some o)) (some BadLine) (cond (not (eqb (length (fields o)) 5)) (some FieldCount) (cond (not (in_form (fields o))) (some BadField) none))

  not_refused : first_refusal line_refusals line ≡ none
  unfolding line_refusals first_refusal
  not_refused = ap judged split ∙ ap (λ (t : Bool). cond (not t) (some BadField) none) formed

  pub row_back : (at : ℕ) (rest : List Line) → import_from at (line ∷ rest) ≡ row r (import_from (at + 1) rest)
  unfolding import_from
  row_back at rest = λ i. or_refused (not_refused i) at (row (row_read i) (import_from (at + 1) rest))

rows_back : (at : ℕ) (rs : List Row) → AllExportable rs → import_from at (map (λ (r : Row). ended (row_fields r)) rs) ≡ all_rows rs
unfolding import_from AllExportable all_rows
rows_back at [] h = refl
rows_back at (r ∷ rs) h =
    row_back r h.0 at (map (λ (r : Row). ended (row_fields r)) rs) ∙ ap (row r) (rows_back (at + 1) rs h.1)

-- the lines of the rows
lines_back : (rs : List Row) → AllExportable rs → lines (row_lines rs) ≡ map (λ (r : Row). ended (row_fields r)) rs
unfolding row_lines AllExportable lines_behind
lines_back [] h = refl
lines_back (r ∷ rs) h =
    ap lines (append_assoc (quoted (row_fields r)) line_end (row_lines rs))
    ∙ line_written (quoted (row_fields r)) (row_lines rs) (clean r h.0).0
    ∙ ap (λ (rest : List Line). ended (row_fields r) ∷ rest) (lines_back rs h.1)

-- the header is what it must be
abbrev return_free : List ℕ → Bool
return_free [] = true
return_free (c ∷ s) = not (eqb c 0x0D) && return_free s

no_return : (l : List ℕ) → return_free l ≡ true → NoReturn l
no_return [] h = tt
no_return (c ∷ s) h =
    let both = both_true (not (eqb c 0x0D)) (return_free s) h in
    (not-true _ both.0, no_return s both.1)

header_clean : NoReturn (quoted header_fields)
unfolding quoted
header_clean = no_return (quoted header_fields) refl

header_passes : first_refusal header_refusals (ended header_fields) ≡ none
unfolding header_refusals first_refusal quoted same
header_passes = refl

pub table_lines : (rs : List Row) → AllExportable rs → lines (table_of rs) ≡ ended header_fields ∷ map (λ (r : Row). ended (row_fields r)) rs
table_lines rs h =
    ap lines (append_assoc (quoted header_fields) line_end (row_lines rs))
    ∙ line_written (quoted header_fields) (row_lines rs) header_clean
    ∙ ap (λ (rest : List Line). ended header_fields ∷ rest) (lines_back rs h)

pub imports_exported : ImportsExported
unfolding import_lines
imports_exported rs h =
    ap import_lines (table_lines rs h)
    ∙ ap (λ (o : Option Refusal). or_refused o 1 (import_from 2 (map (λ (r : Row). ended (row_fields r)) rs))) header_passes
    ∙ rows_back 2 rs h
