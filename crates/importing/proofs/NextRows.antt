-- The answers of `read_row` and `next_row`, case by case.
use Prim.Native.Nat.{ℕ, ◌+◌, ◌-◌, ◌<◌, ◌≤◌}
use native.Mathlib.Omega.{arith}
use mathlib.Core.Bool.{true}
use mathlib.Core.List.{List}
use mathlib.Core.Option
use mathlib.Core.Option.{none, some}
use mathlib.Core.Path.{◌≡◌, refl, sym, ap, ◌∙◌}
use borrow.Author.Tests.{eq-eqb, ne_eqb, lt-ltb, le-ltb}
use lib.ListN.{length, take}
use Rattle.std.specs.Prelude as answers
use Rattle.std.specs.Prelude.{Some, None, Ok, Err}
use Rattle.refusals.specs.declared.Refusal.{Refusal}
use Rattle.refusals.specs.declared.Refusal.TheVariants.{BadField, BadLine, FieldCount}
use Rattle.framing.specs.Refusal.{first_refusal}
use Rattle.block.specs.Reading.{is_some}
use Rattle.tables.specs.Fields.{fields_of, quoted}
use Rattle.tables.specs.Lines.{line_of, line_size}
use Rattle.tables.specs.Importing.{field_at, fields_in, line_refusals}
use Rattle.tables.proofs.Fields.{fields_quoted}
use Rattle.tables.proofs.InForm.{Passed, passed}
use Rattle.importing.specs.Forms.{fields_read, row_fields_of}
use Rattle.importing.specs.Splitting.{first_fields, counted}
use Rattle.importing.specs.Reading.{read_as, row_read, line_after, rest_size, refused_as, next_as, next_row}
use Rattle.importing.specs.declared.forms.RowFields.{RowFields}
use Rattle.importing.specs.declared.reading.NextRow.TheVariants as next
use Rattle.importing.proofs.Places.{value_last, value_within}
use Rattle.importing.proofs.RowForms.{in_form_read, fields_wrong, in_form_lem}
use Rattle.importing.proofs.Splits.{some_counted, none_counted, first_fields_lem}

module _ (line : List ℕ) where
  abbrev fields : List (List ℕ)
  fields = fields_in (line_of line true)

  pub row_unquoted : counted 0 (fields_of line) ≡ None → row_read line ≡ Err BadLine
  unfolding line_refusals first_refusal
  row_unquoted h = rw (ap is_some (none_counted (fields_of line) refl h))

  module _ {count : ℕ} (h : counted 0 (fields_of line) ≡ Some count) where
    told : (fields_of line ≡ some fields) × (count ≡ length fields)
    told = some_counted (fields_of line) (sym h) refl

    found : is_some (fields_of line) ≡ true
    found = ap is_some told.0

    pub row_count : (count ≡ 5 → ⊥) → row_read line ≡ Err FieldCount
    unfolding line_refusals first_refusal
    row_count other = rw (found, ne_eqb (length fields) 5 (λ e. other (told.1 ∙ e)))

    module _ (right : count ≡ 5) where
      five : length fields ≡ 5
      five = sym told.1 ∙ right

      first_five : first_fields 5 line ≡ fields
      first_five = ap (λ (n : ℕ). first_fields n line) (sym five) ∙ first_fields_lem fields line told.0

      formed_by : (read : answers.Option RowFields) → row_fields_of (first_fields 5 line) ≡ read → answers.ok_or read BadField ≡ row_read line
      unfolding line_refusals first_refusal
      formed_by None e = rw (found, eq-eqb _ 5 five, fields_wrong fields (sym e ∙ ap row_fields_of first_five) refl)
      formed_by (Some read) e =
          let right = in_form_read fields (sym e ∙ ap row_fields_of first_five) refl in
          rw (found, eq-eqb _ 5 five, right.0) (ap Ok right.1)

      pub row_formed : answers.ok_or (row_fields_of (first_fields 5 line)) BadField ≡ row_read line
      row_formed = formed_by (row_fields_of (first_fields 5 line)) refl

-- a line that is accepted: its fields, and how long the value's is
module _ (line : List ℕ) {read : RowFields} (e : row_read line ≡ Ok read) where
  accepted_by : (refused : Option.Option Refusal) → read_as refused (fields line) ≡ Ok read → (refused ≡ none) × (fields_read (fields line) ≡ read)
  accepted_by none h = (refl, cc)
  accepted_by (some refusal) h = ((cc), (cc))

  accepted : (first_refusal line_refusals (line_of line true) ≡ none) × (fields_read (fields line) ≡ read)
  accepted = accepted_by (first_refusal line_refusals (line_of line true)) e

  pub value_holds : (read.value + 2 ≤ length line) × (1 ≤ read.value)
  value_holds =
      let right : Passed (line_of line true) = passed (line_of line true) accepted.0 in
      let value : length (field_at 4 (fields line)) ≡ read.value = ap (λ (r : RowFields). r.value) accepted.1 in
      let whole : quoted (fields line) ≡ line = fields_quoted line (fields line) right.found in (
        omega (arith, value, ap length whole, value_within (value_last (fields line) right.count)),
        omega (arith, value, (in_form_lem (fields line) right.form).value_size),
      )

-- and so of the answer of `read_row`
pub row_bounded :
    (line : List ℕ) {answer : answers.Result RowFields Refusal} → answer ≡ row_read line → answers.IfOk answer (λ (row : RowFields). (1 ≤ row.value) × (row.value + 2 ≤ length line))
row_bounded line {answer = Ok read} e = let both = value_holds line (sym e) in (both.1, both.0)
row_bounded line {answer = Err refusal} e = tt

module _ (text : List ℕ) (number : ℕ) (any : length text ≡ 0 → ⊥) where
  pub row_open : length text ≤ line_size text → next_row text number ≡ refused_as BadLine number
  unfolding line_refusals first_refusal
  row_open h = rw (ne_eqb _ 0 any, le-ltb _ _ h)

  module _ (ended : line_size text < length text) where
    abbrev line : List ℕ
    line = take (line_size text) text

    by_line : next_row text number ≡ next_as (first_refusal line_refusals (line_of line true)) text number
    by_line = rw (ne_eqb _ 0 any, lt-ltb _ _ ended)

    refused_by : {refusal : Refusal} (refused : Option.Option Refusal) → read_as refused (fields line) ≡ Err refusal → next_as refused text number ≡ refused_as refusal number
    refused_by none e = cc
    refused_by (some first) e = let same : first ≡ _ = cc in ap (λ (r : Refusal). refused_as r number) same

    pub row_refused : {refusal : Refusal} → row_read line ≡ Err refusal → next_row text number ≡ refused_as refusal number
    row_refused e = by_line ∙ refused_by (first_refusal line_refusals (line_of line true)) e

    pub row_accepted :
        {read : RowFields} → row_read line ≡ Ok read
        → next_row text number
        ≡ next.Row (length text - 2) read.counter read.page read.low (length text - (line_size text - 1) + (read.value - 1)) (length text - (line_size text - 1))
        (rest_size text) (line_after number)
    row_accepted e =
        let right = accepted line e in
        by_line
        ∙ ap (λ (refused : Option.Option Refusal). next_as refused text number) right.0
        ∙ ap
        (λ (r : RowFields).
        next.Row (length text - 2) r.counter r.page r.low (length text - (line_size text - 1) + (r.value - 1)) (length text - (line_size text - 1))
        (rest_size text) (line_after number))
        right.1
