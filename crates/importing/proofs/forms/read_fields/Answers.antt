use Prim.Native.Nat.{ℕ}
use mathlib.Core.Bool.{Bool, true}
use mathlib.Core.List.{List}
use mathlib.Core.Path.{◌≡◌, sym, ap, ◌∙◌}
use lib.ListN.{length, drop, get_or}
use Rattle.std.specs.Prelude.{Some}
use Rattle.tables.specs.Importing.{bytes_in, is_board, is_direction, is_counter, is_number, is_value, number_in}
use Rattle.importing.specs.Forms.{counter_of}
use Rattle.importing.specs.Splitting.{first_field, after_field}
use Rattle.importing.proofs.RowForms.{counter_read, counter_wrong, line_1, line_2, line_3, line_4, wrong_board, wrong_direction, wrong_counter, wrong_number, wrong_value, all_right}
use Rattle.importing.proofs.forms.read_fields.Goals as goal

-- what is left of a line behind one field more
follows : {before after line : List ℕ} → after ≡ after_field before → before ≡ line → after ≡ after_field line
follows is left = is ∙ ap after_field left

-- a field of it
field_told : {field before line : List ℕ} → field ≡ first_field before → before ≡ line → field ≡ first_field line
field_told taken left = taken ∙ ap first_field left

-- what was answered of a field
answered : (f : List ℕ → Bool) {answer : Bool} {field same : List ℕ} → answer ≡ f field → field ≡ same → f same ≡ answer
answered f asked e = sym (asked ∙ ap f e)

pub returns-then-not-is_board : goal.returns-then-not-is_board
returns-then-not-is_board c = sym (wrong_board c.args.line.now (answered is_board c.if-not-is_board.ensures c.first_field.ensures))

pub returns-then-not-is_direction : goal.returns-then-not-is_direction
returns-then-not-is_direction c =
    let line = c.args.line.now in
    sym (wrong_direction line (answered is_direction c.if-not-is_direction.ensures (field_told c.first_field-2.ensures c.after_field-after_board.ensures)))

pub returns-in_err-counter : goal.returns-in_err-counter
returns-in_err-counter c =
    let line = c.args.line.now in
    let left : c.after_field-after_direction.result.now ≡ line_2 line = follows c.after_field-after_direction.ensures c.after_field-after_board.ensures in
    c.from_residual.ensures
    ∙ sym (wrong_counter line (counter_wrong (first_field (line_2 line)) (c.read_counter.ensures ∙ ap counter_of (field_told c.first_field-3.ensures left)) c.in_err-counter.was))

pub returns-then-not-is_number : goal.returns-then-not-is_number
returns-then-not-is_number c =
    let line = c.args.line.now in
    let left : c.after_field-after_counter.result.now ≡ line_3 line =
    follows c.after_field-after_counter.ensures (follows c.after_field-after_direction.ensures c.after_field-after_board.ensures) in
    sym (wrong_number line (answered is_number c.if-not-is_number.ensures (field_told c.first_field-number.ensures left)))

pub returns-then-not-is_value : goal.returns-then-not-is_value
returns-then-not-is_value c =
    let line = c.args.line.now in
    let left : c.after_field.result.now ≡ line_4 line =
    follows c.after_field.ensures
    (follows c.after_field-after_counter.ensures (follows c.after_field-after_direction.ensures c.after_field-after_board.ensures)) in
    sym (wrong_value line (answered is_value c.if-not-is_value.ensures (field_told c.first_field-value.ensures left)))

pub returns : goal.returns
returns c =
    let line = c.args.line.now in
    let left_1 : c.after_field-after_board.result.now ≡ line_1 line = c.after_field-after_board.ensures in
    let left_2 : c.after_field-after_direction.result.now ≡ line_2 line = follows c.after_field-after_direction.ensures left_1 in
    let left_3 : c.after_field-after_counter.result.now ≡ line_3 line = follows c.after_field-after_counter.ensures left_2 in
    let left_4 : c.after_field.result.now ≡ line_4 line = follows c.after_field.ensures left_3 in
    let number : c.first_field-number.result.now ≡ first_field (line_3 line) = field_told c.first_field-number.ensures left_3 in
    let value : c.first_field-value.result.now ≡ first_field (line_4 line) = field_told c.first_field-value.ensures left_4 in
    let digits : c.bytes_after-digits.result.now ≡ drop 2 (first_field (line_3 line)) = c.bytes_after-digits.ensures ∙ ap (drop 2) number in
    let read : (is_counter (first_field (line_2 line)) ≡ true) × (c.in_ok-counter.counter ≡ number_in (first_field (line_2 line))) =
    counter_read (first_field (line_2 line)) (c.read_counter.ensures ∙ ap counter_of (field_told c.first_field-3.ensures left_2)) c.in_ok-counter.was in
    (λ i.
    Some
    record {
      counter = read.1 i;
      page = (c.byte_in.ensures ∙ ap (λ (l : List ℕ). get_or (bytes_in l) 0 0) digits) i;
      low = (c.byte_in-2.ensures ∙ ap (λ (l : List ℕ). get_or (bytes_in l) 1 0) digits) i;
      value = ap length value i;
    })
    ∙ sym
    (all_right line (answered is_board c.if-not-is_board.ensures c.first_field.ensures)
    (answered is_direction c.if-not-is_direction.ensures (field_told c.first_field-2.ensures left_1)) read.0
    (answered is_number c.if-not-is_number.ensures number) (answered is_value c.if-not-is_value.ensures value))
