-- The invariant: the number so far and the digits left decide the answer.
use Rattle.std.proofs.Common.{◌≡◌, ◌≤◌, drop}
use Rattle.tables.specs.Importing.{counter_limit}
use Rattle.importing.specs.Forms.{digits_read}
use Rattle.importing.proofs.forms.read_digits.Given as goal

abbrev pub invariant-loop-digit : goal.invariant-loop-digit
invariant-loop-digit l = (l.number ≤ counter_limit) × (digits_read 0 l.digits ≡ digits_read l.number (drop l.digit-index l.digits))
