-- The invariant: so far no line has ended.
use Rattle.std.proofs.Common.{◌≡◌, ◌+◌, drop}
use Rattle.tables.specs.Lines.{line_size}
use Rattle.importing.proofs.reading.line_size.Given as goal

abbrev pub invariant-loop-at : goal.invariant-loop-at
invariant-loop-at l = line_size l.text ≡ l.at + line_size (drop l.at l.text)
