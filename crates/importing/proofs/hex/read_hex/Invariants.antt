-- The invariant: the first bytes are in their places.
use Rattle.std.proofs.Common.{◌≡◌}
use lib.Seq.{paste}
use Rattle.tables.specs.Importing.{bytes_in}
use Rattle.importing.proofs.hex.read_hex.Given as goal

abbrev pub invariant-loop-i : goal.invariant-loop-i
invariant-loop-i l = l.bytes ≡ paste l.initial.bytes 0 (bytes_in l.digits) l.i
