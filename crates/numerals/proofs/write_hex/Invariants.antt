use Prim.Native.Nat.{◌+◌, ◌*◌, ◌≤◌}
use mathlib.Core.Path.{◌≡◌}
use lib.ListN.{length, take}
use Rattle.octets.specs.Octets.{overwrite}
use Rattle.numerals.specs.Numerals.{hex_bytes}
use Rattle.numerals.proofs.write_hex.Given as goal

abbrev pub invariant-loop-i : goal.invariant-loop-i
invariant-loop-i l = (l.at + 2 * length l.bytes ≤ length l.initial.text) × (l.text ≡ overwrite l.initial.text l.at (hex_bytes (take l.i l.bytes)))
