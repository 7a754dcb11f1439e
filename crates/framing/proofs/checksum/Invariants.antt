use Rattle.std.proofs.Common.{◌≡◌, ◌%◌, take}
use Rattle.octets.specs.Octets.{sum as total}
use Rattle.framing.proofs.checksum.Given as goal

abbrev pub invariant-loop-byte : goal.invariant-loop-byte
invariant-loop-byte l = l.sum ≡ total (take l.byte-index l.bytes) % 65536
