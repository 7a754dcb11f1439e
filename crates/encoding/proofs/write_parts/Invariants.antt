use Rattle.std.proofs.Common.{◌≡◌, ◌+◌, length, take}
use Rattle.octets.specs.Octets.{overwrite}
use Rattle.encoding.specs.Writing.{joined}
use Rattle.encoding.proofs.write_parts.Given as goal

-- the parts so far are written
abbrev pub invariant-loop-part : goal.invariant-loop-part
invariant-loop-part l =
    let so_far = joined (take l.part-index l.parts) in
    record { place : l.end ≡ l.at + length so_far; laid : l.buffer ≡ overwrite l.initial.buffer l.at so_far }
