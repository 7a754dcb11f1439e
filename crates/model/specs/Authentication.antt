-- Which packets bear a password, and which are discoveries.
use Rattle.std.specs.Prelude.{ℕ, Bool, not, ◌&&◌, List}
use Rattle.octets.specs.Octets.{same}
use Rattle.framing.specs.Packet.{packet_refusal, frame_of}
use Rattle.block.specs.Reading.{is_some}
use Rattle.model.specs.Conditions.{discovers_in}

-- the packet passes 2 to 6
abbrev pub passes : List ℕ → Bool
passes packet = not (is_some (packet_refusal packet))

-- such a packet bears the password of its password block, any other none
abbrev pub bears : List ℕ → List ℕ → Bool
bears packet password = passes packet && same (frame_of packet).password password

-- a packet that is a discovery where this mode is in force
abbrev pub discovers : ℕ → List ℕ → Bool
discovers mode packet = passes packet && discovers_in mode (frame_of packet)
