-- The answer to a discovery (the search of document 01): from the packet, the board's ID, its unit type and the response buffer alone.
use Rattle.std.specs.Prelude.{ℕ, List, [], ◌∷◌, ltb, length}
use Rattle.std.proofs.Math.Option.{Option, none, some, get_or}
use Rattle.octets.specs.Octets.{overwrite}
use Rattle.framing.specs.Frame.{Frame, frame, packet_of, packet_length}
use Rattle.framing.specs.Packet.{frame_of}
use Rattle.framing.specs.Refusal.{Rule, rule, first_refusal}
use Rattle.refusals.specs.declared.Refusal.{Refusal}
use Rattle.refusals.specs.declared.Refusal.TheVariants.{NoFunction, MalformedBlock, DiscoveryWrites, LongResponse}
use Rattle.block.specs.Command.{Report}
use Rattle.block.specs.Encoding.{encode_reports}
use Rattle.block.specs.Request.{no_function, no_commands}
use Rattle.model.specs.Conditions.{commands_in, other_than_reads}
use Rattle.model.specs.Commands.{discover_reports}
use Rattle.model.specs.declared.Answer.{Answer}
use Rattle.model.specs.declared.Answer.TheVariants.{Refused, Silence, Response}

-- what a packet returns beside the record, and the bytes that it leaves in the response buffer
pub record Reply : Type 0 where
  pub answer : Answer
  pub buffer : List ℕ

abbrev pub reply_of : Answer → List ℕ → Reply
reply_of answer buffer = record { answer = answer; buffer = buffer }

-- what is asked, and the ID and the unit type of the board that is asked
pub record Discovery : Type 0 where
  pub asked : Frame
  pub id : List ℕ
  pub unit : ℕ

abbrev pub discovery : List ℕ → List ℕ → ℕ → Discovery
discovery packet id unit = record { asked = frame_of packet; id = id; unit = unit }

-- each 007C reports the ID and each 00B9 the unit type, in the order of the commands
abbrev pub found_reports : Discovery → List Report
found_reports d = discover_reports d.id d.unit (get_or (commands_in d.asked) [])

-- with the password block of the packet
abbrev pub found_response : Discovery → Frame
found_response d = frame d.id d.asked.password 0x06 (encode_reports 0 (found_reports d))

unfoldable pub discovery_refusals : List (Rule Discovery)
discovery_refusals =
    rule NoFunction (λ (d : Discovery). no_function d.asked.function)
    ∷ rule MalformedBlock (λ (d : Discovery). no_commands d.asked.function d.asked.block)
    ∷ rule DiscoveryWrites (λ (d : Discovery). other_than_reads d.asked)
    ∷ rule LongResponse (λ (d : Discovery). ltb 256 (packet_length (found_response d)))
    ∷ []

-- silence, or the response in the first bytes of the buffer
abbrev pub reply_with : List Report → Discovery → List ℕ → Reply
reply_with [] d buffer = reply_of Silence buffer
reply_with (first ∷ rest) d buffer =
    reply_of (Response (length (packet_of (found_response d)))) (overwrite buffer 0 (packet_of (found_response d)))

-- the lowest of 9 to 12 that applies, or that
abbrev pub reply_by : Option Refusal → Discovery → List ℕ → Reply
reply_by (some refusal) d buffer = reply_of (Refused refusal) buffer
reply_by none d buffer = reply_with (found_reports d) d buffer

unfoldable pub discovery_reply : List ℕ → List ℕ → ℕ → List ℕ → Reply
discovery_reply packet id unit buffer = reply_by (first_refusal discovery_refusals (discovery packet id unit)) (discovery packet id unit) buffer
