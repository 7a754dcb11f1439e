-- What the answers of `read` and `write` tell of a packet and its parts.
use Rattle.std.proofs.Common.{◌≡◌, ℕ, ◌+◌, ◌-◌, Bool, true, false, cond, List, Option, None, Some, Result, Ok, Err, length, get_or, take, drop, refl, ap, ◌∙◌, arith}
use mathlib.Core.Option.{Option as Choice, none, some}
use Rattle.framing.specs.Frame.{Frame, packet_of}
use Rattle.framing.specs.Packet.{packet_refusal, places_of, frame_of, parsed_as, writable, Writes}
use Rattle.framing.specs.Statements.{Within, Stands, ReadConcludes}
use Rattle.framing.specs.declared.Places.{Places}
use Rattle.refusals.specs.declared.Refusal.{Refusal}
use Rattle.framing.proofs.Checks.{within_lengths, within_sizes}
use Rattle.framing.proofs.WritesRead.{accepted}

-- the refusal, or the places
refused_as : (rule : Choice Refusal) (places : Places) {parsed : Result Places Refusal} {refusal : Refusal} → parsed ≡ parsed_as rule places → parsed ≡ Err refusal → rule ≡ some refusal
refused_as (some first) places e h = let same : first ≡ _ = cc in ap some same
refused_as none places e h = cc

accepted_as : (rule : Choice Refusal) {given places : Places} {parsed : Result Places Refusal} → parsed ≡ parsed_as rule given → parsed ≡ Ok places → (rule ≡ none) × (places ≡ given)
accepted_as (some first) e h = ((cc), (cc))
accepted_as none e h = (refl, cc)

-- a packet that is read keeps its parts within its bytes
pub stands : (packet : List ℕ) → packet_refusal packet ≡ none → {places : Places} → places ≡ places_of packet → Stands packet places
stands packet right e =
    let known = accepted packet right in
    let lengths = within_lengths packet known.length_right in
    let sizes = within_sizes packet known.size_right in
    let inside : Within packet (places_of packet) = record { id = omega arith; password = omega arith; function = omega arith; block = omega arith; end = omega arith } in
    record { accepted = right; placed = e; within = rw e inside }

pub read_concludes : ReadConcludes
read_concludes packet answer e =
    record {
      refused = λ h. refused_as (packet_refusal packet) (places_of packet) e h;
      read = λ h. let told = accepted_as (packet_refusal packet) e h in stands packet told.0 told.1;
    }

-- what stands at the places, as board and tool cut it out of the packet
module _ {packet : List ℕ} {places : Places} (s : Stands packet places) where
  pub id_found : take (places.id + 16 - places.id) (drop places.id packet) ≡ (frame_of packet).id
  id_found = rw s.placed

  pub password_found : take (places.function - places.password) (drop places.password packet) ≡ (frame_of packet).password
  password_found = rw s.placed

  pub function_found : get_or packet places.function 0 ≡ (frame_of packet).function
  function_found = rw s.placed

  pub block_found : take (places.end - places.block) (drop places.block packet) ≡ (frame_of packet).block
  block_found = rw s.placed

-- whether the parts made a packet that fits, and its length
written_by : (yes : Bool) {answer : Option ℕ} {size length : ℕ} → answer ≡ cond yes (Some size) None → answer ≡ Some length → (yes ≡ true) × (length ≡ size)
written_by true e h = (refl, cc)
written_by false e h = ((cc), (cc))

not_written_by : (yes : Bool) {answer : Option ℕ} (size : ℕ) → answer ≡ cond yes (Some size) None → answer ≡ None → yes ≡ false
not_written_by true size e h = cc
not_written_by false size e h = refl

module _ {f : Frame} {buffer after : List ℕ} {answer : Option ℕ} (writes : Writes f buffer answer after) where
  pub frame_written : {written : ℕ} → answer ≡ Some written → (writable f buffer ≡ true) × (written ≡ length (packet_of f))
  frame_written h = written_by (writable f buffer) writes.answered h

  pub frame_not_written : answer ≡ None → (writable f buffer ≡ false) × (after ≡ buffer)
  frame_not_written h =
      let no : writable f buffer ≡ false = not_written_by (writable f buffer) _ writes.answered h in
      (no, writes.held ∙ rw no)
