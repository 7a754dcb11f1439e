-- Demand 3: an unauthenticated packet (that of a stranger, in document 01) learns and changes nothing. One claim about a list of calls
-- to two boards.
use Rattle.std.specs.Prelude.{ℕ, ◌≤◌, true, false, List, [], ◌∷◌, ◌≡◌, Result, ⊤, length}
use Rattle.refusals.specs.declared.Refusal.{Refusal}
use Rattle.model.specs.Authentication.{bears, discovers}
use Rattle.model.specs.Discovery.{Reply, discovery_reply}
use Rattle.model.specs.Measurement.{measure_call, measure_refusal, measured_board}
use Rattle.model.specs.PublicReply.{reply_to}
use Rattle.model.specs.Record.{verdict_of, password_of, unit_of, SetUp, set_up_board}
use Rattle.model.specs.Step.{call, step}
use Rattle.model.specs.declared.Board.{Board}

-- a call of one board alone: a packet with the bytes of its response buffer, or a measurement of a parameter
pub data OwnCall : Type 0 where
  of_packet : List ℕ → List ℕ → OwnCall
  of_measurement : ℕ → List ℕ → OwnCall

-- a packet for both boards, with equal bytes in the two response buffers; a call of the first alone, of the second alone
pub data ListedCall : Type 0 where
  to_both : List ℕ → List ℕ → ListedCall
  to_first : OwnCall → ListedCall
  to_second : OwnCall → ListedCall

-- what a call returns beside the record, a packet with the bytes of the response buffer
pub data Returned : Type 0 where
  replied : Reply → Returned
  judged : Result ⊤ Refusal → Returned

abbrev pub board_after : Board → OwnCall → Board
board_after board (of_packet packet buffer) = (step (call board packet buffer)).board
board_after board (of_measurement n value) = measured_board (measure_call board n value)

abbrev pub returned : Board → OwnCall → Returned
returned board (of_packet packet buffer) = replied (reply_to board packet buffer)
returned board (of_measurement n value) = judged (verdict_of (measure_refusal (measure_call board n value)))

-- each packet for both bears neither password
abbrev pub Unauthenticated : List ℕ → List ℕ → List ListedCall → Type 0
Unauthenticated first second [] = Unit {0}
Unauthenticated first second (to_both packet buffer ∷ calls) =
    (bears packet first ≡ false) × (bears packet second ≡ false) × Unauthenticated first second calls
Unauthenticated first second (to_first own ∷ calls) = Unauthenticated first second calls
Unauthenticated first second (to_second own ∷ calls) = Unauthenticated first second calls

-- the list without the packets for both
abbrev pub without : List ListedCall → List ListedCall
without [] = []
without (to_both packet buffer ∷ calls) = without calls
without (to_first own ∷ calls) = to_first own ∷ without calls
without (to_second own ∷ calls) = to_second own ∷ without calls

-- the records of both boards after the list
abbrev pub ends : Board → Board → List ListedCall → Board × Board
ends first second [] = (first, second)
ends first second (to_both packet buffer ∷ calls) =
    ends (step (call first packet buffer)).board (step (call second packet buffer)).board calls
ends first second (to_first own ∷ calls) = ends (board_after first own) second calls
ends first second (to_second own ∷ calls) = ends first (board_after second own) calls

-- what the first board's own calls returned, in order, and what the second's did
abbrev pub returns : Board → Board → List ListedCall → List Returned × List Returned
returns first second [] = ([], [])
returns first second (to_both packet buffer ∷ calls) =
    returns (step (call first packet buffer)).board (step (call second packet buffer)).board calls
returns first second (to_first own ∷ calls) =
    let later = returns (board_after first own) second calls in (returned first own ∷ later.0, later.1)
returns first second (to_second own ∷ calls) =
    let later = returns first (board_after second own) calls in (later.0, returned second own ∷ later.1)

-- each packet for both gets the same answer and leaves the same bytes, and changes neither board
abbrev pub Alike : Board → Board → List ListedCall → Type 0
Alike first second [] = Unit {0}
Alike first second (to_both packet buffer ∷ calls) =
    (reply_to first packet buffer ≡ reply_to second packet buffer)
    × ((step (call first packet buffer)).board ≡ first)
    × ((step (call second packet buffer)).board ≡ second)
    × Alike (step (call first packet buffer)).board (step (call second packet buffer)).board calls
Alike first second (to_first own ∷ calls) = Alike (board_after first own) second calls
Alike first second (to_second own ∷ calls) = Alike first (board_after second own) calls

-- a discovery leaves the board as it was, and is answered from the packet, the ID and the unit type, whatever password it bears
pub record Discoverable (id : List ℕ) (unit mode : ℕ) (board : Board) : Type 0 where
  pub unchanged : (packet buffer : List ℕ) → discovers mode packet ≡ true → (step (call board packet buffer)).board ≡ board
  pub answered :
      (packet buffer : List ℕ) → discovers mode packet ≡ true → 256 ≤ length buffer → reply_to board packet buffer ≡ discovery_reply packet id unit buffer

-- the claim, for two boards with this ID, this unit type and this mode in force
pub record Claim (id : List ℕ) (unit mode : ℕ) (first second : Board) (calls : List ListedCall) : Type 0 where
  -- an unauthenticated packet learns nothing and changes nothing
  pub alike : Alike first second calls
  -- without these packets the boards end with the same records, and their own calls return the same
  pub same_ends : ends first second calls ≡ ends first second (without calls)
  pub same_returns : returns first second calls ≡ returns first second (without calls)
  -- a discovery after the list
  pub first_discoverable : Discoverable id unit mode (ends first second calls).0
  pub second_discoverable : Discoverable id unit mode (ends first second calls).1

-- for any two set-ups, refused ones included, whose boards have the same ID, unit type and mode in force
abbrev pub Noninterference : Type 0
Noninterference =
    (first second : SetUp) → (set_up_board first).id ≡ (set_up_board second).id → unit_of (set_up_board first) ≡ unit_of (set_up_board second)
    → (set_up_board first).mode ≡ (set_up_board second).mode
    → (calls : List ListedCall) → Unauthenticated (password_of (set_up_board first)) (password_of (set_up_board second)) calls
    → Claim (set_up_board first).id (unit_of (set_up_board first)) (set_up_board first).mode (set_up_board first) (set_up_board second) calls
