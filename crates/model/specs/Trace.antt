-- Demand 3 of what the functions return: runs in which each call is known only by its function's contract.
use Rattle.std.specs.Prelude.{ℕ, ◌≤◌, true, List, [], ◌∷◌, ◌≡◌, length}
use Rattle.model.specs.Authentication.{discovers}
use Rattle.model.specs.Discovery.{reply_of, discovery_reply}
use Rattle.model.specs.Measurement.{measure_call, MeasuresBoard}
use Rattle.model.specs.Noninterference.{OwnCall, of_packet, of_measurement, ListedCall, to_both, to_first, to_second, Returned, replied, judged, Unauthenticated, without}
use Rattle.model.specs.Record.{password_of, unit_of, SetUp, SetsUp}
use Rattle.model.specs.Step.{call, Steps}
use Rattle.model.specs.declared.Answered.{Answered}
use Rattle.model.specs.declared.Board.{Board}
use Rattle.model.specs.declared.Stepped.{Stepped}

-- a call of one board alone, from the record that it took to the one that it returned
pub data OwnMade (board : Board) : Board → Type 0 where
  packet_made : (packet buffer after : List ℕ) (result : Stepped) → Steps (call board packet buffer) result after → OwnMade board result.board
  measurement_made : (n : ℕ) (value : List ℕ) (result : Answered) → MeasuresBoard (measure_call board n value) result → OwnMade board result.board

-- the calls made of two boards, from these records on; each takes the record that this board's last call returned
pub data Trace : Board → Board → Type 0 where
  ended : {first second : Board} → Trace first second
  made_both :
      {first second : Board} (packet buffer left right : List ℕ) (one two : Stepped)
      → Steps (call first packet buffer) one left → Steps (call second packet buffer) two right
      → Trace one.board two.board → Trace first second
  made_first : {first second next : Board} → OwnMade first next → Trace next second → Trace first second
  made_second : {first second next : Board} → OwnMade second next → Trace first next → Trace first second

abbrev pub own_call : {board next : Board} → OwnMade board next → OwnCall
own_call (packet_made packet buffer after result contract) = of_packet packet buffer
own_call (measurement_made n value result contract) = of_measurement n value

abbrev pub own_returned : {board next : Board} → OwnMade board next → Returned
own_returned (packet_made packet buffer after result contract) = replied (reply_of result.answer after)
own_returned (measurement_made n value result contract) = judged result.verdict

abbrev pub calls_of : {first second : Board} → Trace first second → List ListedCall
calls_of ended = []
calls_of (made_both packet buffer left right one two contract contract' later) = to_both packet buffer ∷ calls_of later
calls_of (made_first own later) = to_first (own_call own) ∷ calls_of later
calls_of (made_second own later) = to_second (own_call own) ∷ calls_of later

-- the records that the last calls returned
abbrev pub ends_of : {first second : Board} → Trace first second → Board × Board
ends_of {first} {second} ended = (first, second)
ends_of (made_both packet buffer left right one two contract contract' later) = ends_of later
ends_of (made_first own later) = ends_of later
ends_of (made_second own later) = ends_of later

-- what each board's own calls returned beside the record
abbrev pub returns_of : {first second : Board} → Trace first second → List Returned × List Returned
returns_of ended = ([], [])
returns_of (made_both packet buffer left right one two contract contract' later) = returns_of later
returns_of (made_first own later) = (own_returned own ∷ (returns_of later).0, (returns_of later).1)
returns_of (made_second own later) = ((returns_of later).0, own_returned own ∷ (returns_of later).1)

-- for each packet for both, the two calls returned the same answer, left the same bytes, and gave back the record that they took
abbrev pub AlikeMade : {first second : Board} → Trace first second → Type 0
AlikeMade ended = Unit {0}
AlikeMade {first} {second} (made_both packet buffer left right one two contract contract' later) =
    (one.answer ≡ two.answer) × (left ≡ right) × (one.board ≡ first) × (two.board ≡ second) × AlikeMade later
AlikeMade (made_first own later) = AlikeMade later
AlikeMade (made_second own later) = AlikeMade later

pub record DiscoverableMade (id : List ℕ) (unit mode : ℕ) (board : Board) : Type 0 where
  pub unchanged :
      (packet buffer after : List ℕ) (result : Stepped) → Steps (call board packet buffer) result after → discovers mode packet ≡ true
      → result.board ≡ board
  pub answered :
      (packet buffer after : List ℕ) (result : Stepped) → Steps (call board packet buffer) result after → discovers mode packet ≡ true
      → 256 ≤ length buffer → reply_of result.answer after ≡ discovery_reply packet id unit buffer

pub record TraceClaim (id : List ℕ) (unit mode : ℕ) {first second : Board} (trace : Trace first second) : Type 0 where
  pub alike : AlikeMade trace
  -- another run, of the same calls without the packets for both
  pub same_ends : (other : Trace first second) → calls_of other ≡ without (calls_of trace) → ends_of trace ≡ ends_of other
  pub same_returns : (other : Trace first second) → calls_of other ≡ without (calls_of trace) → returns_of trace ≡ returns_of other
  pub first_discoverable : DiscoverableMade id unit mode (ends_of trace).0
  pub second_discoverable : DiscoverableMade id unit mode (ends_of trace).1

abbrev pub TraceNoninterference : Type 0
TraceNoninterference =
    (first second : SetUp) (one two : Answered) → SetsUp first one → SetsUp second two
    → one.board.id ≡ two.board.id → unit_of one.board ≡ unit_of two.board → one.board.mode ≡ two.board.mode
    → (trace : Trace one.board two.board) → Unauthenticated (password_of one.board) (password_of two.board) (calls_of trace)
    → TraceClaim one.board.id (unit_of one.board) one.board.mode trace
