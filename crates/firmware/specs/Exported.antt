-- The demands of the exported calls. A call is known only by its contract: the record as it was lent and as it came back, and what is told in
-- numbers.
use Rattle.std.specs.Prelude.{ℕ, ◌≤◌, true, List, [], ◌∷◌, ◌≡◌, length}
use Rattle.model.specs.Authentication.{discovers}
use Rattle.model.specs.Discovery.{discovery_reply}
use Rattle.model.specs.Measurement.{MeasureCall, measure_call, MeasuresBoard}
use Rattle.model.specs.Noninterference.{OwnCall, of_packet, of_measurement, ListedCall, to_both, to_first, to_second, Unauthenticated, without}
use Rattle.model.specs.Record.{password_of, unit_of, SetUp, SetsUp}
use Rattle.model.specs.Step.{Call, call, Steps}
use Rattle.model.specs.declared.Answered.{Answered}
use Rattle.model.specs.declared.Board.{Board}
use Rattle.model.specs.declared.Stepped.{Stepped}
use Rattle.firmware.specs.Controller.{reply_of, Replies, result_of, set_up_result, measure_result}
use Rattle.firmware.specs.declared.controller.CallResult.{CallResult}
use Rattle.firmware.specs.declared.Reply.{Reply}

-- what `udgornwy_packet` leaves and returns is that of a result of `packet`, with its answer in numbers
pub record FromStep (c : Call) (next : Board) (reply : Reply) (after : List ℕ) : Type 0 where
  pub result : Stepped
  pub contract : Steps c result after
  pub board : next ≡ result.board
  pub answer : reply ≡ reply_of result.answer

-- likewise what `udgornwy_set_up` and `udgornwy_measure` return
pub record FromAnswered (Contract : Answered → Type 0) (kept : CallResult) : Type 0 where
  pub result : Answered
  pub contract : Contract result
  pub told : kept ≡ result_of result.board result.verdict

-- so that whatever is proved of the board's functions holds of the exported calls
pub record ExportsFollow : Type 0 where
  pub packet : (c : Call) (next : Board) (reply : Reply) (after : List ℕ) → Replies c next reply after → FromStep c next reply after
  pub set_up : (given : SetUp) (kept : CallResult) → kept ≡ set_up_result given → FromAnswered (SetsUp given) kept
  pub measure : (c : MeasureCall) (kept : CallResult) → kept ≡ measure_result c → FromAnswered (MeasuresBoard c) kept

-- Demand 3: an exported call of one board alone, from the record that it took to the one that it gave back
pub data OwnCalled (board : Board) : Board → Type 0 where
  packet_called :
      (packet buffer after : List ℕ) {next : Board} (reply : Reply) → Replies (call board packet buffer) next reply after → OwnCalled board next
  measure_called : (n : ℕ) (value : List ℕ) (kept : CallResult) → kept ≡ measure_result (measure_call board n value) → OwnCalled board kept.board

-- the exported calls of two boards, from these records on; each takes the record that this board's last call gave back
pub data Run : Board → Board → Type 0 where
  ended : {first second : Board} → Run first second
  called_both :
      {first second next next' : Board} (packet buffer left right : List ℕ) (reply reply' : Reply)
      → Replies (call first packet buffer) next reply left → Replies (call second packet buffer) next' reply' right
      → Run next next' → Run first second
  called_first : {first second next : Board} → OwnCalled first next → Run next second → Run first second
  called_second : {first second next : Board} → OwnCalled second next → Run first next → Run first second

abbrev pub own_call : {board next : Board} → OwnCalled board next → OwnCall
own_call (packet_called packet buffer after reply contract) = of_packet packet buffer
own_call (measure_called n value kept contract) = of_measurement n value

abbrev pub calls_of : {first second : Board} → Run first second → List ListedCall
calls_of ended = []
calls_of (called_both packet buffer left right reply reply' contract contract' later) = to_both packet buffer ∷ calls_of later
calls_of (called_first own later) = to_first (own_call own) ∷ calls_of later
calls_of (called_second own later) = to_second (own_call own) ∷ calls_of later

-- the records that the last calls gave back
abbrev pub ends_of : {first second : Board} → Run first second → Board × Board
ends_of {first} {second} ended = (first, second)
ends_of (called_both packet buffer left right reply reply' contract contract' later) = ends_of later
ends_of (called_first own later) = ends_of later
ends_of (called_second own later) = ends_of later

-- what a call tells beside the record: a packet's reply with the bytes of the response buffer, a measurement's number
pub data Told : Type 0 where
  replied : Reply → List ℕ → Told
  numbered : ℕ → Told

abbrev pub own_told : {board next : Board} → OwnCalled board next → Told
own_told (packet_called packet buffer after reply contract) = replied reply after
own_told (measure_called n value kept contract) = numbered kept.refusal

-- what each board's own calls told
abbrev pub told_of : {first second : Board} → Run first second → List Told × List Told
told_of ended = ([], [])
told_of (called_both packet buffer left right reply reply' contract contract' later) = told_of later
told_of (called_first own later) = (own_told own ∷ (told_of later).0, (told_of later).1)
told_of (called_second own later) = ((told_of later).0, own_told own ∷ (told_of later).1)

-- for each packet for both: the same reply, the same bytes, and each record as it was lent
abbrev pub AlikeCalled : {first second : Board} → Run first second → Type 0
AlikeCalled ended = Unit {0}
AlikeCalled {first} {second} (called_both {next} {next'} packet buffer left right reply reply' contract contract' later) =
    (reply ≡ reply') × (left ≡ right) × (next ≡ first) × (next' ≡ second) × AlikeCalled later
AlikeCalled (called_first own later) = AlikeCalled later
AlikeCalled (called_second own later) = AlikeCalled later

-- a discovery (search) leaves the record as it was lent, and is answered from the packet, the ID and the unit type
pub record DiscoverableCalled (id : List ℕ) (unit mode : ℕ) (board : Board) : Type 0 where
  pub unchanged :
      (packet buffer after : List ℕ) (next : Board) (reply : Reply) → Replies (call board packet buffer) next reply after
      → discovers mode packet ≡ true → next ≡ board
  pub answered :
      (packet buffer after : List ℕ) (next : Board) (reply : Reply) → Replies (call board packet buffer) next reply after
      → discovers mode packet ≡ true → 256 ≤ length buffer
      → (reply ≡ reply_of (discovery_reply packet id unit buffer).answer) × (after ≡ (discovery_reply packet id unit buffer).buffer)

pub record RunClaim (id : List ℕ) (unit mode : ℕ) {first second : Board} (run : Run first second) : Type 0 where
  pub alike : AlikeCalled run
  -- another run, of the same calls without the packets for both
  pub same_ends : (other : Run first second) → calls_of other ≡ without (calls_of run) → ends_of run ≡ ends_of other
  pub same_told : (other : Run first second) → calls_of other ≡ without (calls_of run) → told_of run ≡ told_of other
  pub first_discoverable : DiscoverableCalled id unit mode (ends_of run).0
  pub second_discoverable : DiscoverableCalled id unit mode (ends_of run).1

abbrev pub ExportedNoninterference : Type 0
ExportedNoninterference =
    (first second : SetUp) (one two : CallResult) → one ≡ set_up_result first → two ≡ set_up_result second
    → one.board.id ≡ two.board.id → unit_of one.board ≡ unit_of two.board → one.board.mode ≡ two.board.mode
    → (run : Run one.board two.board) → Unauthenticated (password_of one.board) (password_of two.board) (calls_of run)
    → RunClaim one.board.id (unit_of one.board) one.board.mode run
