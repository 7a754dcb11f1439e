-- The refusal of a packet by its conditions, and what it makes of the packet.
use Prim.Native.Nat.{ℕ}
use mathlib.Core.Bool.{Bool, true, false, cond, not}
use mathlib.Core.List.{List, [], ◌∷◌}
use mathlib.Core.Option.{Option, none, some, or_else}
use mathlib.Core.Path.{◌≡◌, refl, sym, ap, ◌∙◌}
use lib.ListN.{drop}
use Rattle.framing.specs.Packet.{packet_refusals, packet_refusal}
use Rattle.framing.specs.Refusal.{first_refusal}
use Rattle.framing.proofs.Refusals.{not_refused, parts_then, both_none}
use Rattle.refusals.specs.declared.Refusal.{Refusal}
use Rattle.refusals.specs.declared.Refusal.TheVariants.{ShortBuffer, OtherId, OtherPassword, NoFunction, MalformedBlock, DiscoveryWrites, LongResponse, BadRecord}
use Rattle.block.specs.Command.{Report}
use Rattle.block.specs.Reading.{is_some}
use Rattle.model.specs.Commands.{run}
use Rattle.model.specs.Record.{with_parameters}
use Rattle.model.specs.Step.{Request, Call, request, unsound, small_buffer, other_id, wrong_password, wrong_function, malformed, discovery_writes, long_response, request_refusals, step_refusals, step_refusal, is_discovery, commands_of, reports_of, Outcome, outcome_of, next_board, answer_with, outcome_by, step}
use Rattle.model.specs.declared.Answer.TheVariants.{Refused}
use Rattle.model.specs.declared.Board.{Board}
use Rattle.model.proofs.Earliest.{first_none}

-- no refusal: the option is empty
pub no_refusal : (refusal : Option Refusal) → not (is_some refusal) ≡ true → refusal ≡ none
no_refusal none h = refl
no_refusal (some found) h = absurd cc

-- those of the packet's bytes, then those of its frame
after_one : (c : Call) → first_refusal (drop 2 step_refusals) c ≡ or_else (packet_refusal c.packet) (first_refusal request_refusals (request c))
unfolding step_refusals packet_refusal
after_one c = parts_then c (λ (whole : Call). whole.packet) packet_refusals request request_refusals

pub step_refusal_lem :
    (c : Call)
    → step_refusal c
    ≡ cond (unsound c) (some BadRecord) (cond (small_buffer c) (some ShortBuffer) (or_else (packet_refusal c.packet) (first_refusal request_refusals (request c))))
unfolding step_refusal step_refusals first_refusal
step_refusal_lem c = ap (λ (after : Option Refusal). cond (unsound c) (some BadRecord) (cond (small_buffer c) (some ShortBuffer) after)) (after_one c)

-- the refusal of a frame, by the six conditions
pub request_refusal_by :
    (r : Request) {id_other password_wrong function_wrong block_malformed discovery_writes_lem response_long : Bool}
    → other_id r ≡ id_other → wrong_password r ≡ password_wrong → wrong_function r ≡ function_wrong
    → malformed r ≡ block_malformed → discovery_writes r ≡ discovery_writes_lem → long_response r ≡ response_long
    → first_refusal request_refusals r
    ≡ cond id_other (some OtherId) (cond password_wrong (some OtherPassword) (cond function_wrong (some NoFunction)
    (cond block_malformed (some MalformedBlock) (cond discovery_writes_lem (some DiscoveryWrites) (cond response_long (some LongResponse) none)))))
unfolding request_refusals first_refusal
request_refusal_by r a b c d e f =
    λ i. cond (a i) (some OtherId) (cond (b i) (some OtherPassword) (cond (c i) (some NoFunction) (cond (d i) (some MalformedBlock) (cond (e i) (some DiscoveryWrites) (cond (f i) (some LongResponse) none)))))

-- and of a packet, by the board's, the buffer's, framing's and the frame's
pub step_refusal_by :
    (c : Call) {board_unsound buffer_small : Bool} {of_packet of_request : Option Refusal}
    → unsound c ≡ board_unsound → small_buffer c ≡ buffer_small → packet_refusal c.packet ≡ of_packet
    → first_refusal request_refusals (request c) ≡ of_request
    → step_refusal c ≡ cond board_unsound (some BadRecord) (cond buffer_small (some ShortBuffer) (or_else of_packet of_request))
step_refusal_by c a b p r = step_refusal_lem c ∙ (λ i. cond (a i) (some BadRecord) (cond (b i) (some ShortBuffer) (or_else (p i) (r i))))

pub step_refused : (c : Call) {refusal : Refusal} → step_refusal c ≡ some refusal → step c ≡ outcome_of c.board (Refused refusal) c.buffer
unfolding step
step_refused c e = ap (λ (refusal : Option Refusal). outcome_by refusal (request c) c.buffer) e

pub step_answered : (c : Call) → step_refusal c ≡ none → step c ≡ answer_with (reports_of (request c)) (request c) c.buffer
unfolding step
step_answered c e = ap (λ (refusal : Option Refusal). outcome_by refusal (request c) c.buffer) e

-- what is known of a frame that is not refused, and of a packet
pub record PassedRequest (r : Request) : Type 0 where
  pub id : other_id r ≡ false
  pub password : wrong_password r ≡ false
  pub function : wrong_function r ≡ false
  pub block : malformed r ≡ false
  pub reads : discovery_writes r ≡ false
  pub short : long_response r ≡ false

pub passed_request : (r : Request) → first_refusal request_refusals r ≡ none → PassedRequest r
unfolding request_refusals
passed_request r h =
    let passed = first_none _ r h in
    record {
      id = passed.0;
      password = passed.1.0;
      function = passed.1.1.0;
      block = passed.1.1.1.0;
      reads = passed.1.1.1.1.0;
      short = passed.1.1.1.1.1.0;
    }

pub record PassedStep (c : Call) : Type 0 where
  pub board : unsound c ≡ false
  pub room : small_buffer c ≡ false
  pub packet : packet_refusal c.packet ≡ none
  pub request : first_refusal request_refusals (request c) ≡ none

pub passed_step : (c : Call) → step_refusal c ≡ none → PassedStep c
unfolding step_refusal step_refusals
passed_step c h =
    let seventy = not_refused _ _ c h in
    let one = not_refused _ _ c seventy.1 in
    let others : (packet_refusal c.packet ≡ none) × (first_refusal request_refusals (request c) ≡ none) = both_none _ _ (sym (after_one c) ∙ one.1) in
    record { board = seventy.0; room = one.0; packet = others.0; request = others.1 }

-- the next record: as it was, or with the parameters that the commands leave
reported_board : (reports : List Report) (r : Request) (buffer : List ℕ) → (answer_with reports r buffer).board ≡ next_board r
reported_board [] r buffer = refl
reported_board (report ∷ reports) r buffer = refl

pub answered_board : (c : Call) → step_refusal c ≡ none → (step c).board ≡ next_board (request c)
answered_board c e = ap (λ (o : Outcome). o.board) (step_answered c e) ∙ reported_board (reports_of (request c)) (request c) c.buffer

-- what holds of both holds of the next record
pub on_step :
    (P : Board → Type 0) (c : Call) → P c.board → P (with_parameters c.board (run c.board.parameters (commands_of (request c)))) → P (step c).board
on_step P c unchanged changed = by_refusal (step_refusal c) refl
  where
    by_discovery : (discovery : Bool) → P (cond discovery c.board (with_parameters c.board (run c.board.parameters (commands_of (request c)))))
    by_discovery true = unchanged
    by_discovery false = changed

    by_refusal : (o : Option Refusal) → step_refusal c ≡ o → P (step c).board
    by_refusal (some refusal) e = rw (step_refused c e) unchanged
    by_refusal none e = rw (answered_board c e) (by_discovery (is_discovery (request c)))
