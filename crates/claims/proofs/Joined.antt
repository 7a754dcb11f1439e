-- Two packets and the tool's packet of both command lists: the proofs of specs/Joining.antt.
use Prim.Native.Nat.{ℕ, ◌≤◌}
use native.Mathlib.Omega.{arith}
use mathlib.Core.Bool.{true, false, ◌&&◌, false≢true}
use mathlib.Core.List.{List, [], ◌++◌}
use mathlib.Core.Logic.{◌⊎◌, inl, inr}
use mathlib.Core.Option.{Option, none, some}
use mathlib.Core.Path.{◌≡◌, refl, sym, ap, subst, ◌∙◌}
use borrow.Author.Tests.{not-true, not-false, leb-true, le-leb, le-ltb, eq-eqb}
use lib.Dec.{leb, eqb}
use lib.ListN.{length, take, replicate, length-take, length-replicate}
use Rattle.octets.specs.Octets.{same}
use Rattle.octets.proofs.Booleans.{both_true}
use Rattle.std.specs.Prelude.{Result, Ok}
use Rattle.refusals.specs.declared.Refusal.{Refusal}
use Rattle.framing.specs.Frame.{Frame, frame, packet_of, packet_length}
use Rattle.framing.specs.Identity.{default_id, is_password}
use Rattle.framing.specs.Packet.{frame_of}
use Rattle.framing.specs.Refusal.{first_refusal}
use Rattle.framing.proofs.WritesRead.{frame_sizes}
use Rattle.block.specs.Command.{Command, Report, is_function}
use Rattle.block.specs.Encoding.{encode_reports, encodable_command, every}
use Rattle.block.proofs.Decoded.{decoded_encodable}
use Rattle.block.proofs.Every.{every_join}
use Rattle.model.specs.Changes.{Asks}
use Rattle.model.specs.Commands.{run, run_reports}
use Rattle.model.specs.Record.{password_of, sound, with_parameters}
use Rattle.model.specs.Refusals.{Silent, Responds}
use Rattle.model.specs.Step.{Call, call, request_of, request, is_discovery, reports_of, response, step_refusal, step}
use Rattle.model.specs.declared.Answer.TheVariants.{Silence}
use Rattle.model.specs.declared.Board.{Board}
use Rattle.model.proofs.Changed.{asked, no_discovery, commands_report, commands_leave}
use Rattle.model.proofs.Joining.{runs_join}
use Rattle.model.proofs.Refused.{refusal_answered, none_refused, answered_none, none_answered}
use Rattle.model.proofs.Soundness.{SoundParts, sound_parts, id_length}
use Rattle.model.proofs.StepRefusals.{PassedStep, passed_step, passed_request}
use Rattle.tool.specs.Request.{WriteCall, request_frame, write_refusals, write_refusal, written_as, buffer_as, Writes}
use Rattle.tool.specs.Request as tool
use Rattle.tool.specs.Statements.{Described}
use Rattle.tool.proofs.CommandLists.{lists_described}
use Rattle.claims.specs.Agreement.{RequestRead}
use Rattle.claims.specs.Joining.{InTurn, request_with, response_with, BothFit, PacketJoins, PacketsJoin, AsksFor, call_for, JoinedCalls, PacketMade, Accepted, Told, AnswersTold, ContractsJoin}
use Rattle.claims.proofs.RequestsRead.{packet_sent, same_as, requests_agree}
use Rattle.claims.proofs.ResponsesRead.{responses_agree}

-- the commands of an accepted packet can be encoded
commands_encodable : (c : Call) (cs : List Command) → Asks c cs → step_refusal c ≡ none → every encodable_command cs ≡ true
commands_encodable c cs e accepted =
    let passed : PassedStep c = passed_step c accepted in
    let is_function_lem : is_function (frame_of c.packet).function ≡ true = not-false _ (passed_request (request c) passed.request).function in
    decoded_encodable (frame_of c.packet).function (frame_of c.packet).block cs is_function_lem (omega (arith, (frame_sizes c.packet passed.packet).short)) e

both_encodable :
    (first second : Call) (earlier later : List Command) → Asks first earlier → Asks second later → step_refusal first ≡ none → step_refusal second ≡ none
    → every encodable_command (earlier ++ later) ≡ true
both_encodable first second earlier later asks asks_then accepted also =
    every_join encodable_command earlier later
    ∙ (λ i. commands_encodable first earlier asks accepted i && commands_encodable second later asks_then also i)

pub joined_calls : JoinedCalls
joined_calls first second earlier later asks asks_then accepted also buffer room =
    let slices : Described (earlier ++ later) = lists_described (earlier ++ later) (both_encodable first second earlier later asks asks_then accepted also) in
    record { id = refl; password = refl; described = slices.describes; listed = slices.listed; room = room }

-- a packet with a sound record's own ID is no discovery
own_apart : (c : Call) → sound c.board ≡ true → (frame_of c.packet).id ≡ c.board.id → is_discovery (request c) ≡ false
own_apart c legal own =
    no_discovery c
    (λ mode default.
    let other : same c.board.id default_id ≡ false = not-true _ (both_true (eqb (length c.board.id) 16) _ (sound_parts c.board legal).id).1 in
    false≢true (sym other ∙ same_as (sym own ∙ default)))

own_password : (board : Board) → sound board ≡ true → is_password (password_of board) ≡ true
own_password board legal =
    let parts : SoundParts board = sound_parts board legal in
    let size : leb (length (password_of board)) 8 ≡ true =
    le-leb (length (password_of board)) 8 (omega (arith, length-take board.size board.password, leb-true board.size 8 parts.size)) in
    λ i. size i && parts.password i

-- a packet for the own ID: what its commands report, and what they leave if it is accepted
module _ (c : Call) (cs : List Command) (legal : sound c.board ≡ true) (own : (frame_of c.packet).id ≡ c.board.id) (asks : Asks c cs) where
  own_reports : reports_of (request c) ≡ run_reports c.board.parameters cs
  own_reports = commands_report c (own_apart c legal own) ∙ ap (run_reports c.board.parameters) (asked c cs asks)

  own_leaves : step_refusal c ≡ none → (step c).board ≡ with_parameters c.board (run c.board.parameters cs)
  own_leaves accepted =
      commands_leave c (own_apart c legal own) accepted
      ∙ ap (λ (commands : List Command). with_parameters c.board (run c.board.parameters commands)) (asked c cs asks)

-- two packets in turn that are accepted
module _
    (first second : Call) (earlier later : List Command) (turn : InTurn first second earlier later (step first).board)
    (accepted : step_refusal first ≡ none) (also : step_refusal second ≡ none)
  where
    sound_first : sound first.board ≡ true
    sound_first = not-false _ (passed_step first accepted).board

    sound_second : sound second.board ≡ true
    sound_second = not-false _ (passed_step second also).board

    between : second.board ≡ with_parameters first.board (run first.board.parameters earlier)
    between = turn.next ∙ own_leaves first earlier sound_first turn.one.id turn.one.asks accepted

    -- any packet for the own ID with the commands of both
    module _ (packet buffer : List ℕ) (own : (frame_of packet).id ≡ first.board.id) (asks : Asks (call first.board packet buffer) (earlier ++ later)) where
      abbrev joined : Call
      joined = call first.board packet buffer

      reports_joined : reports_of (request joined) ≡ reports_of (request first) ++ reports_of (request second)
      reports_joined =
          own_reports joined (earlier ++ later) sound_first own asks
          ∙ (runs_join first.board.parameters earlier later).reports
          ∙ (λ i. sym (own_reports first earlier sound_first turn.one.id turn.one.asks) i ++ run_reports (sym between i).parameters later)
          ∙ ap (λ (more : List Report). reports_of (request first) ++ more) (sym (own_reports second later sound_second turn.two.id turn.two.asks))

      board_joined : step_refusal joined ≡ none → (step joined).board ≡ (step second).board
      board_joined taken =
          own_leaves joined (earlier ++ later) sound_first own asks taken
          ∙ ap (with_parameters first.board) (runs_join first.board.parameters earlier later).leaves
          ∙ ap (λ (board : Board). with_parameters board (run board.parameters later)) (sym between)
          ∙ sym (own_leaves second later sound_second turn.two.id turn.two.asks also)

    module _
        (fit : BothFit first.board (earlier ++ later) (reports_of (request first) ++ reports_of (request second)))
        (given : WriteCall) (asks : AsksFor first.board (earlier ++ later) given)
      where
        -- the frame that is written is that of the joined commands
        frame_asked : tool.request_of given ≡ request_with first.board (earlier ++ later)
        frame_asked = λ i. request_frame (asks.id i) (asks.password i) (asks.listed i)

        writer_takes : write_refusal given ≡ none
        unfolding write_refusal write_refusals first_refusal
        writer_takes =
            rw (
              le-ltb (length given.buffer) 256 asks.room,
              eq-eqb (length given.id) 16 (ap length asks.id ∙ id_length first.board sound_first),
              ap is_password asks.password ∙ own_password first.board sound_first,
              asks.described,
              ap (every encodable_command) asks.listed ∙ both_encodable first second earlier later turn.one.asks turn.two.asks accepted also,
              le-ltb 256 _ (subst (λ (f : Frame). packet_length f ≤ 256) (sym frame_asked) fit.packet),
            )

        length_told : {answer : Result ℕ Refusal} {written : List ℕ} → Writes given answer written → answer ≡ Ok (length (packet_of (tool.request_of given)))
        length_told writes = writes.answered ∙ ap (λ (o : Option Refusal). written_as o given) writer_takes

        packet_joins :
            {answer : Result ℕ Refusal} {written : List ℕ} {size : ℕ} → Writes given answer written → answer ≡ Ok size
            → (buffer : List ℕ) → 256 ≤ length buffer → PacketJoins first second (call first.board (take size written) buffer) (earlier ++ later)
        packet_joins {answer} {written} {size} writes told buffer room =
            let packet : List ℕ = take size written in
            let sent : RequestRead given (call first.board packet buffer) = requests_agree given answer written size writes told first.board buffer in
            let own : (frame_of packet).id ≡ first.board.id = sent.id ∙ asks.id in
            let both : Asks (call first.board packet buffer) (earlier ++ later) = sent.commands ∙ ap some asks.listed in
            let reports = reports_joined packet buffer own both in
            let same_response : response (request_of first.board (frame_of packet)) ≡ response_with first.board (reports_of (request first) ++ reports_of (request second)) =
            λ i. frame first.board.id ((sent.password ∙ asks.password) i) 0x06 (encode_reports 0 (reports i)) in
            let answered : Silent (call first.board packet buffer) ⊎ Responds (call first.board packet buffer) =
            sent.answered sound_first asks.password (inl asks.id) room (subst (λ (f : Frame). packet_length f ≤ 256) (sym same_response) fit.answer) in
            record {
              own = record { id = own; password = sent.password ∙ asks.password; asks = both };
              answered = answered;
              board = board_joined packet buffer own both (answered_none (call first.board packet buffer) answered);
              reports = reports;
            }

pub packets_join : PacketsJoin
packets_join first second earlier later turn accepted also fit buffer room =
    let given : WriteCall = call_for (replicate 256 0) first.board (earlier ++ later) in
    let asks : AsksFor first.board (earlier ++ later) given =
    joined_calls first second earlier later turn.one.asks turn.two.asks accepted also (replicate 256 0) (omega (arith, length-replicate {A = ℕ} 256 0)) in
    let writes : Writes given (written_as (write_refusal given) given) (buffer_as (write_refusal given) given) = record { answered = refl; held = refl } in
    let told = length_told first second earlier later turn accepted also fit given asks writes in
    subst (λ (packet : List ℕ). PacketJoins first second (call first.board packet buffer) (earlier ++ later))
    ((packet_sent given writes told).packet_written ∙ ap packet_of (frame_asked first second earlier later turn accepted also fit given asks))
    (packet_joins first second earlier later turn accepted also fit given asks writes told buffer room)

-- what the tool reads in an answer are the reports of its packet
told : {c : Call} (made : PacketMade c) → Told made (reports_of (request c))
told {c} made =
    record {
      silence = λ e. by_answer (sym made.contract.answer ∙ e) (none_answered c (none_refused c (λ refusal k. cc (made.contract.answer, e, k))));
      response = λ size e. (responses_agree c made.result made.after size made.contract e).reports;
    }
  where
    by_answer : (step c).answer ≡ Silence → Silent c ⊎ Responds c → reports_of (request c) ≡ []
    by_answer e (inl silent) = silent.reports
    by_answer e (inr responds) = absurd (cc (e, responds.answer))

pub answers_told : AnswersTold
answers_told c made = (reports_of (request c), told made)

-- the contract of an accepted call
module _ {c : Call} (made : PacketMade c) (accepted : Accepted made.result.answer) where
  not_refused : step_refusal c ≡ none
  not_refused = none_refused c (λ refusal e. accepted refusal (made.contract.answer ∙ e))

  -- and no others
  pub told_once : (reports : List Report) → Told made reports → reports ≡ reports_of (request c)
  told_once reports tells = by_answer (none_answered c not_refused)
    where
      by_answer : Silent c ⊎ Responds c → reports ≡ reports_of (request c)
      by_answer (inl silent) = tells.silence (made.contract.answer ∙ silent.answer) ∙ sym silent.reports
      by_answer (inr responds) =
          let answered = made.contract.answer ∙ responds.answer in
          let same_reports : some reports ≡ some (reports_of (request c)) = sym (tells.response responds.size answered) ∙ (told made).response responds.size answered in
          cc

pub contracts_join : ContractsJoin
contracts_join first second earlier later one two turn taken taken_too reports more tells tells_too fit given asks answer written writes =
    let left_first : InTurn first second earlier later (step first).board = record { one = turn.one; two = turn.two; next = turn.next ∙ one.contract.board } in
    let accepted : step_refusal first ≡ none = not_refused one taken in
    let also : step_refusal second ≡ none = not_refused two taken_too in
    let same_reports : reports ++ more ≡ reports_of (request first) ++ reports_of (request second) =
    λ i. told_once one taken reports tells i ++ told_once two taken_too more tells_too i in
    let fits = subst (BothFit first.board (earlier ++ later)) same_reports fit in
    let told_length = length_told first second earlier later left_first accepted also fits given asks writes in
    record {
      size = length (packet_of (tool.request_of given));
      taken = told_length;
      joins = λ buffer room both.
          let joins = packet_joins first second earlier later left_first accepted also fits given asks writes told_length buffer room in
          record {
            own = joins.own;
            accepted = λ refusal e. cc (answered_none _ joins.answered, refusal_answered _ (sym both.contract.answer ∙ e));
            board = both.contract.board ∙ joins.board ∙ sym two.contract.board;
            told = subst (Told both) (joins.reports ∙ sym same_reports) (told both);
          };
    }
