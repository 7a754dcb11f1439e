-- The board reads what the tool writes.
use Prim.Native.Nat.{ℕ, ◌≤◌}
use native.Mathlib.Omega.{arith}
use mathlib.Core.Bool.{Bool, true, not, ◌&&◌, ◌||◌, or-true}
use mathlib.Core.List.{List, [], ◌∷◌}
use mathlib.Core.Logic.{◌⊎◌, inl, inr}
use mathlib.Core.Option.{Option, none, some, or_else}
use mathlib.Core.Path.{◌≡◌, refl, ap, ◌∙◌}
use borrow.Author.Tests.{eq-eqb, eqb-true, ltb-false, le-ltb, le-leb, leb-true, not-false}
use lib.Dec.{leb, eqb}
use lib.ListN.{length, take}
use lib.Seq.{take_at}
use Rattle.octets.specs.Octets.{same}
use Rattle.octets.proofs.Booleans.{both_true}
use Rattle.octets.proofs.Same.{same_self}
use Rattle.std.specs.Prelude.{Result, Ok}
use Rattle.refusals.specs.declared.Refusal.{Refusal}
use Rattle.framing.specs.Frame.{Frame, packet_of, packet_length, is_frame}
use Rattle.framing.specs.Identity.{default_id, is_password, all_alphanumeric}
use Rattle.framing.specs.Packet.{packet_refusal, frame_of}
use Rattle.framing.specs.Statements.{ReadsBack}
use Rattle.framing.proofs.ReadsWritten.{reads_written}
use Rattle.block.specs.Command.{Command, is_function}
use Rattle.block.specs.Encoding.{first_function, encodable_command, every}
use Rattle.block.specs.Reading.{is_some}
use Rattle.block.specs.Request.{commands, only_reads, names_other}
use Rattle.block.proofs.AllReads.{other_named}
use Rattle.block.proofs.RoundTrips.{encodable_parts, commands_decode}
use Rattle.model.specs.Record.{client, access_point, password_of, sound}
use Rattle.model.specs.Refusals.{Silent, Responds}
use Rattle.model.specs.Step.{Request, Call, call, request, is_discovery, decoded, response, step_refusals, step_refusal}
use Rattle.model.proofs.Refused.{first_none, packets_answered, authorized_answered}
use Rattle.model.proofs.StepRefusals.{request_refusal_by, step_refusal_by}
use Rattle.tool.specs.Request.{WriteCall, commands_of, request_of, write_refusals, write_refusal, written_as, buffer_as, Writes}
use Rattle.claims.specs.Agreement.{RequestsAgree}
use Rattle.claims.proofs.ReadsOnly.{reads_only}

-- what is known of a call that the writer does not refuse
pub record WriterTakes (given : WriteCall) : Type 0 where
  pub password : is_password given.password ≡ true
  pub encodable : every encodable_command (commands_of given) ≡ true
  pub framed : is_frame (request_of given) ≡ true

writer_takes : (given : WriteCall) → write_refusal given ≡ none → WriterTakes given
unfolding write_refusal write_refusals
writer_takes given h =
    let passed = first_none _ given h in
    let id_size : eqb (length given.id) 16 ≡ true = not-false _ passed.1.0 in
    let password : is_password given.password ≡ true = not-false _ passed.1.1.0 in
    let password_fits : leb (length given.password) 8 ≡ true = (both_true _ (all_alphanumeric given.password) password).0 in
    let size : leb (packet_length (request_of given)) 256 ≡ true = le-leb _ 256 (ltb-false 256 (packet_length (request_of given)) passed.1.1.1.1.1.0) in
    record { password = password; encodable = not-false _ passed.1.1.1.1.0; framed = λ i. id_size i && password_fits i && size i }

-- an answered length is the packet's, which stands in the first bytes of the buffer
pub record PacketSent (given : WriteCall) (packet : List ℕ) : Type 0 where
  pub taken : WriterTakes given
  pub packet_written : packet ≡ packet_of (request_of given)

pub packet_sent : (given : WriteCall) {answer : Result ℕ Refusal} {written : List ℕ} {size : ℕ} → Writes given answer written → answer ≡ Ok size → PacketSent given (take size written)
packet_sent given {answer} {written} {size} writes e = by_refusal (write_refusal given) refl writes.answered writes.held
  where
    by_refusal : (o : Option Refusal) → write_refusal given ≡ o → answer ≡ written_as o given → written ≡ buffer_as o given → PacketSent given (take size written)
    by_refusal none none_refused told held =
        let whole : size ≡ length (packet_of (request_of given)) = cc in
        record {
          taken = writer_takes given none_refused;
          packet_written = (λ i. take (whole i) (held i)) ∙ take_at (packet_of (request_of given)) _ (length (packet_of (request_of given))) refl;
        }
    by_refusal (some refusal) refused told held = absurd cc

-- and is read as the frame that was written
pub frame_read : (given : WriteCall) {packet : List ℕ} → PacketSent given packet → (packet_refusal packet ≡ none) × (frame_of packet ≡ request_of given)
frame_read given s =
    let back : ReadsBack (request_of given) = reads_written (request_of given) s.taken.framed in
    (ap packet_refusal s.packet_written ∙ back.accepted, ap frame_of s.packet_written ∙ back.frame_back)

-- FUNC is one of the five
first_within : (cs : List Command) → every encodable_command cs ≡ true → (1 ≤ first_function cs) × (first_function cs ≤ 5)
unfolding every
first_within [] h = (omega arith, omega arith)
first_within (c ∷ cs) h =
    let first = (both_true (encodable_command c) (every encodable_command cs) h).0 in
    let within = both_true (leb 1 c.function) (leb c.function 5) (encodable_parts c first).0 in
    (leb-true 1 c.function within.0, leb-true c.function 5 within.1)

-- equal bytes are the same
pub same_as : {left right : List ℕ} → left ≡ right → same left right ≡ true
same_as {left} {right} e = ap (λ (bytes : List ℕ). same bytes right) e ∙ same_self right

-- for the board's own ID, or at an access point for the default ID
addressed :
    {asked own : List ℕ} {mode : ℕ} {wanted : List ℕ} → asked ≡ wanted → (wanted ≡ own) ⊎ ((mode ≡ access_point) × (wanted ≡ default_id))
    → (same asked own || eqb mode access_point && same asked default_id) ≡ true
addressed {asked} {own} {mode} e (inl is_own) = ap (λ (t : Bool). t || eqb mode access_point && same asked default_id) (same_as (e ∙ is_own))
addressed {asked} {own} {mode} e (inr access) =
    (λ i. same asked own || eq-eqb mode access_point access.0 i && same_as (e ∙ access.1) i) ∙ or-true (same asked own)

-- a well-formed discovery that only reads is answered, where its response is not too long
discovery_answered :
    (c : Call) → packet_refusal c.packet ≡ none → sound c.board ≡ true → c.board.mode ≡ client → (request c).frame.id ≡ default_id
    → is_some (decoded (request c)) ≡ true → only_reads (request c).frame.function (request c).frame.block ≡ true → 256 ≤ length c.buffer
    → packet_length (response (request c)) ≤ 256 → Silent c ⊎ Responds c
unfolding step_refusal or_else
discovery_answered c passes board_sound mode asked formed reads room short =
    let r : Request = request c in
    let default : same r.frame.id default_id ≡ true = same_as asked in
    let discovery : is_discovery r ≡ true = λ i. eq-eqb c.board.mode client mode i && default i in
    let one : r.frame.function ≡ 1 = eqb-true _ 1 (both_true (eqb r.frame.function 1) _ reads).0 in
    (packets_answered c).accepted.1
    (first_none step_refusals c
    (step_refusal_by c (ap not board_sound) (le-ltb _ 256 room) passes
    (request_refusal_by r
    (ap (λ (t : Bool). not (same r.frame.id c.board.id || t)) default ∙ ap not (or-true (same r.frame.id c.board.id)))
    (ap (λ (t : Bool). not t && not (same r.frame.password (password_of c.board))) discovery)
    (ap (λ (f : ℕ). not (is_function f)) one)
    (ap not formed)
    (ap (λ (t : Bool). t && names_other r.frame.function r.frame.block) discovery ∙ (other_named r.frame.function r.frame.block).formed formed ∙ ap not reads)
    (le-ltb 256 _ short))))

pub requests_agree : RequestsAgree
requests_agree given answer written size writes e board buffer =
    let s : PacketSent given (take size written) = packet_sent given writes e in
    let read = frame_read given s in
    let c : Call = call board (take size written) buffer in
    let id : (request c).frame.id ≡ given.id = ap (λ (f : Frame). f.id) read.1 in
    let password : (request c).frame.password ≡ given.password = ap (λ (f : Frame). f.password) read.1 in
    let function : (request c).frame.function ≡ first_function (commands_of given) = ap (λ (f : Frame). f.function) read.1 in
    let decoding : decoded (request c) ≡ some (commands_of given) =
    ap (λ (f : Frame). commands f.function f.block) read.1 ∙ commands_decode (commands_of given) s.taken.encodable in
    record {
      passes = read.0;
      id = id;
      password = password;
      function = function;
      commands = decoding;
      answered = λ board_sound own_password for_board room short.
          authorized_answered c
          (record {
            board = board_sound;
            room = room;
            id = addressed id for_board;
            password = λ i. not (is_some (read.0 i)) && same_as (password ∙ own_password) i;
            function = rw function (first_within (commands_of given) s.taken.encodable);
            block = ap is_some decoding;
            short = short;
          });
      found = λ board_sound mode by_default reads room short.
          discovery_answered c read.0 board_sound mode (id ∙ by_default) (ap is_some decoding)
          (ap (λ (f : Frame). only_reads f.function f.block) read.1 ∙ reads_only (commands_of given) s.taken.encodable reads)
          room short;
    }
