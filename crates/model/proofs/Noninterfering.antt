-- Demand 3: the claim of specs/Noninterference.antt holds, by induction over the list of calls.
use Prim.Native.Nat.{ℕ}
use mathlib.Core.Bool.{Bool, true, false, cond}
use mathlib.Core.List.{List, [], ◌∷◌}
use mathlib.Core.Path.{◌≡◌, refl, sym, ap, ◌∙◌}
use borrow.Author.Tests.{le-ltb}
use lib.ListN.{length, take}
use Rattle.refusals.specs.declared.Refusal.TheVariants.{ShortBuffer}
use Rattle.model.specs.Authentication.{bears, discovers}
use Rattle.model.specs.Changes.{SameIdentity}
use Rattle.model.specs.Discovery.{reply_of, discovery_reply}
use Rattle.model.specs.Measurement.{measure_call}
use Rattle.model.specs.Noninterference.{OwnCall, of_packet, of_measurement, ListedCall, to_both, to_first, to_second, board_after, returned, Unauthenticated, without, ends, returns, Discoverable, Claim, Noninterference}
use Rattle.model.specs.PublicReply.{reply_to, buffered_reply, public_reply}
use Rattle.model.specs.Record.{password_of, unit_of, set_up_board, sound}
use Rattle.model.specs.Step.{call, Outcome, step}
use Rattle.model.specs.declared.Answer.TheVariants.{Refused}
use Rattle.model.specs.declared.Board.{Board}
use Rattle.model.proofs.Changed.{packets_change, measurements_change, set_ups_legal}
use Rattle.model.proofs.Unauthenticated.{with_reply, discovery_step, unauthenticated_answered}

-- what no call changes: the ID, the password, the mode in force, and that the record is sound
record Kept (board : Board) (id password : List ℕ) (unit mode : ℕ) : Type 0 where
  id_kept : board.id ≡ id
  password_kept : password_of board ≡ password
  unit_kept : unit_of board ≡ unit
  mode_kept : board.mode ≡ mode
  legal : sound board ≡ true

kept_on :
    {before after : Board} {id password : List ℕ} {unit mode : ℕ} → SameIdentity before after → (sound before ≡ true → sound after ≡ true)
    → Kept before id password unit mode → Kept after id password unit mode
kept_on same legal kept =
    record {
      id_kept = same.id ∙ kept.id_kept;
      password_kept = (λ i. take (same.size i) (same.password i)) ∙ kept.password_kept;
      unit_kept = same.unit ∙ kept.unit_kept;
      mode_kept = same.mode ∙ kept.mode_kept;
      legal = legal kept.legal;
    }

-- a discovery of such a board
discoverable : {board : Board} {id password : List ℕ} {unit mode : ℕ} → Kept board id password unit mode → Discoverable id unit mode board
discoverable {board} {id} {unit = unit} {mode = mode} kept =
    record {
      unchanged = λ packet buffer h. ap (λ (o : Outcome). o.board) (found packet buffer h);
      answered = λ packet buffer h room.
          ap (λ (o : Outcome). reply_of o.answer o.buffer) (found packet buffer h)
          ∙ ap (λ (small : Bool). cond small (reply_of (Refused ShortBuffer) buffer) (discovery_reply packet board.id (unit_of board) buffer)) (le-ltb (length buffer) 256 room)
          ∙ (λ i. discovery_reply packet (kept.id_kept i) (kept.unit_kept i) buffer);
    }
  where
    found :
        (packet buffer : List ℕ) → discovers mode packet ≡ true
        → step (call board packet buffer) ≡ with_reply board (buffered_reply packet board.id (unit_of board) buffer)
    found packet buffer h = discovery_step board packet buffer kept.legal (ap (λ (m : ℕ). discovers m packet) kept.mode_kept ∙ h)

-- an unauthenticated packet
answered_publicly :
    {board : Board} {id password : List ℕ} {unit mode : ℕ} → Kept board id password unit mode → (packet buffer : List ℕ) → bears packet password ≡ false
    → ((step (call board packet buffer)).board ≡ board) × (reply_to board packet buffer ≡ public_reply mode id unit packet buffer)
answered_publicly {board} kept packet buffer unknown =
    let replies = unauthenticated_answered board packet buffer kept.legal (ap (bears packet) kept.password_kept ∙ unknown) in
    (replies.unchanged, replies.reply ∙ (λ i. public_reply (kept.mode_kept i) (kept.id_kept i) (kept.unit_kept i) packet buffer))

step_kept :
    {board : Board} {id password : List ℕ} {unit mode : ℕ} → Kept board id password unit mode → (packet buffer : List ℕ)
    → Kept (step (call board packet buffer)).board id password unit mode
step_kept {board} kept packet buffer =
    let changes = packets_change (call board packet buffer) in
    kept_on changes.identity changes.legal kept

own_kept : {board : Board} {id password : List ℕ} {unit mode : ℕ} → Kept board id password unit mode → (own : OwnCall) → Kept (board_after board own) id password unit mode
own_kept kept (of_packet packet buffer) = step_kept kept packet buffer
own_kept {board} kept (of_measurement n value) =
    let changes = measurements_change (measure_call board n value) in
    kept_on changes.identity changes.legal kept

claim :
    {id first_password second_password : List ℕ} {unit mode : ℕ} (first second : Board)
    → Kept first id first_password unit mode → Kept second id second_password unit mode
    → (calls : List ListedCall) → Unauthenticated first_password second_password calls → Claim id unit mode first second calls
claim first second one two [] h =
    record { alike = tt; same_ends = refl; same_returns = refl; first_discoverable = discoverable one; second_discoverable = discoverable two }
claim first second one two (to_both packet buffer ∷ calls) h =
    let on_first = answered_publicly one packet buffer h.0 in
    let on_second = answered_publicly two packet buffer h.1 in
    let rest : Claim _ _ _ (step (call first packet buffer)).board (step (call second packet buffer)).board calls =
    claim (step (call first packet buffer)).board (step (call second packet buffer)).board (step_kept one packet buffer) (step_kept two packet buffer) calls h.2 in
    record {
      alike = (on_first.1 ∙ sym on_second.1, on_first.0, on_second.0, rest.alike);
      same_ends = rest.same_ends ∙ (λ i. ends (on_first.0 i) (on_second.0 i) (without calls));
      same_returns = rest.same_returns ∙ (λ i. returns (on_first.0 i) (on_second.0 i) (without calls));
      first_discoverable = rest.first_discoverable;
      second_discoverable = rest.second_discoverable;
    }
claim first second one two (to_first own ∷ calls) h =
    let rest : Claim _ _ _ (board_after first own) second calls = claim (board_after first own) second (own_kept one own) two calls h in
    record {
      alike = rest.alike;
      same_ends = rest.same_ends;
      same_returns = λ i. (returned first own ∷ (rest.same_returns i).0, (rest.same_returns i).1);
      first_discoverable = rest.first_discoverable;
      second_discoverable = rest.second_discoverable;
    }
claim first second one two (to_second own ∷ calls) h =
    let rest : Claim _ _ _ first (board_after second own) calls = claim first (board_after second own) one (own_kept two own) calls h in
    record {
      alike = rest.alike;
      same_ends = rest.same_ends;
      same_returns = λ i. ((rest.same_returns i).0, returned second own ∷ (rest.same_returns i).1);
      first_discoverable = rest.first_discoverable;
      second_discoverable = rest.second_discoverable;
    }

pub noninterference : Noninterference
noninterference first second same_id same_unit same_mode calls h =
    claim (set_up_board first) (set_up_board second)
    (record { id_kept = refl; password_kept = refl; unit_kept = refl; mode_kept = refl; legal = set_ups_legal first })
    (record { id_kept = sym same_id; password_kept = refl; unit_kept = sym same_unit; mode_kept = sym same_mode; legal = set_ups_legal second })
    calls h
