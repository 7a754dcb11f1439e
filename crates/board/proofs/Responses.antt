-- The way the code goes through a request ends where the definition says.
use Prim.Native.Nat.{ℕ, ◌+◌, ◌<◌, ◌≤◌}
use native.Mathlib.Nat.{zero-add}
use native.Mathlib.Omega.{arith}
use mathlib.Core.Bool.{Bool, true, false, cond, not, ◌&&◌, ◌||◌}
use mathlib.Core.List.{List, [], ◌∷◌, ◌++◌}
use mathlib.Core.Option.{Option, none, some, or_else, get_or}
use Rattle.std.specs.Prelude.{Option as OptionInCode, None, Some}
use mathlib.Core.Path.{◌≡◌, refl, sym, ap, ◌∙◌}
use borrow.Author.Tests.{leb-false, ltb-true, ltb-false, eqb-true, le-leb, lt-leb, lt-ltb, le-ltb, eq-eqb, ne_eqb, not-false}
use lib.Dec.{leb, ltb, eqb}
use lib.ListN.{length, take, drop, replicate, length-append, length-replicate}
use lib.Seq.{take_at}
use Rattle.octets.specs.Octets.{overwrite, fits}
use Rattle.octets.proofs.Booleans.{both_true}
use Rattle.framing.specs.Frame.{Frame, frame, packet_of, packet_length}
use Rattle.framing.specs.Packet.{writable}
use Rattle.framing.specs.Refusal.{rule, first_refusal}
use Rattle.refusals.specs.declared.Refusal.{Refusal}
use Rattle.refusals.specs.declared.Refusal.TheVariants.{LongResponse}
use Rattle.framing.proofs.Refusals.{first_of_joined}
use Rattle.framing.proofs.Writing.{length_packet}
use Rattle.block.specs.Command.{Command, command_number, is_read, Report, held, unknown, report_page}
use Rattle.block.specs.Encoding.{change, report_body, encode_report, encode_reports, encodable_report, every}
use Rattle.block.specs.Reading.{is_some}
use Rattle.block.specs.Request.{only_reads}
use Rattle.block.proofs.AllReads.{all_reads, other_named}
use Rattle.block.proofs.Decoded.{is_low, low_bytes}
use Rattle.store.specs.Layout.{value_of}
use Rattle.rows.specs.Rows.{known}
use Rattle.rows.proofs.Found.{identity_known}
use Rattle.store.specs.Sound as stored
use Rattle.board.specs.Answering.{answered, answered_as, judged_by, refused_with, request_checks, responded_with, responded, scope_of}
use Rattle.model.specs.Commands.{after_command, reported, run, run_reports, discovered, discover_reports}
use Rattle.commands.specs.Draft.{blank, taken, extended, reported_in, run_reports_in, selected, run_result, run_from}
use Rattle.model.specs.Record.{sound, is_unit, unit_type, unit_of, with_parameters}
use Rattle.model.specs.Conditions.{other_than_reads}
use Rattle.model.specs.Step.{Request, is_discovery, decoded, reports_of, malformed, long_response, request_refusals, Outcome, outcome_of, next_board, answer_with, outcome_by}
use Rattle.model.specs.declared.Answer.TheVariants.{Silence, Response}
use Rattle.model.specs.declared.Board.{Board}
use Rattle.model.specs.declared.Parameters.{Parameters}
use Rattle.commands.specs.declared.RunResult.{RunResult}
use Rattle.commands.specs.declared.Scope.{Scope}
use Rattle.commands.specs.declared.Scope.TheVariants.{All, Identity}
use Rattle.model.proofs.Changed.{read_keeps, values_reported}
use Rattle.model.proofs.Earliest.{first_none}
use Rattle.model.proofs.EncodableReports.{Fit, fit_after, encodable_join, encodable_reported}
use Rattle.model.proofs.Soundness.{Sized, sound_parts, id_length}

-- reads leave the parameters as they were
reads_keep : (cs : List Command) (p : Parameters) → every is_read cs ≡ true → run p cs ≡ p
unfolding run every
reads_keep [] p h = refl
reads_keep (c ∷ cs) p h =
    let both = both_true (is_read c) (every is_read cs) h in
    ap (λ (s : Parameters). run s cs) (read_keeps p c (eqb-true c.function 1 both.0)) ∙ reads_keep cs p both.1

-- the reports outside a discovery
all_reports : (cs : List Command) (p : Parameters) → run_reports_in All p cs ≡ run_reports p cs
unfolding run_reports_in run_reports
all_reports [] p = refl
all_reports (c ∷ cs) p = ap (λ (rs : List Report). reported (after_command p c) c ++ rs) (all_reports cs (after_command p c))

-- a read of a known parameter
read_held :
    (p : Parameters) (c : Command) (n : ℕ) (value : List ℕ) → is_read c ≡ true → command_number c ≡ n → known p.store.unit n ≡ true → value_of p.store n ≡ value
    → reported p c ≡ held c.page c.low value ∷ []
read_held p c n value read named is_known e =
    (values_reported p c).value (ap (λ (f : ℕ). eqb f 2) (eqb-true c.function 1 read)) (ap (known p.store.unit) named ∙ is_known)
    ∙ ap (λ (v : List ℕ). held c.page c.low v ∷ []) (ap (value_of p.store) named ∙ e)

-- the reports of a discovery
module _ (id : List ℕ) (p : Parameters) (unit : is_unit p.store.unit ≡ true) (own_id : value_of p.store 0x007C ≡ id) (unit_type_lem : value_of p.store 0x00B9 ≡ unit_type p.store.unit) where
  identity_report : (c : Command) → is_read c ≡ true → reported_in Identity p c ≡ discovered id p.store.unit c
  unfolding discovered
  identity_report c read = by_number (eqb (command_number c) 0x007C) (eqb (command_number c) 0x00B9) refl refl
    where
      by_number :
          (is_id is_type : Bool) → eqb (command_number c) 0x007C ≡ is_id → eqb (command_number c) 0x00B9 ≡ is_type
          → cond (is_id || is_type) (reported p c) []
          ≡ cond is_id (held c.page c.low id ∷ []) (cond is_type (held c.page c.low (unit_type p.store.unit) ∷ []) [])
      by_number true is_type e other = read_held p c 0x007C id read (eqb-true _ _ e) (identity_known p.store.unit unit).0 own_id
      by_number false true e other = read_held p c 0x00B9 (unit_type p.store.unit) read (eqb-true _ _ other) (identity_known p.store.unit unit).1 unit_type_lem
      by_number false false e other = refl

  identity_reports : (cs : List Command) → every is_read cs ≡ true → run_reports_in Identity p cs ≡ discover_reports id p.store.unit cs
  unfolding run_reports_in discover_reports every
  identity_reports [] h = refl
  identity_reports (c ∷ cs) h =
      let both = both_true (is_read c) (every is_read cs) h in
      ap (λ (s : Parameters). reported_in Identity s c ++ run_reports_in Identity s cs) (read_keeps p c (eqb-true c.function 1 both.0))
      ∙ (λ i. identity_report c both.0 i ++ identity_reports cs both.1 i)

-- each report has a form
encodable_report_lem : (scope : Scope) (p : Parameters) (c : Command) → stored.sound p.store ≡ true → is_low c ≡ true → every encodable_report (reported_in scope p c) ≡ true
unfolding every
encodable_report_lem scope p c sound low = by_scope (selected scope (command_number c))
  where
    by_scope : (chosen : Bool) → every encodable_report (cond chosen (reported p c) []) ≡ true
    by_scope true = encodable_reported p c sound low
    by_scope false = refl

encodable_reports : (scope : Scope) (cs : List Command) (p : Parameters) → Fit p → every is_low cs ≡ true → every encodable_report (run_reports_in scope p cs) ≡ true
unfolding run_reports_in every
encodable_reports scope [] p fit h = refl
encodable_reports scope (c ∷ cs) p fit h =
    let both = both_true (is_low c) (every is_low cs) h in
    let next : Fit (after_command p c) = fit_after p c fit in
    encodable_join (reported_in scope (after_command p c) c) _
    (encodable_report_lem scope (after_command p c) c next.is_sound both.0)
    (encodable_reports scope cs (after_command p c) next both.1)

-- no report is written in no bytes
some_body : (r : Report) → 1 ≤ length (report_body r)
some_body (held page low value) = by_form (eqb (length value) 1)
  where
    by_form : (short : Bool) → 1 ≤ length (cond short (low ∷ value) (0xFE ∷ length value ∷ low ∷ value))
    by_form true = omega arith
    by_form false = omega arith
some_body (unknown page low) = omega arith

some_bytes : (page : ℕ) (r : Report) (rs : List Report) → 1 ≤ length (encode_reports page (r ∷ rs))
unfolding encode_report encode_reports
some_bytes page r rs =
    omega (
      arith,
      length-append (encode_report page r) (encode_reports (report_page r) rs),
      length-append (change 0xFF page (report_page r)) (report_body r),
      some_body r,
    )

-- the response with a data block
abbrev sent : Request → List ℕ → Frame
sent r block = frame r.board.id r.frame.password 0x06 block

abbrev sending : Board → Request → List ℕ → List ℕ → Outcome
sending next r block buffer = outcome_of next (Response (length (packet_of (sent r block)))) (overwrite buffer 0 (packet_of (sent r block)))

-- what the definition makes of reports
abbrev answer_as : List Report → Board → Request → List ℕ → Outcome
answer_as [] next r buffer = outcome_of next Silence buffer
answer_as (first ∷ rest) next r buffer = sending next r (encode_reports 0 (first ∷ rest)) buffer

abbrev responding : List Report → Board → Request → List ℕ → Outcome
responding reports next r buffer =
    cond (ltb 256 (packet_length (sent r (encode_reports 0 reports)))) (refused_with LongResponse r buffer) (answer_as reports next r buffer)

-- what the code makes of a block of this length
abbrev writing : ℕ → List ℕ → Board → Request → List ℕ → Outcome
writing size block next r buffer =
    cond (eqb size 0) (outcome_of next Silence buffer) (cond (writable (sent r block) buffer) (sending next r block buffer) (refused_with LongResponse r buffer))

-- and what it has after the commands, where their reports have room
abbrev ran_for : Bool → List Report → Parameters → OptionInCode RunResult
ran_for fit reports next = cond fit (Some (run_result next (extended blank reports))) None

taken_blank : (reports : List Report) → every encodable_report reports ≡ true → taken blank reports ≡ leb (length (encode_reports 0 reports)) 232
taken_blank reports encodable = λ i. encodable i && leb (zero-add (length (encode_reports 0 reports)) i) (length-replicate {A = ℕ} 232 0 i)

written_block : (bytes : List ℕ) → take (0 + length bytes) (overwrite (replicate 232 0) 0 bytes) ≡ bytes
written_block bytes = take_at bytes (drop (0 + length bytes) (replicate 232 0)) (0 + length bytes) (sym (zero-add (length bytes)))

some_commands : (o : Option (List Command)) → not (is_some o) ≡ false → (cs : List Command) × (o ≡ some cs)
some_commands none h = absurd cc
some_commands (some cs) h = (cs, refl)

module _ (r : Request) (buffer : List ℕ) (legal : sound r.board ≡ true) (short : length r.frame.password ≤ 8) (room : 256 ≤ length buffer) where
  writable_by : (block : List ℕ) (long : Bool) → ltb 256 (packet_length (sent r block)) ≡ long → writable (sent r block) buffer ≡ not long
  writable_by block true e =
      λ i. eq-eqb _ _ (id_length r.board legal) i && le-leb _ _ short i && lt-leb (packet_length (sent r block)) 256 (ltb-true 256 (packet_length (sent r block)) e) i
      && fits buffer 0 (packet_of (sent r block))
  writable_by block false e =
      let fit : packet_length (sent r block) ≤ 256 = ltb-false 256 (packet_length (sent r block)) e in
      let within : 0 + length (packet_of (sent r block)) ≤ length buffer = omega (arith, length_packet (sent r block), id_length r.board legal) in
      λ i. eq-eqb _ _ (id_length r.board legal) i && le-leb _ _ short i && le-leb _ _ fit i && le-leb _ _ within i

  -- the written block by the reports in it
  writing_reports :
      (reports : List Report) (next : Board)
      → writing (length (encode_reports 0 reports)) (encode_reports 0 reports) next r buffer ≡ responding reports next r buffer
  unfolding encode_reports
  writing_reports [] next = sym (rw (le-ltb 256 (24 + length r.frame.password + 0) (omega arith)))
  writing_reports (first ∷ rest) next =
      let bytes : List ℕ = encode_reports 0 (first ∷ rest) in
      let some : eqb (length bytes) 0 ≡ false = ne_eqb (length bytes) 0 (λ (e : length bytes ≡ 0). omega (arith, some_bytes 0 first rest)) in
      let goes = writable_by bytes (ltb 256 (packet_length (sent r bytes))) refl in
      (λ i. cond (some i) (outcome_of next Silence buffer) (cond (goes i) (sending next r bytes buffer) (refused_with LongResponse r buffer)))
      ∙ by_length (ltb 256 (packet_length (sent r bytes)))
    where
      by_length :
          (long : Bool) → cond (not long) (answer_as (first ∷ rest) next r buffer) (refused_with LongResponse r buffer)
          ≡ cond long (refused_with LongResponse r buffer) (answer_as (first ∷ rest) next r buffer)
      by_length true = refl
      by_length false = refl

  -- the commands were run, or their reports had no room
  module _ (reports : List Report) (next : Parameters) where
    run_by :
        (fit : Bool) → leb (length (encode_reports 0 reports)) 232 ≡ fit
        → responded_with (ran_for fit reports next) r buffer ≡ responding reports (with_parameters r.board next) r buffer
    run_by true e =
        (λ i. writing (zero-add (length (encode_reports 0 reports)) i) (written_block (encode_reports 0 reports) i) (with_parameters r.board next) r buffer)
        ∙ writing_reports reports (with_parameters r.board next)
    run_by false e =
        let long : 256 < packet_length (sent r (encode_reports 0 reports)) = omega (arith, leb-false (length (encode_reports 0 reports)) 232 e) in
        sym (ap (λ (t : Bool). cond t (refused_with LongResponse r buffer) (answer_as reports (with_parameters r.board next) r buffer)) (lt-ltb _ _ long))

    -- what the definition says, by the reports and the next record
    defined :
        reports_of r ≡ reports → next_board r ≡ with_parameters r.board next
        → outcome_by (cond (long_response r) (some LongResponse) none) r buffer ≡ responding reports (with_parameters r.board next) r buffer
    defined e n =
        by_length (long_response r)
        ∙ (λ i. cond (ltb 256 (packet_length (sent r (encode_reports 0 (e i))))) (refused_with LongResponse r buffer) (by_reports reports e i))
      where
        by_length : (long : Bool) → outcome_by (cond long (some LongResponse) none) r buffer ≡ cond long (refused_with LongResponse r buffer) (answer_with (reports_of r) r buffer)
        by_length true = refl
        by_length false = refl

        by_reports : (rs : List Report) → reports_of r ≡ rs → answer_with (reports_of r) r buffer ≡ answer_as rs (with_parameters r.board next) r buffer
        by_reports [] p = ap (λ (rs : List Report). answer_with rs r buffer) p ∙ (λ i. outcome_of (n i) Silence buffer)
        by_reports (first ∷ rest) p =
            ap (λ (rs : List Report). answer_with rs r buffer) p ∙ (λ i. sending (n i) r (encode_reports 0 (p i)) buffer)

  module _ (sized : Sized r.board.parameters) where
    parameters_fit : Fit r.board.parameters
    parameters_fit = record { size = sized; is_sound = (sound_parts r.board legal).held }

    -- the commands of a block that is run
    run_responds :
        (scope : Scope) (cs : List Command) → decoded r ≡ some cs → reports_of r ≡ run_reports_in scope r.board.parameters cs
        → next_board r ≡ with_parameters r.board (run r.board.parameters cs)
        → responded scope r buffer ≡ outcome_by (cond (long_response r) (some LongResponse) none) r buffer
    run_responds scope cs e reports next =
        let said : List Report = run_reports_in scope r.board.parameters cs in
        let encodable : every encodable_report said ≡ true =
        encodable_reports scope cs r.board.parameters parameters_fit (low_bytes r.frame.function r.frame.block cs e) in
        ap (λ (o : Option (List Command)). responded_with (run_from scope r.board.parameters blank o) r buffer) e
        ∙ ap (λ (fit : Bool). responded_with (ran_for fit said (run r.board.parameters cs)) r buffer) (taken_blank said encodable)
        ∙ run_by said (run r.board.parameters cs) (leb (length (encode_reports 0 said)) 232) refl
        ∙ sym (defined said (run r.board.parameters cs) reports next)

    reports_by : {discovery : Bool} {cs : List Command} → is_discovery r ≡ discovery → decoded r ≡ some cs
        → reports_of r ≡ cond discovery (discover_reports r.board.id (unit_of r.board) cs) (run_reports r.board.parameters cs)
    reports_by d e =
        λ i. cond (d i) (discover_reports r.board.id (unit_of r.board) (get_or (e i) [])) (run_reports r.board.parameters (get_or (e i) []))

    next_by : {discovery : Bool} {cs : List Command} → is_discovery r ≡ discovery → decoded r ≡ some cs
        → next_board r ≡ cond discovery r.board (with_parameters r.board (run r.board.parameters cs))
    next_by d e = λ i. cond (d i) r.board (with_parameters r.board (run r.board.parameters (get_or (e i) [])))

    responds_by :
        (discovery : Bool) → is_discovery r ≡ discovery → malformed r ≡ false
        → (discovery && other_than_reads r.frame) ≡ false
        → responded (scope_of discovery) r buffer ≡ outcome_by (cond (long_response r) (some LongResponse) none) r buffer
    responds_by true d formed reads =
        let only : not (only_reads r.frame.function r.frame.block) ≡ false = sym ((other_named r.frame.function r.frame.block).formed (not-false _ formed)) ∙ reads in
        let (cs, e, all) = all_reads r.frame.function r.frame.block (not-false _ only) in
        let parts = sound_parts r.board legal in
        run_responds Identity cs e
        (reports_by d e ∙ sym (identity_reports r.board.id r.board.parameters parts.unit parts.own_id parts.unit_type_lem cs all))
        (next_by d e ∙ ap (with_parameters r.board) (sym (reads_keep cs r.board.parameters all)))
    responds_by false d formed reads =
        let (cs, e) = some_commands (decoded r) formed in
        run_responds All cs e (reports_by d e ∙ sym (all_reports cs r.board.parameters)) (next_by d e)

    by_checks :
        (refusal : Option Refusal) → first_refusal request_checks r ≡ refusal
        → answered_as (judged_by refusal (scope_of (is_discovery r))) r buffer ≡ outcome_by (or_else refusal (cond (long_response r) (some LongResponse) none)) r buffer
    unfolding request_refusals or_else
    by_checks (some refusal) e = refl
    by_checks none e =
        let passed = first_none _ r e in
        responds_by (is_discovery r) refl passed.1.1.1.0 passed.1.1.1.1.0

pub answered_outcome :
    (r : Request) (buffer : List ℕ) → sound r.board ≡ true → length r.frame.password ≤ 8 → 256 ≤ length buffer
    → answered r buffer ≡ outcome_by (first_refusal request_refusals r) r buffer
unfolding request_refusals first_refusal
answered_outcome r buffer legal short room =
    by_checks r buffer legal short room (sound_parts r.board legal).sized (first_refusal request_checks r) refl
    ∙ ap (λ (refusal : Option Refusal). outcome_by refusal r buffer) (sym (first_of_joined r request_checks (rule LongResponse long_response ∷ [])))
