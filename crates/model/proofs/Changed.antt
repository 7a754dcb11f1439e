-- Demand 2: the statements of specs/Changes.antt hold.
use Prim.Native.Nat.{ℕ, ◌-◌}
use mathlib.Core.Bool.{Bool, true, false, cond, not, ◌&&◌, ◌||◌, and-false, and-true, or-true}
use mathlib.Core.List.{List, [], ◌∷◌, ◌++◌, append_assoc}
use mathlib.Core.Option.{Option, none, some, get_or}
use Rattle.std.specs.Prelude.{Option as OptionInCode, None, Some}
use mathlib.Core.Logic.{⊎_elim}
use mathlib.Core.Path.{◌≡◌, refl, sym, ap, subst, ◌∙◌}
use borrow.Author.Tests.{eq-eqb, ne_eqb, eqb-true, not-true, not-false}
use lib.Dec.{leb, eqb}
use lib.ListN.{length, replicate}
use lib.Seq.{take_at}
use Rattle.octets.specs.Octets.{same}
use Rattle.octets.proofs.Booleans.{both_true}
use Rattle.octets.proofs.Same.{same_equal}
use Rattle.framing.specs.Identity.{all_alphanumeric, default_id}
use Rattle.framing.specs.Packet.{frame_of}
use Rattle.framing.specs.Refusal.{first_refusal}
use Rattle.refusals.specs.declared.Refusal.{Refusal}
use Rattle.block.specs.Command.{Command, command_number, Report, held, unknown}
use Rattle.block.specs.Encoding.{every}
use Rattle.block.proofs.Parts.{cond_same}
use Rattle.store.specs.Laws.{Operation, Write, Raise, Lower, Measure, new_value, after}
use Rattle.rows.specs.Layout.{size_of, is_micra}
use Rattle.rows.specs.Sets.{member}
use Rattle.store.specs.Start.{start}
use Rattle.store.specs.Layout.{slot_of, value_of}
use Rattle.store.specs.Operations.{measurable, affected, stored as stored_in}
use Rattle.rows.specs.Rows.{is_identity, rows as table, index_in, allows, known, row_of}
use Rattle.store.specs.Laws as laws
use Rattle.store.specs.Sound as rows
use Rattle.store.specs.declared.Answer.TheVariants.{Value, Unknown, Silence}
use Rattle.store.specs.declared.Store.{Store}
use Rattle.store.proofs.Laws.{size_kept, unit_kept, others_kept, identity_kept, read_back, sound_kept, held_legal, start_sized, start_sound, start_identity}
use Rattle.schedule.specs.Days.{is_day, is_period, days_of, contains, is_empty, is_writable, first_day}
use Rattle.schedule.specs.Entries as entries
use Rattle.schedule.specs.Entries.{entry_at}
use Rattle.schedule.specs.Laws.{is_for}
use Rattle.schedule.specs.Operations.{schedule_number, day_in, period_in, entry_in, reads, writes, asked_by, addressed_by, answered, stores, written}
use Rattle.schedule.specs.declared.Answer.{Answer as EntryAnswer}
use Rattle.schedule.specs.declared.Answer.TheVariants as entry
use Rattle.schedule.specs.declared.Schedule.{Schedule}
use Rattle.schedule.proofs.Laws as schedule
use Rattle.model.specs.Changes.{Asks, may_change, none_changes, legal_fields, is_for_entry, names_entry, stores_entry, none_stores, asks_entry, writes_entry, entry_on, SameIdentity, ValuesReported, DiscoveriesReported, OthersLeft, EntriesReadBack, CarriedOut, CommandRuns, PacketsChange, MeasurementsChange, SetUpsLegal}
use Rattle.model.specs.Commands.{names_schedule, is_schedule, is_write, after_entry, after_command, row_report, entry_report, reported, run, run_reports, discovered, discover_reports}
use Rattle.model.specs.Measurement.{MeasureCall, measure_refusals, measure_refusal, measured_by, measured_board}
use Rattle.model.specs.Record.{is_id, is_unit, unit_type, unit_of, entries_sound, parameters_of, with_parameters, SetUp, set_up_refusals, set_up_refusal, start_board, unset, board_of, set_up_board, sound}
use Rattle.model.specs.Step.{Call, request, unsound, is_discovery, commands_of, reports_of, step_refusal, step}
use Rattle.model.specs.declared.Board.{Board}
use Rattle.model.specs.declared.Parameters.{Parameters}
use Rattle.model.proofs.Joining.{runs_join, none_run}
use Rattle.model.proofs.RowOperations.{operation_of, operates, done, same_slot, carried_out}
use Rattle.model.proofs.Soundness.{Sized, SoundParts, sound_parts, parts_sound}
use Rattle.model.proofs.Earliest.{first_none}
use Rattle.model.proofs.StepRefusals.{step_refusal_by, step_refused, passed_step, answered_board, on_step}

-- a command of a row does its operation
command_done :
    (p : Parameters) (c : Command)
    → after_command p c
    ≡ cond (is_schedule p c) (parameters_of p.store (after_entry p.schedule c)) (parameters_of (done (operation_of c) p.store (command_number c)) p.schedule)
unfolding after_command
command_done p c =
    ap (λ (s : Store). cond (is_schedule p c) (parameters_of p.store (after_entry p.schedule c)) (parameters_of s p.schedule))
    (by_function (is_write c) (eqb c.function 4) (eqb c.function 5))
  where
    by_function :
        (writes raises lowers : Bool)
        → cond writes (after (Write c.value) p.store (command_number c))
        (cond raises (after Raise p.store (command_number c)) (cond lowers (after Lower p.store (command_number c)) p.store))
        ≡ done (cond writes (Some (Write c.value)) (cond raises (Some Raise) (cond lowers (Some Lower) None))) p.store (command_number c)
    by_function true raises lowers = refl
    by_function false true lowers = refl
    by_function false false true = refl
    by_function false false false = refl

pub others_left : OthersLeft
unfolding after_command
others_left p c = record { rows = λ h. rw h; entries = λ h. rw h }

entries_written : (p : Parameters) (c : Command) → is_schedule p c ≡ true → is_write c ≡ true → (after_command p c).schedule ≡ written p.schedule c.value
unfolding after_command
entries_written p c named writes = rw (named, writes)

-- a read leaves the parameters as they were
pub read_keeps : (p : Parameters) (c : Command) → c.function ≡ 1 → after_command p c ≡ p
unfolding after_command
read_keeps p c e = rw e (cond_same (is_schedule p c) p)

-- no row of the Micra has the schedule's number
known_row : (unit n : ℕ) → known unit n ≡ true → names_schedule unit n ≡ false
unfolding table index_in
known_row unit n h = by_number (eqb unit 2) (eqb n schedule_number) refl refl
  where
    no_row_lem : known 2 schedule_number ≡ false
    no_row_lem = refl

    by_number : (micra is_schedule_lem : Bool) → eqb unit 2 ≡ micra → eqb n schedule_number ≡ is_schedule_lem → (micra && is_schedule_lem) ≡ false
    by_number true true e f =
        let named : known unit n ≡ false = (λ i. known (eqb-true unit 2 e i) (eqb-true n schedule_number f i)) ∙ no_row_lem in cc
    by_number true false e f = refl
    by_number false is_schedule_lem e f = refl

-- of the schedule, by its answer
pub entry_reported : (p : Parameters) (c : Command) → is_schedule p c ≡ true → reported p c ≡ entry_report (answered c.function c.value) p.schedule c
unfolding reported
entry_reported p c named = rw named

module _ (p : Parameters) (c : Command) (named : is_schedule p c ≡ true) where
  told : (answer : EntryAnswer) → answered c.function c.value ≡ answer → reported p c ≡ entry_report answer p.schedule c
  told answer e = entry_reported p c named ∙ ap (λ (a : EntryAnswer). entry_report a p.schedule c) e

  asked_told : asks_entry c ≡ true → reported p c ≡ entry_on (day_in c.value) p c ∷ []
  asked_told h =
      let both = both_true (eqb c.function 1) (reads c.value) h in
      told (entry.Entry (day_in c.value) (period_in c.value)) (rw (both.0, both.1))

  written_told : writes_entry c ≡ true → reported p c ≡ entry_on (first_day (day_in c.value)) p c ∷ []
  written_told h =
      let both = both_true (eqb c.function 3) (writes c.value) h in
      told (entry.Entry (first_day (day_in c.value)) (period_in c.value)) (rw (eqb-true c.function 3 both.0, both.1))

  none_told : eqb c.function 2 ≡ false → asks_entry c ≡ false → writes_entry c ≡ false → reported p c ≡ unknown c.page c.low ∷ []
  none_told two asks writing = told entry.Unknown (rw two (by_function (eqb c.function 1) (eqb c.function 3) asks writing))
    where
      by_function :
          (one three : Bool) → (one && reads c.value) ≡ false → (three && writes c.value) ≡ false
          → cond one (asked_by c.value) (cond three (addressed_by c.value) entry.Unknown) ≡ entry.Unknown
      by_function true three a w = rw a
      by_function false true a w = rw w
      by_function false false a w = refl

pub values_reported : ValuesReported
unfolding reported
values_reported p c =
    let report : Bool → Bool → Bool → List Report = λ is_schedule_lem silent row.
    cond is_schedule_lem (entry_report (answered c.function c.value) p.schedule c) (row_report (cond silent Silence (cond row Value Unknown)) p.store c) in
    record {
      silence = λ two. by_number two (is_schedule p c);
      value = λ other row. λ i. report (known_row p.store.unit (command_number c) row i) (other i) (row i);
      asked = asked_told p c;
      written = written_told p c;
      no_entry = none_told p c;
      mark = λ other row h. λ i. report (h i) (other i) (row i);
    }
  where
    by_number :
        eqb c.function 2 ≡ true → (is_schedule_lem : Bool)
        → cond is_schedule_lem (entry_report (answered c.function c.value) p.schedule c)
        (row_report (cond (eqb c.function 2) Silence (cond (known p.store.unit (command_number c)) Value Unknown)) p.store c)
        ≡ []
    by_number two true = ap (λ (f : ℕ). entry_report (answered f c.value) p.schedule c) (eqb-true c.function 2 two)
    by_number two false = rw two

same_identity : (board : Board) (p : Parameters) → p.store.unit ≡ unit_of board → SameIdentity board (with_parameters board p)
same_identity board p e = record { id = refl; password = refl; size = refl; mode = refl; unit = e }

-- what a row's operation and a write of the schedule keep, a command keeps
pub on_command :
    (P : Parameters → Type 0) (p : Parameters) (c : Command) → P p
    → ((operation : Operation) → operation_of c ≡ Some operation → P (parameters_of (after operation p.store (command_number c)) p.schedule))
    → (is_schedule p c ≡ true → is_write c ≡ true → P (parameters_of p.store (written p.schedule c.value))) → P (after_command p c)
on_command P p c unchanged changed entered = rw command_done (by_number (is_schedule p c) refl)
  where
    by_operation : (o : OptionInCode Operation) → operation_of c ≡ o → P (parameters_of (done o p.store (command_number c)) p.schedule)
    by_operation None e = unchanged
    by_operation (Some operation) e = changed operation e

    by_write : is_schedule p c ≡ true → (writes : Bool) → is_write c ≡ writes → P (parameters_of p.store (cond writes (written p.schedule c.value) p.schedule))
    by_write h true e = entered h e
    by_write h false e = unchanged

    by_number :
        (is_schedule_lem : Bool) → is_schedule p c ≡ is_schedule_lem
        → P (cond is_schedule_lem (parameters_of p.store (after_entry p.schedule c)) (parameters_of (done (operation_of c) p.store (command_number c)) p.schedule))
    by_number true e = by_write e (is_write c) refl
    by_number false e = by_operation (operation_of c) refl

pub sized_after : (p : Parameters) (c : Command) → Sized p → Sized (after_command p c)
sized_after p c sized =
    on_command Sized p c sized
    (λ operation e. record { store = size_kept operation p.store (command_number c) sized.store; schedule = sized.schedule })
    (λ named writes. record { store = sized.store; schedule = schedule.size_kept p.schedule c.value sized.schedule })

-- no command changes the unit type
unit_after : (p : Parameters) (c : Command) → (after_command p c).store.unit ≡ p.store.unit
unit_after p c =
    on_command (λ (q : Parameters). q.store.unit ≡ p.store.unit) p c refl
    (λ operation e. unit_kept operation p.store (command_number c)) (λ named writes. refl)

run_unit : (cs : List Command) (p : Parameters) → (run p cs).store.unit ≡ p.store.unit
unfolding run
run_unit [] p = refl
run_unit (c ∷ cs) p = run_unit cs (after_command p c) ∙ unit_after p c

-- and a list of such commands
run_keeps :
    (P : Parameters → Type 0) (test : Command → Bool) → ((p : Parameters) (c : Command) → test c ≡ true → Sized p → P p → P (after_command p c))
    → (cs : List Command) (p : Parameters) → every test cs ≡ true → Sized p → P p → Sized (run p cs) × P (run p cs)
unfolding run every
run_keeps P test kept [] p h sized so_far = (sized, so_far)
run_keeps P test kept (c ∷ cs) p h sized so_far =
    let both : (test c ≡ true) × (every test cs ≡ true) = both_true (test c) (every test cs) h in
    run_keeps P test kept cs (after_command p c) both.1 (sized_after p c sized) (kept p c both.0 sized so_far)

run_others :
    (n : ℕ) (cs : List Command) (p : Parameters) → none_changes n cs ≡ true → Sized p → slot_of (run p cs).store n ≡ slot_of p.store n
run_others n cs p h sized =
    (run_keeps (λ (q : Parameters). slot_of q.store n ≡ slot_of p.store n) (λ (c : Command). not (may_change n c)) kept cs p h sized refl).1
  where
    kept :
        (q : Parameters) (c : Command) → not (may_change n c) ≡ true → Sized q → slot_of q.store n ≡ slot_of p.store n
        → slot_of (after_command q c).store n ≡ slot_of p.store n
    kept q c unaffected size so_far =
        on_command (λ (r : Parameters). slot_of r.store n ≡ slot_of p.store n) q c so_far
        (λ operation e.
        let other : affected (command_number c) n ≡ false =
        ap (λ (b : Bool). b && affected (command_number c) n) (sym (operates c.function c.value operation e)) ∙ not-true (may_change n c) unaffected in
        others_kept operation q.store (command_number c) n size.store other ∙ so_far)
        (λ named writes. so_far)

-- days that have one are some
has_day : (days : List ℕ) (day : ℕ) → contains days day ≡ true → not (is_empty days) ≡ true
unfolding contains
has_day [] day h = cc
has_day (first ∷ rest) day h = refl

-- a day among those written may be written, and an entry's period is one
for_entry :
    (six writable is_period_lem legal on_day at_period : Bool) → (on_day ≡ true → writable ≡ true) → (at_period ≡ true → is_period_lem ≡ true)
    → (six && writable && is_period_lem && legal && (on_day && at_period)) ≡ (six && on_day && at_period && legal)
for_entry false writable is_period_lem legal on_day at_period w p = refl
for_entry true writable is_period_lem legal false at_period w p = and-false (writable && is_period_lem && legal)
for_entry true writable is_period_lem legal true false w p = and-false (writable && is_period_lem && legal)
for_entry true writable is_period_lem legal true true w p = rw (w refl, p refl, and-true legal)

-- the values that store this entry
exactly :
    (day period : ℕ) (value : List ℕ) → is_period period ≡ true → (stores value && is_for value day period) ≡ is_for_entry day period value
exactly day period value is_period_lem =
    for_entry (eqb (length value) 6) (is_writable (day_in value)) (is_period (period_in value)) (legal_fields value)
    (contains (days_of (day_in value)) day) (eqb (period_in value) period)
    (has_day (days_of (day_in value)) day) (λ e. ap is_period (eqb-true (period_in value) period e) ∙ is_period_lem)

module _ (day period : ℕ) (is_day_lem : is_day day ≡ true) (is_period_lem : is_period period ≡ true) where
  run_entries :
      (unit : ℕ) (cs : List Command) (p : Parameters) → unit ≡ p.store.unit → none_stores unit day period cs ≡ true → Sized p
      → entry_at (run p cs).schedule day period ≡ entry_at p.schedule day period
  run_entries unit cs p u h sized =
      (run_keeps (λ (q : Parameters). (unit ≡ q.store.unit) × (entry_at q.schedule day period ≡ entry_at p.schedule day period))
      (λ (c : Command). not (stores_entry unit day period c)) kept cs p h sized (u, refl)).1.1
    where
      kept :
          (q : Parameters) (c : Command) → not (stores_entry unit day period c) ≡ true → Sized q
          → (unit ≡ q.store.unit) × (entry_at q.schedule day period ≡ entry_at p.schedule day period)
          → (unit ≡ (after_command q c).store.unit) × (entry_at (after_command q c).schedule day period ≡ entry_at p.schedule day period)
      kept q c unaffected size so_far = (
        so_far.0 ∙ sym (unit_after q c),
        on_command (λ (r : Parameters). entry_at r.schedule day period ≡ entry_at p.schedule day period) q c so_far.1 (λ operation e. so_far.1)
            (λ named writes.
            let other : (stores c.value && is_for c.value day period) ≡ false =
            (λ i. sym (ap (λ (v : ℕ). names_entry v c) so_far.0 ∙ named) i && sym writes i && exactly day period c.value is_period_lem i)
            ∙ not-true (stores_entry unit day period c) unaffected in
            schedule.write_exact q.schedule c.value day period size.schedule is_day_lem is_period_lem ∙ rw other so_far.1),
      )

  entry_stored :
      (p : Parameters) (c : Command) → Sized p → stores_entry p.store.unit day period c ≡ true
      → entry_at (after_command p c).schedule day period ≡ entry_in c.value
  entry_stored p c sized h =
      let both = both_true (is_schedule p c && is_write c) _ h in
      let named = both_true (is_schedule p c) (is_write c) both.0 in
      ap (λ (s : Schedule). entry_at s day period) (entries_written p c named.0 named.1)
      ∙ schedule.write_exact p.schedule c.value day period sized.schedule is_day_lem is_period_lem
      ∙ rw (exactly day period c.value is_period_lem ∙ both.1)

pub entries_read_back : EntriesReadBack
unfolding run
entries_read_back p write read day period sized is_period_lem h read_number reads asked =
    let both = both_true (is_schedule p write && is_write write) _ h in
    let named = both_true (is_schedule p write) (is_write write) both.0 in
    let kept = both_true (stores write.value) (is_for write.value day period) (exactly day period write.value is_period_lem ∙ both.1) in
    let at = both_true (contains (days_of (day_in write.value)) day) (eqb (period_in write.value) period) kept.1 in
    let same : period_in write.value ≡ period = eqb-true _ _ at.1 in
    let back = schedule.read_back p.schedule write.value day sized kept.0 at.0 in
    let left : (run p (write ∷ read ∷ [])).schedule ≡ written p.schedule write.value =
    ap (λ (q : Parameters). q.schedule) (read_keeps (after_command p write) read reads) ∙ entries_written p write named.0 named.1 in
    entry_reported (run p (write ∷ read ∷ [])) read (ap (λ (unit : ℕ). names_entry unit read) (run_unit (write ∷ read ∷ []) p) ∙ read_number)
    ∙ (λ i. entry_report (answered (reads i) ((asked ∙ ap (λ (x : ℕ). day ∷ x ∷ []) (sym same)) i)) (left i) read)
    ∙ ap (λ (a : EntryAnswer). entry_report a (written p.schedule write.value) read) back.0
    ∙ ap (λ (v : List ℕ). held read.page read.low v ∷ []) back.1

-- parameters of a sound record with this ID
record LegalParameters (id : List ℕ) (p : Parameters) : Type 0 where
  held : rows.sound p.store ≡ true
  unit : is_unit p.store.unit ≡ true
  scheduled : entries_sound p ≡ true
  own_id : value_of p.store 0x007C ≡ id
  unit_type_lem : value_of p.store 0x00B9 ≡ unit_type p.store.unit

value_kept :
    (operation : Operation) (store : Store) (n other : ℕ) → is_identity other ≡ true → laws.Sized store
    → value_of (after operation store n) other ≡ value_of store other
value_kept operation store n other h sized = same_slot _ _ other (unit_kept operation store n) (identity_kept operation store n other sized h)

operation_legal :
    {id : List ℕ} (operation : Operation) (p : Parameters) (n : ℕ) → Sized p → LegalParameters id p
    → LegalParameters id (parameters_of (after operation p.store n) p.schedule)
operation_legal operation p n sized legal =
    record {
      held = sound_kept operation p.store n sized.store legal.held;
      unit = ap is_unit (unit_kept operation p.store n) ∙ legal.unit;
      scheduled = ap (λ (unit : ℕ). not (is_micra unit) || entries.sound p.schedule) (unit_kept operation p.store n) ∙ legal.scheduled;
      own_id = value_kept operation p.store n 0x007C refl sized.store ∙ legal.own_id;
      unit_type_lem = value_kept operation p.store n 0x00B9 refl sized.store ∙ legal.unit_type_lem ∙ ap unit_type (sym (unit_kept operation p.store n));
    }

scheduled_kept : (p : Parameters) (value : List ℕ) → entries_sound p ≡ true → entries_sound (parameters_of p.store (written p.schedule value)) ≡ true
scheduled_kept p value = by (is_micra p.store.unit)
  where
    by : (micra : Bool) → (not micra || entries.sound p.schedule) ≡ true → (not micra || entries.sound (written p.schedule value)) ≡ true
    by true h = schedule.sound_kept p.schedule value h
    by false h = refl

legal_after : {id : List ℕ} (p : Parameters) (c : Command) → Sized p → LegalParameters id p → LegalParameters id (after_command p c)
legal_after {id} p c sized legal =
    on_command (LegalParameters id) p c legal (λ operation e. operation_legal operation p (command_number c) sized legal)
    (λ named writes.
    record {
      held = legal.held;
      unit = legal.unit;
      scheduled = scheduled_kept p c.value legal.scheduled;
      own_id = legal.own_id;
      unit_type_lem = legal.unit_type_lem;
    })

every_command : (cs : List Command) → every (λ (c : Command). true) cs ≡ true
unfolding every
every_command [] = refl
every_command (c ∷ cs) = every_command cs

run_legal :
    {id : List ℕ} (cs : List Command) (p : Parameters) → Sized p → LegalParameters id p → Sized (run p cs) × LegalParameters id (run p cs)
run_legal {id} cs p = run_keeps (LegalParameters id) (λ (c : Command). true) (λ q c h. legal_after q c) cs p (every_command cs)

parameters_of_lem : {board : Board} → SoundParts board → LegalParameters board.id board.parameters
parameters_of_lem parts = record { held = parts.held; unit = parts.unit; scheduled = parts.scheduled; own_id = parts.own_id; unit_type_lem = parts.unit_type_lem }

sound_with : (board : Board) (p : Parameters) → SoundParts board → Sized p × LegalParameters board.id p → sound (with_parameters board p) ≡ true
sound_with board p parts legal =
    parts_sound (with_parameters board p)
    (record {
      id = parts.id;
      size = parts.size;
      password = parts.password;
      mode = parts.mode;
      sized = legal.0;
      unit = legal.1.unit;
      held = legal.1.held;
      scheduled = legal.1.scheduled;
      own_id = legal.1.own_id;
      unit_type_lem = legal.1.unit_type_lem;
    })

run_sized : (cs : List Command) (p : Parameters) → Sized p → Sized (run p cs)
run_sized cs p sized = (run_keeps Sized (λ (c : Command). true) (λ q c h size so_far. sized_after q c size) cs p (every_command cs) sized sized).0

-- on a Micra the schedule's number has no row to operate on
schedule_row : (operation : Operation) (store : Store) (n : ℕ) → names_schedule store.unit n ≡ true → after operation store n ≡ store
unfolding table index_in
schedule_row operation store n h = ap (stored_in store n) (by operation)
  where
    both : (eqb store.unit 2 ≡ true) × (eqb n schedule_number ≡ true)
    both = both_true (eqb store.unit 2) (eqb n schedule_number) h

    no_row_lem : row_of store.unit n ≡ row_of 2 schedule_number
    no_row_lem = λ i. row_of (eqb-true store.unit 2 both.0 i) (eqb-true n schedule_number both.1 i)

    by : (o : Operation) → new_value o store n ≡ None
    by (Write v) = rw no_row_lem
    by Raise = rw no_row_lem
    by Lower = rw no_row_lem
    by (Measure v) = rw no_row_lem

row_done :
    (p : Parameters) (c : Command) → (after_command p c).store ≡ done (operation_of c) p.store (command_number c)
row_done p c = ap (λ (q : Parameters). q.store) (command_done p c) ∙ by_number (is_schedule p c) refl
  where
    untouched : is_schedule p c ≡ true → (o : OptionInCode Operation) → p.store ≡ done o p.store (command_number c)
    untouched named None = refl
    untouched named (Some operation) = sym (schedule_row operation p.store (command_number c) named)

    by_number :
        (is_schedule_lem : Bool) → is_schedule p c ≡ is_schedule_lem
        → (cond is_schedule_lem (parameters_of p.store (after_entry p.schedule c)) (parameters_of (done (operation_of c) p.store (command_number c)) p.schedule)).store
        ≡ done (operation_of c) p.store (command_number c)
    by_number true named = untouched named (operation_of c)
    by_number false named = refl

module _ (p : Parameters) (before : List Command) (command : Command) (remaining : List Command) (sized : Sized p) where
  sized_before : Sized (run p before)
  sized_before = run_sized before p sized

  -- the commands after run on what the command leaves
  run_after : run p (before ++ command ∷ remaining) ≡ run (after_command (run p before) command) remaining
  unfolding run
  run_after = (runs_join p before (command ∷ remaining)).leaves

  reports_after :
      run_reports p (before ++ command ∷ remaining)
      ≡ run_reports p before ++ reported (run p (before ++ command ∷ [])) command ++ run_reports (run p (before ++ command ∷ [])) remaining
  unfolding run run_reports
  reports_after =
      (runs_join p before (command ∷ remaining)).reports
      ∙ ap (λ (q : Parameters). run_reports p before ++ (reported q command ++ run_reports q remaining)) (sym (runs_join p before (command ∷ [])).leaves)
      ∙ simp append_assoc

  row_after :
      none_changes (command_number command) remaining ≡ true
      → CarriedOut command (command_number command) (run p before).store (run p (before ++ command ∷ remaining)).store
  row_after h =
      let n : ℕ = command_number command in
      carried_out command n (run p before).store (run p (before ++ command ∷ remaining)).store sized_before.store
      (run_unit (before ++ command ∷ remaining) p ∙ sym (run_unit before p))
      (ap (λ (q : Parameters). slot_of q.store n) run_after
      ∙ run_others n remaining (after_command (run p before) command) h (sized_after (run p before) command sized_before)
      ∙ ap (λ (s : Store). slot_of s n) (row_done (run p before) command))

  entry_after :
      (day period : ℕ) → is_day day ≡ true → is_period period ≡ true → stores_entry p.store.unit day period command ≡ true
      → none_stores p.store.unit day period remaining ≡ true → entry_at (run p (before ++ command ∷ remaining)).schedule day period ≡ entry_in command.value
  entry_after day period is_day_lem is_period_lem stored h =
      ap (λ (q : Parameters). entry_at q.schedule day period) run_after
      ∙ run_entries day period is_day_lem is_period_lem p.store.unit remaining (after_command (run p before) command)
      (sym (unit_after (run p before) command ∙ run_unit before p)) h (sized_after (run p before) command sized_before)
      ∙ entry_stored day period is_day_lem is_period_lem (run p before) command sized_before
      (ap (λ (unit : ℕ). stores_entry unit day period command) (run_unit before p) ∙ stored)

-- the model's reading of a packet's commands
pub asked : (c : Call) (cs : List Command) → Asks c cs → commands_of (request c) ≡ cs
asked c cs e = ap (λ (o : Option (List Command)). get_or o []) e

pub no_discovery : (c : Call) → (c.board.mode ≡ 1 → (frame_of c.packet).id ≡ default_id → ⊥) → is_discovery (request c) ≡ false
no_discovery c other = by_tests (eqb c.board.mode 1) (same (frame_of c.packet).id default_id) refl refl
  where
    by_tests : (mode id : Bool) → eqb c.board.mode 1 ≡ mode → same (frame_of c.packet).id default_id ≡ id → (mode && id) ≡ false
    by_tests false id e h = refl
    by_tests true false e h = refl
    by_tests true true e h = absurd (other (eqb-true _ 1 e) (same_equal _ _ h))

-- a packet that is no discovery: what its commands report, and what they leave if it is accepted
module _ (c : Call) (other : is_discovery (request c) ≡ false) where
  pub commands_report : reports_of (request c) ≡ run_reports c.board.parameters (commands_of (request c))
  commands_report = ap (λ (d : Bool). cond d (discover_reports c.board.id (unit_of c.board) (commands_of (request c))) (run_reports c.board.parameters (commands_of (request c)))) other

  pub commands_leave : step_refusal c ≡ none → (step c).board ≡ with_parameters c.board (run c.board.parameters (commands_of (request c)))
  commands_leave accepted =
      answered_board c accepted ∙ ap (λ (d : Bool). cond d c.board (with_parameters c.board (run c.board.parameters (commands_of (request c))))) other

-- no commands report nothing, in a discovery or not
no_reports : (c : Call) → Asks c [] → reports_of (request c) ≡ []
unfolding discover_reports
no_reports c e =
    ap (λ (cs : List Command). cond (is_discovery (request c)) (discover_reports c.board.id (unit_of c.board) cs) (run_reports c.board.parameters cs)) (asked c [] e)
    ∙ ap (cond (is_discovery (request c)) []) (none_run c.board.parameters).reports
    ∙ cond_same (is_discovery (request c)) []

-- what holds of the record and, if it is sound, of it with the parameters that the commands leave
on_sound :
    (P : Board → Type 0) (c : Call) → P c.board
    → (SoundParts c.board → P (with_parameters c.board (run c.board.parameters (commands_of (request c))))) → P (step c).board
on_sound P c unchanged changed = by_record (unsound c) refl
  where
    by_record : (is_unsound : Bool) → unsound c ≡ is_unsound → P (step c).board
    by_record true e = rw (step_refused c (step_refusal_by c e refl refl refl)) unchanged
    by_record false e = on_step P c unchanged (changed (sound_parts c.board (not-false _ e)))

runs :
    (c : Call) → step_refusal c ≡ none → (c.board.mode ≡ 1 → (frame_of c.packet).id ≡ default_id → ⊥)
    → (before : List Command) (command : Command) (remaining : List Command)
    → Asks c (before ++ command ∷ remaining) → CommandRuns c before command remaining
runs c accepted no_search before command remaining read =
    let p : Parameters = c.board.parameters in
    let sized : Sized p = (sound_parts c.board (not-false _ (passed_step c accepted).board)).sized in
    let other : is_discovery (request c) ≡ false = no_discovery c no_search in
    let e : commands_of (request c) ≡ before ++ command ∷ remaining = asked c _ read in
    let left : (step c).board.parameters ≡ run p (before ++ command ∷ remaining) = ap (λ (b : Board). b.parameters) (commands_leave c other accepted) ∙ ap (run p) e in
    record {
      carried = λ h.
          subst (λ (q : Parameters). CarriedOut command (command_number command) (run p before).store q.store) (sym left)
          (row_after p before command remaining sized h);
      stored_entry = λ day period is_day_lem is_period_lem stored h.
          ap (λ (q : Parameters). entry_at q.schedule day period) left
          ∙ entry_after p before command remaining sized day period is_day_lem is_period_lem stored h;
      reports = commands_report c other ∙ ap (run_reports p) e ∙ reports_after p before command remaining sized;
    }

step_sound : (c : Call) → sound c.board ≡ true → sound (step c).board ≡ true
step_sound c legal =
    on_sound (λ (b : Board). sound b ≡ true) c legal
    (λ parts. sound_with c.board _ parts (run_legal (commands_of (request c)) c.board.parameters parts.sized (parameters_of_lem parts)))

packet_identity : (c : Call) → SameIdentity c.board (step c).board
packet_identity c =
    on_step (SameIdentity c.board) c (same_identity c.board c.board.parameters refl)
    (same_identity c.board _ (run_unit (commands_of (request c)) c.board.parameters))

pub packets_change : PacketsChange
packets_change c =
    record {
      identity = packet_identity c;
      others = λ cs e n h.
          on_sound (λ (b : Board). slot_of b.parameters.store n ≡ slot_of c.board.parameters.store n) c refl
          (λ parts. run_others n (commands_of (request c)) c.board.parameters (ap (none_changes n) (asked c cs e) ∙ h) parts.sized);
      entries = λ cs e day period is_day_lem is_period_lem h.
          on_sound (λ (b : Board). entry_at b.parameters.schedule day period ≡ entry_at c.board.parameters.schedule day period) c refl
          (λ parts. run_entries day period is_day_lem is_period_lem (unit_of c.board) (commands_of (request c)) c.board.parameters refl (ap (none_stores (unit_of c.board) day period) (asked c cs e) ∙ h) parts.sized);
      silent = no_reports c;
      runs = runs c;
      legal = step_sound c;
      members = λ h n row.
          let same : unit_of (step c).board ≡ unit_of c.board = (packet_identity c).unit in
          ap (λ (unit : ℕ). member (row_of unit n).set (value_of (step c).board.parameters.store n)) (sym same)
          ∙ held_legal (step c).board.parameters.store n (sound_parts (step c).board (step_sound c h)).held (ap (λ (unit : ℕ). allows unit n 1) same ∙ row);
    }

on_measured :
    (P : Board → Type 0) (c : MeasureCall) → P c.board
    → (SoundParts c.board → P (with_parameters c.board (parameters_of (after (Measure c.value) c.board.parameters.store c.number) c.board.parameters.schedule)))
    → P (measured_board c)
unfolding measured_board measure_refusal measure_refusals
on_measured P c unchanged changed = by_refusal (measure_refusal c) refl
  where
    by_refusal : (o : Option Refusal) → measure_refusal c ≡ o → P (measured_by o c)
    by_refusal none e = changed (sound_parts c.board (not-false _ (first_none _ c e).0))
    by_refusal (some refusal) e = unchanged

measurement_accepted :
    (c : MeasureCall) → sound c.board ≡ true → allows (unit_of c.board) c.number 1 ≡ true → allows (unit_of c.board) c.number 2 ≡ false
    → eqb c.number 0x007C ≡ false → eqb c.number 0x00B9 ≡ false → length c.value ≡ size_of (row_of (unit_of c.board) c.number).set → measure_refusal c ≡ none
unfolding measure_refusal measure_refusals first_refusal
measurement_accepted c legal row read_only_lem not_id not_type size = rw (legal, row, read_only_lem, not_id, not_type, eq-eqb _ _ size)

measured_value : (c : MeasureCall) → measure_refusal c ≡ none → value_of (measured_board c).parameters.store c.number ≡ c.value
unfolding measure_refusal measure_refusals measured_board
measured_value c e =
    let passed = first_none _ c e in
    let sized : Sized c.board.parameters = (sound_parts c.board (not-false _ passed.0)).sized in
    let row : measurable (unit_of c.board) c.number ≡ true = not-false _ passed.1.0 in
    let size : eqb (length c.value) (size_of (row_of (unit_of c.board) c.number).set) ≡ true = not-false _ passed.1.1.0 in
    let stored : new_value (Measure c.value) c.board.parameters.store c.number ≡ Some c.value = rw (row, size) in
    ap (λ (o : Option Refusal). value_of (measured_by o c).parameters.store c.number) e
    ∙ read_back (Measure c.value) c.board.parameters.store c.number c.value sized.store stored

pub measurements_change : MeasurementsChange
measurements_change c =
    record {
      identity = on_measured (SameIdentity c.board) c (same_identity c.board c.board.parameters refl)
          (λ parts. same_identity c.board _ (unit_kept (Measure c.value) c.board.parameters.store c.number));
      accepted = measurement_accepted c;
      stored = measured_value c;
      others = λ n h.
          on_measured (λ (b : Board). slot_of b.parameters.store n ≡ slot_of c.board.parameters.store n) c refl
          (λ parts. others_kept (Measure c.value) c.board.parameters.store c.number n parts.sized.store h);
      entries = on_measured (λ (b : Board). b.parameters.schedule ≡ c.board.parameters.schedule) c refl (λ parts. refl);
      legal = λ legal.
          on_measured (λ (b : Board). sound b ≡ true) c legal
          (λ parts.
          sound_with c.board _ parts (
            record { store = size_kept (Measure c.value) c.board.parameters.store c.number parts.sized.store; schedule = parts.sized.schedule },
            operation_legal (Measure c.value) c.board.parameters c.number parts.sized (parameters_of_lem parts),
          ));
    }

pub discoveries_reported : DiscoveriesReported
unfolding discovered
discoveries_reported board c legal =
    let parts = sound_parts board legal in
    record {
      identity = λ named.
          ⊎_elim
          (λ e. rw (e) (ap (λ (v : List ℕ). held c.page c.low v ∷ []) (sym parts.own_id)))
          (λ e. rw (e) (ap (λ (v : List ℕ). held c.page c.low v ∷ []) (sym parts.unit_type_lem)))
          named;
      others = λ no_id no_type. rw (ne_eqb (command_number c) 0x007C no_id, ne_eqb (command_number c) 0x00B9 no_type);
    }

start_unit : (given : SetUp) → (start given.id given.unit).unit ≡ given.unit
unfolding start
start_unit given = refl

started : (given : SetUp) → set_up_refusal given ≡ none → sound (start_board given) ≡ true
unfolding set_up_refusal set_up_refusals
started given e =
    let passed = first_none _ given e in
    let unit : is_unit given.unit ≡ true = not-false _ passed.1.1.1.0 in
    let id : is_id given.id ≡ true = not-false _ passed.0 in
    let id_size : length given.id ≡ 16 = eqb-true _ _ (both_true (eqb (length given.id) 16) _ id).0 in
    let password : (leb (length given.password) 8 ≡ true) × (all_alphanumeric given.password ≡ true) =
    both_true (leb (length given.password) 8) _ (not-false _ passed.1.0) in
    parts_sound (start_board given)
    (record {
      id = id;
      size = password.0;
      password = rw (take_at given.password (replicate (8 - length given.password) 0) (length given.password) refl) password.1;
      mode = not-false _ passed.1.1.0;
      sized = record { store = start_sized given.id given.unit; schedule = schedule.start_sized };
      unit = ap is_unit (start_unit given) ∙ unit;
      held = start_sound given.id given.unit id_size;
      scheduled = rw schedule.start_sound (or-true (not (is_micra (unit_of (start_board given)))));
      own_id = (start_identity given.id given.unit id_size unit).0;
      unit_type_lem = (start_identity given.id given.unit id_size unit).1 ∙ ap unit_type (sym (start_unit given));
    })

unset_accepted : set_up_refusal unset ≡ none
unfolding set_up_refusal set_up_refusals first_refusal same default_id all_alphanumeric
unset_accepted = refl

pub set_ups_legal : SetUpsLegal
unfolding set_up_board
set_ups_legal given = by_refusal (set_up_refusal given) refl
  where
    by_refusal : (o : Option Refusal) → set_up_refusal given ≡ o → sound (board_of o given) ≡ true
    by_refusal none e = started given e
    by_refusal (some refusal) e = started unset unset_accepted
