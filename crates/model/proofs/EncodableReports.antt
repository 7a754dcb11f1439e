-- Each report of a board has an encoding: its low byte is a decoded command's, and its value is one of a sound store, of the schedule or of the identity.
use Prim.Native.Nat.{ℕ, ◌≤◌}
use native.Mathlib.Omega.{arith}
use mathlib.Core.Bool.{Bool, true, false, cond, ◌&&◌}
use mathlib.Core.List.{List, [], ◌∷◌, ◌++◌}
use mathlib.Core.Option.{Option, none, some, get_or}
use mathlib.Core.Path.{◌≡◌, refl, ◌∙◌}
use borrow.Author.Tests.{le-leb}
use lib.Dec.{eqb}
use lib.ListN.{length}
use Rattle.octets.proofs.Booleans.{both_true}
use Rattle.block.specs.Command.{Command, command_number, Report, held}
use Rattle.block.specs.Encoding.{encodable_report, every}
use Rattle.block.proofs.Decoded.{is_low, low_bytes}
use Rattle.block.proofs.Every.{every_join}
use Rattle.store.specs.Layout.{value_of}
use Rattle.rows.specs.Rows.{known}
use Rattle.store.specs.Sound as stored
use Rattle.store.proofs.Laws.{sound_kept, held_length}
use Rattle.schedule.specs.Operations.{answered, report_of}
use Rattle.schedule.specs.declared.Answer.{Answer as EntryAnswer}
use Rattle.schedule.specs.declared.Answer.TheVariants as answer
use Rattle.schedule.specs.declared.Schedule.{Schedule}
use Rattle.model.specs.Changes.{ReportsHeld}
use Rattle.model.specs.Commands.{is_schedule, after_command, entry_report, reported, run_reports, discovered, discover_reports}
use Rattle.model.specs.Record.{unit_type, unit_of, sound}
use Rattle.model.specs.Step.{Request, is_discovery, decoded, commands_of, reports_of}
use Rattle.model.specs.declared.Parameters.{Parameters}
use Rattle.model.proofs.Changed.{entry_reported, values_reported, on_command, sized_after}
use Rattle.model.proofs.Soundness.{Sized, SoundParts, sound_parts, id_length}

abbrev pub all_encodable : List Report → Type 0
all_encodable reports = every encodable_report reports ≡ true

pub encodable_join : (left right : List Report) → all_encodable left → all_encodable right → all_encodable (left ++ right)
encodable_join left right l r = every_join encodable_report left right ∙ (λ i. l i && r i)

-- a value of 1 to 255 bytes
encodable_held : (c : Command) (value : List ℕ) → is_low c ≡ true → 1 ≤ length value → length value ≤ 255 → all_encodable (held c.page c.low value ∷ [])
unfolding every
encodable_held c value low any short = λ i. low i && le-leb (length value) 255 short i && le-leb 1 (length value) any i && true

-- parameters whose rows are sound, as long as the code has them
pub record Fit (p : Parameters) : Type 0 where
  pub size : Sized p
  pub is_sound : stored.sound p.store ≡ true

pub fit_after : (p : Parameters) (c : Command) → Fit p → Fit (after_command p c)
fit_after p c fit =
    record {
      size = sized_after p c fit.size;
      is_sound =
          on_command (λ (q : Parameters). stored.sound q.store ≡ true) p c fit.is_sound
          (λ operation e. sound_kept operation p.store (command_number c) fit.size.store fit.is_sound) (λ named writes. fit.is_sound);
    }

-- an entry's report has six bytes
encodable_entry : (answer : EntryAnswer) (schedule : Schedule) (c : Command) → is_low c ≡ true → all_encodable (entry_report answer schedule c)
unfolding every
encodable_entry (answer.Entry day period) schedule c low = encodable_held c (report_of schedule day period) low (omega arith) (omega arith)
encodable_entry answer.Unknown schedule c low = rw low
encodable_entry answer.Silence schedule c low = refl

pub encodable_reported : (p : Parameters) (c : Command) → stored.sound p.store ≡ true → is_low c ≡ true → all_encodable (reported p c)
unfolding every
encodable_reported p c is_sound low = by_answer (is_schedule p c) (eqb c.function 2) (known p.store.unit (command_number c)) refl refl refl
  where
    reports : ReportsHeld p c
    reports = values_reported p c

    by_answer :
        (is_schedule_lem silent row : Bool) → is_schedule p c ≡ is_schedule_lem → eqb c.function 2 ≡ silent → known p.store.unit (command_number c) ≡ row
        → all_encodable (reported p c)
    by_answer true silent row h s k = rw (entry_reported p c h) (encodable_entry (answered c.function c.value) p.schedule c low)
    by_answer false true row h s k = rw (reports.silence s)
    by_answer false false true h s k =
        let lengths : (1 ≤ length (value_of p.store (command_number c))) × (length (value_of p.store (command_number c)) ≤ 64) =
        held_length p.store (command_number c) is_sound k in
        rw (reports.value s k) (encodable_held c (value_of p.store (command_number c)) low lengths.0 (omega arith))
    by_answer false false false h s k = rw (reports.mark s k h, low)

run_encodable : (cs : List Command) (p : Parameters) → Fit p → every is_low cs ≡ true → all_encodable (run_reports p cs)
unfolding run_reports every
run_encodable [] p fit low = refl
run_encodable (c ∷ cs) p fit low =
    let both = both_true (is_low c) (every is_low cs) low in
    let next : Fit (after_command p c) = fit_after p c fit in
    encodable_join (reported (after_command p c) c) (run_reports (after_command p c) cs)
    (encodable_reported (after_command p c) c next.is_sound both.0)
    (run_encodable cs (after_command p c) next both.1)

-- of a discovery
module _ (id : List ℕ) (unit : ℕ) (sixteen : length id ≡ 16) where
  discovered_encodable : (c : Command) → is_low c ≡ true → all_encodable (discovered id unit c)
  unfolding discovered every
  discovered_encodable c low = by_number (eqb (command_number c) 0x007C) (eqb (command_number c) 0x00B9)
    where
      by_number : (is_id is_type : Bool) → all_encodable (cond is_id (held c.page c.low id ∷ []) (cond is_type (held c.page c.low (unit_type unit) ∷ []) []))
      by_number true is_type = encodable_held c id low (omega arith) (omega arith)
      by_number false true = encodable_held c (unit_type unit) low (omega arith) (omega arith)
      by_number false false = refl

  discovery_encodable : (cs : List Command) → every is_low cs ≡ true → all_encodable (discover_reports id unit cs)
  unfolding discover_reports every
  discovery_encodable [] low = refl
  discovery_encodable (c ∷ cs) low =
      let both = both_true (is_low c) (every is_low cs) low in
      encodable_join (discovered id unit c) (discover_reports id unit cs) (discovered_encodable c both.0) (discovery_encodable cs both.1)

low_commands : (r : Request) → every is_low (commands_of r) ≡ true
unfolding every
low_commands r = by_block (decoded r) refl
  where
    by_block : (o : Option (List Command)) → decoded r ≡ o → every is_low (get_or o []) ≡ true
    by_block none e = refl
    by_block (some cs) e = low_bytes r.frame.function r.frame.block cs e

pub reports_encodable : (r : Request) → sound r.board ≡ true → every encodable_report (reports_of r) ≡ true
reports_encodable r legal = by_discovery (is_discovery r)
  where
    parts : SoundParts r.board
    parts = sound_parts r.board legal

    by_discovery :
        (discovery : Bool)
        → all_encodable (cond discovery (discover_reports r.board.id (unit_of r.board) (commands_of r)) (run_reports r.board.parameters (commands_of r)))
    by_discovery true = discovery_encodable r.board.id (unit_of r.board) (id_length r.board legal) (commands_of r) (low_commands r)
    by_discovery false =
        run_encodable (commands_of r) r.board.parameters (record { size = parts.sized; is_sound = parts.held }) (low_commands r)
