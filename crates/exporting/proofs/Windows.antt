-- The rows of a window.
use Prim.Native.Nat.{ℕ, ◌+◌, ◌*◌, ◌/◌, ◌≤◌}
use native.Mathlib.Omega.{arith}
use mathlib.Core.Bool.{false}
use mathlib.Core.List.{List}
use mathlib.Core.Path.{◌≡◌, ap, ◌∙◌}
use borrow.Author.Tests.{le-ltb}
use lib.ListN.{length, take, drop}
use Rattle.octets.specs.Octets.{overwrite}
use Rattle.captures.specs.Reading.{read}
use Rattle.counts.specs.Counting.{last_of}
use Rattle.counts.proofs.Moving.{last_left}
use Rattle.exporting.specs.Exporting.{WindowCall, window_reading, window_records, window_lines, text_short, rows_with, PutsRecords, ExportsWindow}
use Rattle.exporting.specs.declared.Records.{Records}
use Rattle.std.specs.Prelude.{Some, Result}
use Rattle.refusals.specs.declared.Refusal.{Refusal}
use Rattle.exporting.proofs.Bounds.{rows_bounded}

module _ (call : WindowCall) {filled part : List ℕ} (front : filled ≡ take call.end call.window) (cut : part ≡ drop call.start filled) where
  part_there : part ≡ window_records call
  part_there = cut ∙ ap (drop call.start) front

  module _ (long : length part ≤ length call.text / 40) where
    roomy : text_short call ≡ false
    roomy = le-ltb (length call.text) (40 * length (window_records call)) (omega (arith, ap length part_there))

    reading_there : read call.version call.boards part ≡ window_reading call
    reading_there = ap (read call.version call.boards) part_there

    pub rows_fit : 0 + length (window_lines call) ≤ length call.text
    rows_fit = omega (arith, rows_bounded call.version call.boards call.ids (window_records call), ap length part_there)

    pub window_exported :
        {after moved : List ℕ} {answer : Records}
        → PutsRecords call.ids (read call.version call.boards part) call.text 0 call.refused answer after
        → moved ≡ overwrite call.window 0 (last_of answer.ending (take call.end call.window))
        → ExportsWindow call (Some (rows_with answer.end answer.refused answer.ending)) after moved
    window_exported {after} {answer = answer} done kept =
        let put : PutsRecords call.ids (window_reading call) call.text 0 call.refused answer after = rw reading_there at done in
        let size : answer.end ≡ length (window_lines call) = put.ends ∙ omega arith in
        let left = last_left call.version call.boards call.start call.end call.window in
        record {
          answered = rw roomy (λ i. Some (rows_with (size i) (put.counted i) (put.ended i)));
          held = rw roomy put.held;
          kept = rw roomy (kept ∙ ap (overwrite call.window 0) (ap (λ (e : Result ℕ Refusal). last_of e (take call.end call.window)) put.ended ∙ left));
        }
