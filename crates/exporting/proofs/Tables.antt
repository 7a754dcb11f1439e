-- A table in a buffer: too long for it, or put there.
use Prim.Native.Nat.{ℕ, ◌+◌, ◌<◌, ◌≤◌}
use native.Mathlib.Omega.{arith}
use mathlib.Core.Bool.{Bool, true, false, cond}
use mathlib.Core.List.{List, ◌++◌}
use mathlib.Core.Path.{◌≡◌, refl, sym, ap, ◌∙◌}
use borrow.Author.Tests.{lt-ltb, le-ltb}
use lib.ListN.{length, length-append}
use Rattle.std.specs.Prelude.{Option, Some, None}
use Rattle.octets.specs.Octets.{overwrite, Overwrites}
use Rattle.octets.proofs.Overwriting.{overwrites}
use Rattle.captures.specs.Reading.{Reading, records_of}
use Rattle.captures.specs.Writing.{too_short}
use Rattle.captures.proofs.Buffers.{both_put}
use Rattle.counts.specs.Counting.{end_of, refusal_at_end}
use Rattle.tables.specs.Fields.{quoted}
use Rattle.tables.specs.Rows.{header_line}
use Rattle.tables.specs.Exporting.{refused_count}
use Rattle.exporting.specs.Text.{records_lines, room_after}
use Rattle.exporting.specs.Exporting.{capped, PutsRecords, exported_with, exported_as, ExportsTable, ExportsRecords}
use Rattle.exporting.specs.declared.Records.{Records}
use Rattle.exporting.specs.declared.Exported.{Exported}
use Rattle.refusals.specs.declared.Refusal.{Refusal}
use Rattle.exporting.proofs.Rooms.{room_tells}

pub header_size : 48 ≡ length header_line
unfolding quoted
header_size = refl

-- the same table, count and refusal by other names
pub exports_same :
    {table other : List ℕ} {refused count : ℕ} {capture refusal : Option Refusal} {buffer : List ℕ} {answer : Option Exported} {after : List ℕ} → other ≡ table → count ≡ refused → refusal ≡ capture
    → ExportsTable table refused capture buffer answer after → ExportsTable other count refusal buffer answer after
exports_same {buffer = buffer} t r c done =
    record {
      answered = done.answered ∙ sym (λ i. exported_as buffer (t i) (r i) (c i));
      held = done.held ∙ sym (λ i. cond (too_short buffer (t i)) buffer (overwrite buffer 0 (t i)));
    }

module _ {table buffer : List ℕ} {refused : ℕ} {capture : Option Refusal} where
  pub table_refused : {after : List ℕ} → too_short buffer table ≡ true → after ≡ buffer → ExportsTable table refused capture buffer None after
  table_refused short kept = record { answered = rw short; held = rw short kept }

  pub table_put :
      {size : ℕ} {after : List ℕ} → too_short buffer table ≡ false → size ≡ length table → after ≡ overwrite buffer 0 table
      → ExportsTable table refused capture buffer (Some (exported_with size refused capture)) after
  table_put roomy sized stored = record { answered = rw roomy (ap (λ (n : ℕ). Some (exported_with n refused capture)) sized); held = rw roomy stored }

-- header and rows of what was read
module _ (buffer ids : List ℕ) (reading : Reading) where
  abbrev pub rows : List ℕ
  rows = records_lines ids (records_of reading)

  whole : length (header_line ++ rows) ≡ 48 + length rows
  whole = omega (arith, length-append header_line rows, header_size)

  pub records_refused : length buffer < 48 + length rows → ExportsRecords ids reading buffer None buffer
  records_refused h = table_refused (lt-ltb (length buffer) (length (header_line ++ rows)) (omega (arith, whole))) refl

  -- what is told of the room behind the header
  module _ (room : ℕ) (h : 48 + room ≡ length buffer) where
    pub rows_too_long : room_after room rows ≡ None → length buffer < 48 + length rows
    rows_too_long e = omega (arith, room_tells room rows e)

    pub rows_have_room : {left : ℕ} → room_after room rows ≡ Some left → 48 + length rows ≤ length buffer
    rows_have_room e = omega (arith, room_tells room rows e)

  module _ (roomy : 48 + length rows ≤ length buffer) where
    pub both_fit : length header_line + length rows ≤ length buffer
    both_fit = omega (arith, header_size)

    pub header_put :
        {header after : List ℕ} {answer : Bool} → header ≡ header_line → Overwrites buffer 0 header answer after → after ≡ overwrite buffer 0 header_line
    header_put {header} e done = overwrites done (omega (arith, ap length e, header_size)) ∙ ap (overwrite buffer 0) e

    pub records_put :
        {between after : List ℕ} {answer : Records} {refusal : Option Refusal} → between ≡ overwrite buffer 0 header_line
        → PutsRecords ids reading between 48 0 answer after → refusal ≡ refusal_at_end answer.ending
        → ExportsRecords ids reading buffer (Some (exported_with answer.end answer.refused refusal)) after
    records_put {after = after} {answer} {refusal} first done told =
        let both = both_put buffer header_line rows both_fit first header_size done.ends done.held in
        let none_before : 0 + refused_count (records_of reading) ≡ refused_count (records_of reading) = omega arith in
        let refused : capped (refused_count (records_of reading)) ≡ answer.refused = sym (done.counted ∙ ap capped none_before) in
        let ending : refusal_at_end (end_of reading) ≡ refusal = sym (told ∙ ap refusal_at_end done.ended) in
        exports_same refl refused ending (table_put (le-ltb (length buffer) (length (header_line ++ rows)) (omega (arith, whole))) both.0 both.1)
