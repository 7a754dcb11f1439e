-- The rows of a capture of bytes can be held by a table.
use Prim.Native.Nat.{ℕ, zero, suc, ◌-◌, ◌*◌, ◌^◌, ◌<◌, ◌≤◌}
use native.Mathlib.Omega.{arith}
use mathlib.Core.Bool.{Bool, true, false, cond}
use mathlib.Core.List.{List, [], ◌∷◌, ◌++◌, map}
use mathlib.Core.Option
use mathlib.Core.Option.{Option, none, some}
use mathlib.Core.Path.{◌≡◌, refl}
use borrow.Author.Tests.{leb-true, eqb-true, eqb-false}
use lib.Dec.{leb, eqb}
use lib.ListN.{length, take, drop, length-drop}
use lib.Seq.{length-take-le}
use Rattle.framing.specs.Packet.{frame_of, places_of}
use Rattle.block.specs.Command.{Report, held, unknown}
use Rattle.block.specs.Reading.{Reading, end, malformed, item, with_value, whole}
use Rattle.block.specs.Response.{items, after_fd, after_fe, after_ff, sized, reports}
use Rattle.captures.specs.Numbers.{Bytes}
use Rattle.captures.specs.Form.{Record, boards_of, counter_at, packet_at, ids_at}
use Rattle.captures.specs.Reading as captures
use Rattle.captures.specs.Statements.{Within}
use Rattle.captures.specs.declared.Version.{Version}
use Rattle.captures.proofs.Fields.{taken_small, dropped_small, field_small}
use Rattle.captures.proofs.Ranges.{records_within}
use Rattle.captures.proofs.Readings.{of_readings}
use Rattle.refusals.specs.declared.Refusal.{Refusal}
use Rattle.tool.specs.Response.{any_response_refusal, reports_of}
use Rattle.tables.specs.Rows.{Row, row_of}
use Rattle.tables.specs.Exporting.{is_response, id_of, reports_as, record_rows, rows_from, rows_of}
use Rattle.tables.specs.Statements.{Reported, Exportable, AllExportable, RowsExportable, ImportsExport, ExportLines}
use Rattle.tables.proofs.Imports.{table_lines, imports_exported}

-- the reports of a reading
unfoldable AllReported : List Report → Type 0
AllReported [] = Unit {0}
AllReported (report ∷ reports) = Reported report × AllReported reports

record Sound (reading : Reading Report) : Type 0 where
  all : (found : List Report) → whole reading ≡ some found → AllReported found

sound_end : Sound end
unfolding whole AllReported
sound_end = record { all = λ (found : List Report) (e : some [] ≡ some found). let nothing : [] ≡ found = cc in rw (← nothing) tt }

sound_fault : Sound malformed
unfolding whole
sound_fault = record { all = λ (found : List Report) (e : none ≡ some found). let impossible : ◌≡◌ {A = ℕ} 0 1 = cc in absurd (omega arith) }

sound_item : (report : Report) (rest : List ℕ) (after : Reading Report) → Reported report → Sound after → Sound (item report rest after)
unfolding whole AllReported
sound_item report rest after h p = record { all = λ (found : List Report) (e : whole (item report rest after) ≡ some found). by_rest found (whole after) refl e }
  where
    by_rest : (found : List Report) (more : Option (List Report)) → whole after ≡ more → Option.map (λ (l : List Report). report ∷ l) more ≡ some found → AllReported found
    by_rest found none f g = let impossible : ◌≡◌ {A = ℕ} 0 1 = cc in absurd (omega arith)
    by_rest found (some l) f g =
        let same : report ∷ l ≡ found = cc in
        rw (← same) (h, p.all l f)

sound_value :
    (page low size : ℕ) (s : List ℕ) → page < 256 → low < 256 → 1 ≤ size → size < 256 → Bytes s → Sound (items page s size)
    → Sound (with_value (held page low) size s (items page s size))
sound_value page low size s h k one few small p = by_test (leb size (length s)) refl
  where
    by_test : (fit : Bool) → leb size (length s) ≡ fit → Sound (cond fit (item (held page low (take size s)) (drop size s) (items page s size)) malformed)
    by_test false e = sound_fault
    by_test true e =
        let as_many : length (take size s) ≡ size = length-take-le size s (leb-true size (length s) e) in
        sound_item (held page low (take size s)) (drop size s) (items page s size)
        (h, k, taken_small size s small, omega (arith, as_many), omega (arith, as_many)) p

sound_cond : (test : Bool) {x y : Reading Report} → Sound x → (test ≡ false → Sound y) → Sound (cond test x y)
sound_cond true p q = p
sound_cond false p q = q refl

mutual
  unfolding items

  sound_items : (page : ℕ) (l : List ℕ) (k : ℕ) → page < 256 → Bytes l → Sound (items page l k)
  sound_items page [] k h small = sound_end
  sound_items page (b ∷ s) (suc k) h small = sound_items page s k h (λ place. small (suc place))
  sound_items page (b ∷ s) zero h small =
      let rest : Bytes s = λ place. small (suc place) in
      sound_cond (leb b 0xFB) (sound_value page b 1 s h (small 0) (omega arith) (omega arith) rest (sound_items page s 1 h rest))
      (λ e. sound_cond (eqb b 0xFD) (sound_fd page s h rest)
      (λ e. sound_cond (eqb b 0xFE) (sound_fe page s h rest)
      (λ e. sound_cond (eqb b 0xFF) (sound_ff s rest)
      (λ e. sound_fault))))

  sound_fd : (page : ℕ) (l : List ℕ) → page < 256 → Bytes l → Sound (after_fd page l)
  sound_fd page [] h small = sound_fault
  sound_fd page (b ∷ s) h small =
      sound_cond (leb b 0xFB) (sound_item (unknown page b) s (items page s 0) (h, small 0) (sound_items page s 0 h (λ place. small (suc place)))) (λ e. sound_fault)

  sound_fe : (page : ℕ) (l : List ℕ) → page < 256 → Bytes l → Sound (after_fe page l)
  sound_fe page [] h small = sound_fault
  sound_fe page (n ∷ s) h small =
      sound_cond (eqb n 0) sound_fault (λ e. sound_sized page n s h (omega (arith, eqb-false n 0 e)) (small 0) (λ place. small (suc place)))

  sound_sized : (page n : ℕ) (l : List ℕ) → page < 256 → 1 ≤ n → n < 256 → Bytes l → Sound (sized page n l)
  sound_sized page n [] h one few small = sound_fault
  sound_sized page n (b ∷ s) h one few small =
      let rest : Bytes s = λ place. small (suc place) in
      sound_cond (leb b 0xFB) (sound_value page b n s h (small 0) one few rest (sound_items page s n h rest)) (λ e. sound_fault)

  sound_ff : (l : List ℕ) → Bytes l → Sound (after_ff l)
  sound_ff [] small = sound_fault
  sound_ff (h ∷ s) small = sound_items h s 0 (small 0) (λ place. small (suc place))

-- the rows of reports
rows_exportable :
    (id : List ℕ) (direction counter : ℕ) (reports : List Report)
    → ((report : Report) → Reported report → Exportable (row_of id direction counter report)) → AllReported reports
    → AllExportable (map (row_of id direction counter) reports)
unfolding AllReported AllExportable
rows_exportable id direction counter [] each all = tt
rows_exportable id direction counter (report ∷ reports) each all =
    (each report all.0, rows_exportable id direction counter reports each all.1)

reports_sound : (packet : List ℕ) → Bytes packet → (refused : Option Refusal) (found : Option (List Report)) → reports_of packet ≡ found → AllReported (reports_as refused packet)
unfolding AllReported
reports_sound packet small (some refusal) found e = tt
reports_sound packet small none none e = rw e tt
reports_sound packet small none (some found) e =
    let places = places_of packet in
    let block : Bytes (frame_of packet).block =
    taken_small (places.end - places.block) (drop places.block packet) (dropped_small places.block packet small) in
    rw e ((sound_items 0 (frame_of packet).block 0 (omega arith) block).all found e)

-- of a record whose index names a board
record_exportable :
    (ids : List ℕ) (r : Record) → Bytes ids → r.index < boards_of ids → r.counter < 256 ^ 4 → Bytes r.packet → AllExportable (record_rows ids r)
unfolding AllExportable
record_exportable ids r small_ids inside counted small = by_direction (is_response r) refl
  where
    made : (report : Report) → r.direction ≡ 1 → Reported report → Exportable (row_of (id_of ids r.index) r.direction r.counter report)
    made report way h =
        let room : 16 ≤ length (drop (16 * r.index) ids) = simp length-drop (omega (arith, inside)) in
        record {
          id_size = length-take-le 16 (drop (16 * r.index) ids) room;
          id_bytes = taken_small 16 (drop (16 * r.index) ids) (dropped_small (16 * r.index) ids small_ids);
          response = way;
          counter_small = omega (arith, counted);
          reported = h;
        }

    by_direction : (response : Bool) → is_response r ≡ response → AllExportable (map (row_of (id_of ids r.index) r.direction r.counter) (cond response (reports_as (any_response_refusal r.packet) r.packet) []))
    by_direction false e = tt
    by_direction true e =
        rows_exportable (id_of ids r.index) r.direction r.counter (reports_as (any_response_refusal r.packet) r.packet)
        (λ (report : Report) (h : Reported report). made report (eqb-true r.direction 1 e) h)
        (reports_sound r.packet small (any_response_refusal r.packet) (reports_of r.packet) refl)

-- records that were read from bytes
unfoldable FromBytes : List Record → Type 0
FromBytes [] = Unit {0}
FromBytes (r ∷ rs) = (r.counter < 256 ^ 4) × Bytes r.packet × FromBytes rs

records_bytes_lem : (version : Version) (boards : ℕ) (bytes : List ℕ) → Bytes bytes → FromBytes (captures.records_of (captures.read version boards bytes))
unfolding captures.records_of FromBytes
records_bytes_lem version boards bytes =
    of_readings (λ (l : List ℕ) (r : captures.Reading). Bytes l → FromBytes (captures.records_of r))
    (record {
      none_left = λ small. tt;
      passed_over = λ b s r h small. h (λ place. small (suc place));
      head_cut = λ l few small. tt;
      out_of_range = λ l small. tt;
      packet_cut = λ l right few small. tt;
      whole = λ b s r right h small. (
        field_small (counter_at version) 4 (b ∷ s) small,
        taken_small (captures.size_in version (b ∷ s)) (drop (packet_at version) (b ∷ s)) (dropped_small (packet_at version) (b ∷ s) small),
        h (λ place. small (suc place)),
      );
    })
    bytes 0

both_exportable : (first second : List Row) → AllExportable first → AllExportable second → AllExportable (first ++ second)
unfolding AllExportable
both_exportable [] second h k = k
both_exportable (r ∷ rs) second h k = (h.0, both_exportable rs second h.1 k)

all_exportable : (ids : List ℕ) (records : List Record) → Bytes ids → Within (boards_of ids) records → FromBytes records → AllExportable (rows_from ids records)
unfolding rows_from Within FromBytes AllExportable
all_exportable ids [] small within from = tt
all_exportable ids (r ∷ rs) small within from =
    both_exportable (record_rows ids r) (rows_from ids rs)
    (record_exportable ids r small within.0 from.0 from.1)
    (all_exportable ids rs small within.3 from.2)

module _ (capture : List ℕ) (small : Bytes capture) where
  abbrev version : Version
  version = captures.version_of capture

  ids_bytes : (refused : Option Refusal) → Bytes (captures.ids_as version refused capture)
  ids_bytes none = taken_small (16 * captures.board_count version capture) (drop (ids_at version) capture) (dropped_small (ids_at version) capture small)
  ids_bytes (some refusal) = λ place. omega arith

  from_bytes : (refused : Option Refusal) → FromBytes (captures.records_as version refused capture)
  unfolding FromBytes
  from_bytes none =
      records_bytes_lem version (captures.board_count version capture) (drop (captures.records_at version capture) capture)
      (dropped_small (captures.records_at version capture) capture small)
  from_bytes (some refusal) = tt

pub rows_of_exportable : RowsExportable
rows_of_exportable capture small =
    all_exportable (captures.ids_in capture) (captures.records_in capture) (ids_bytes capture small (captures.head_refusal capture))
    (records_within capture) (from_bytes capture small (captures.head_refusal capture))

pub imports_export : ImportsExport
imports_export capture small = imports_exported (rows_of capture) (rows_of_exportable capture small)

pub export_lines : ExportLines
export_lines capture small = table_lines (rows_of capture) (rows_of_exportable capture small)
