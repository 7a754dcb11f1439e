-- The longest rows: at most 40 bytes for each byte of the records.
use Prim.Native.Nat.{ℕ, zero, suc, ◌+◌, ◌-◌, ◌*◌, ◌≤◌}
use native.Mathlib.Omega.{arith}
use mathlib.Core.Bool.{Bool, true, false, cond, not}
use mathlib.Core.List.{List, [], ◌∷◌, map}
use mathlib.Core.Option.{Option, none, some, get_or}
use mathlib.Core.Path.{◌≡◌, refl}
use borrow.Author.Tests.{eqb-true, ltb-false}
use lib.Dec.{ltb}
use lib.ListN.{length, drop, length-append, length-take, length-drop}
use Rattle.framing.specs.Packet.{places_of, frame_of}
use Rattle.block.specs.Command.{Report, held, unknown}
use Rattle.captures.specs.Form.{index_size, packet_at, Record}
use Rattle.captures.specs.Reading.{size_in, record_in, in_range, Reading, left, wrong, item, reading, records_of}
use Rattle.captures.specs.declared.Version.{Version}
use Rattle.numerals.specs.Numerals.{decimal}
use Rattle.numerals.proofs.Decimals.{one_digit, decimal_short}
use Rattle.numerals.proofs.Hex.{length_hex}
use Rattle.tables.specs.Fields.{quoted}
use Rattle.tables.specs.Rows.{Row, row_of, number_of, value_of, row_line, row_lines}
use Rattle.tables.specs.Exporting.{id_of, is_response, reports_as, rows_from}
use Rattle.refusals.specs.declared.Refusal.{Refusal}
use Rattle.tool.specs.Response.{any_response_refusal, reports_of}
use Rattle.tool.proofs.Bounds.{takes, all_take, reports_take}
use Rattle.exporting.specs.Text.{record_lines, records_lines}
use Rattle.exporting.specs.Statements.{RowsBounded}
use Rattle.exporting.proofs.Steps.{one_more}

module _ (ids : List ℕ) (index direction counter : ℕ) (response : direction ≡ 1) where
  abbrev row : Report → Row
  row = row_of (id_of ids index) direction counter

  -- quotes, commas and line end are 16 bytes, ID and number 39, the direction 1
  row_size : (report : Report) → length (row_line (row report)) ≤ 77 + 2 * length (value_of report)
  unfolding quoted
  row_size report =
      simp (length-append, length_hex)
      (omega (
        arith,
        length-take 16 (drop (16 * index) ids),
        decimal_short 20 counter,
        one_size,
        number_size report,
      ))
    where
      one_size : length (decimal direction) ≡ 1
      one_size = rw (response, one_digit 19 1 (omega arith))

      number_size : (r : Report) → length (number_of r) ≡ 2
      number_size (held page low value) = refl
      number_size (unknown page low) = refl

  row_short : (report : Report) → 2 * length (row_line (row report)) ≤ 80 * takes report
  row_short (held page low value) = omega (arith, row_size (held page low value))
  row_short (unknown page low) = omega (arith, row_size (unknown page low))

  rows_short : (reports : List Report) → 2 * length (row_lines (map row reports)) ≤ 80 * all_take reports
  unfolding row_lines all_take
  rows_short [] = omega arith
  rows_short (report ∷ reports) =
      omega (arith, length-append (row_line (row report)) (row_lines (map row reports)), row_short report, rows_short reports)

block_within : (packet : List ℕ) → length (frame_of packet).block ≤ length packet
block_within packet =
    let places = places_of packet in
    omega (arith, length-take (places.end - places.block) (drop places.block packet), length-drop places.block packet)

-- the rows of a record, by what its packet is
record_short : (ids : List ℕ) (r : Record) → length (record_lines ids r) ≤ 40 * length r.packet
unfolding row_lines
record_short ids r = by_direction (is_response r) refl
  where
    Rows : List Report → Type 0
    Rows reports = length (row_lines (map (row_of (id_of ids r.index) r.direction r.counter) reports)) ≤ 40 * length r.packet

    by_reports : r.direction ≡ 1 → (found : Option (List Report)) → reports_of r.packet ≡ found → Rows (get_or found [])
    by_reports response none e = omega arith
    by_reports response (some reports) e =
        omega (
          arith,
          rows_short ids r.index r.direction r.counter response reports,
          reports_take r.packet reports e,
          block_within r.packet,
        )

    by_refusal : r.direction ≡ 1 → (refused : Option Refusal) → Rows (reports_as refused r.packet)
    by_refusal response none = by_reports response (reports_of r.packet) refl
    by_refusal response (some refusal) = omega arith

    by_direction : (t : Bool) → is_response r ≡ t → Rows (cond t (reports_as (any_response_refusal r.packet) r.packet) [])
    by_direction true e = by_refusal (eqb-true r.direction 1 e) (any_response_refusal r.packet)
    by_direction false e = omega arith

-- the bytes of the packets of records
unfoldable packet_bytes : List Record → ℕ
packet_bytes [] = 0
packet_bytes (r ∷ rs) = length r.packet + packet_bytes rs

records_short : (ids : List ℕ) (records : List Record) → length (records_lines ids records) ≤ 40 * packet_bytes records
unfolding packet_bytes rows_from row_lines
records_short ids [] = omega arith
records_short ids (r ∷ rs) = rw (one_more ids r rs) (simp length-append (omega (arith, record_short ids r, records_short ids rs)))

packets_within : (version : Version) (boards : ℕ) (l : List ℕ) (k : ℕ) → packet_bytes (records_of (reading version boards l k)) ≤ length l - k
unfolding reading records_of packet_bytes
packets_within version boards [] k = omega arith
packets_within version boards (b ∷ s) (suc k) = omega (arith, packets_within version boards s k)
packets_within version boards (b ∷ s) zero =
    by_tests (reading version boards s (index_size version + 6 + size_in version (b ∷ s))) (packets_within version boards s (index_size version + 6 + size_in version (b ∷ s)))
    (ltb (length (b ∷ s)) (packet_at version)) (in_range version boards (b ∷ s)) (ltb (length (b ∷ s)) (packet_at version + size_in version (b ∷ s))) refl
  where
    by_tests :
        (rest : Reading) → packet_bytes (records_of rest) ≤ length s - (index_size version + 6 + size_in version (b ∷ s)) → (short right cut : Bool) → ltb (length (b ∷ s)) (packet_at version + size_in version (b ∷ s)) ≡ cut
        → packet_bytes (records_of (cond short (left (b ∷ s)) (cond (not right) wrong (cond cut (left (b ∷ s)) (item (record_in version (b ∷ s)) rest))))) ≤ length (b ∷ s) - 0
    by_tests rest h true right cut e = omega arith
    by_tests rest h false false cut e = omega arith
    by_tests rest h false true true e = omega arith
    by_tests rest h false true false e =
        omega (
          arith,
          ltb-false (length (b ∷ s)) (packet_at version + size_in version (b ∷ s)) e,
          length-take (size_in version (b ∷ s)) (drop (packet_at version) (b ∷ s)),
        )

pub rows_bounded : RowsBounded
rows_bounded version boards ids bytes =
    omega (arith, records_short ids (records_of (reading version boards bytes 0)), packets_within version boards bytes 0)
