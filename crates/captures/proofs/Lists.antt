-- Laws of the record list that slices describe.
use Prim.Native.Nat.{ℕ, ◌+◌, ◌*◌, ◌%◌, ◌<◌, ◌≤◌}
use native.Mathlib.Numerals.{add-one}
use native.Mathlib.Omega.{arith}
use mathlib.Core.Bool.{true, false, not, ◌&&◌}
use mathlib.Core.List.{List, [], ◌∷◌, ◌++◌}
use mathlib.Core.Path.{◌≡◌, ap}
use borrow.Author.Tests.{eqb-true, leb-true, not-false}
use lib.Dec.{leb, eqb}
use lib.ListN.{length, take, drop, get_or, drop_of_length-le, length-append, length-drop}
use lib.Seq.{drop-cons, length-take-le}
use Rattle.octets.specs.Octets.{between, sum}
use Rattle.octets.proofs.Booleans.{both_true, neither}
use Rattle.captures.specs.Form.{packet_at, ids_at, board_limit, boards_of, wrong_count, Record, record_of, record_bytes, records_bytes, head_bytes, capture_bytes}
use Rattle.captures.specs.Writing.{wrong_ids, record_list, describes_records, SideBySide, record_in_range, every_in_range}
use Rattle.captures.specs.declared.Version.{Version}
use Rattle.captures.proofs.Fields.{length_bytes}

pub length_record : (version : Version) (r : Record) → length (record_bytes version r) ≡ packet_at version + length r.packet
length_record version r = simp (length-append, length_bytes) (omega arith)

pub length_head : (version : Version) (ids : List ℕ) → length (head_bytes version ids) ≡ ids_at version + length ids
length_head version ids = simp (length-append, length_bytes)

-- what slices that describe a list are
pub described :
    (indexes directions counters lengths packets : List ℕ) → describes_records indexes directions counters lengths packets ≡ true
    → SideBySide indexes directions counters lengths × (sum lengths ≡ length packets)
described indexes directions counters lengths packets h =
    let all = both_true _ (eqb (sum lengths) (length packets)) h in
    let three = both_true _ (eqb (length lengths) (length indexes)) all.0 in
    let two = both_true (eqb (length directions) (length indexes)) (eqb (length counters) (length indexes)) three.0 in (
      record { directions_count = eqb-true _ _ two.0; counters_count = eqb-true _ _ two.1; lengths_count = eqb-true _ _ three.1 },
      eqb-true _ _ all.1,
    )

-- the list from a place on: the record there, and those after it
module _ (indexes directions counters lengths packets : List ℕ) (i : ℕ) where
  abbrev pub list_from : List Record
  list_from = record_list (drop i indexes) (drop i directions) (drop i counters) (drop i lengths) packets

  abbrev pub record_there : Record
  record_there = record_of (get_or indexes i 0) (get_or directions i 0) (get_or counters i 0) (take (get_or lengths i 0) packets)

  pub list_step :
      i < length indexes → SideBySide indexes directions counters lengths
      → list_from
      ≡ record_there
      ∷ record_list (drop (i + 1) indexes) (drop (i + 1) directions) (drop (i + 1) counters) (drop (i + 1) lengths) (drop (get_or lengths i 0) packets)
  unfolding record_list
  list_step h counts =
      let in_directions : i < length directions = omega arith in
      let in_counters : i < length counters = omega arith in
      let in_lengths : i < length lengths = omega arith in
      rw (drop-cons indexes i 0, drop-cons directions i 0, drop-cons counters i 0, drop-cons lengths i 0, add-one)

  pub every_step :
      (boards : ℕ) → i < length indexes → SideBySide indexes directions counters lengths
      → every_in_range boards list_from
      ≡ (record_in_range boards record_there
      && every_in_range boards
      (record_list (drop (i + 1) indexes) (drop (i + 1) directions) (drop (i + 1) counters) (drop (i + 1) lengths) (drop (get_or lengths i 0) packets)))
  unfolding every_in_range
  every_step boards h counts = ap (every_in_range boards) (list_step h counts)

  pub bytes_step :
      (version : Version) → i < length indexes → SideBySide indexes directions counters lengths
      → records_bytes version list_from
      ≡ record_bytes version record_there
      ++ records_bytes version
      (record_list (drop (i + 1) indexes) (drop (i + 1) directions) (drop (i + 1) counters) (drop (i + 1) lengths) (drop (get_or lengths i 0) packets))
  unfolding records_bytes
  bytes_step version h counts = ap (records_bytes version) (list_step h counts)

  pub list_end : length indexes ≤ i → list_from ≡ []
  unfolding record_list
  list_end h = rw (drop_of_length-le indexes h)

  pub no_records : (version : Version) → length indexes ≤ i → records_bytes version list_from ≡ []
  unfolding records_bytes
  no_records version h = ap (records_bytes version) (list_end h)

-- how long the bytes of a list are
length_described :
    (version : Version) (indexes directions counters lengths packets : List ℕ) → SideBySide indexes directions counters lengths → sum lengths ≤ length packets
    → length (records_bytes version (record_list indexes directions counters lengths packets)) ≡ packet_at version * length indexes + sum lengths
unfolding record_list records_bytes sum
length_described version [] directions counters [] packets counts enough = omega arith
length_described version [] directions counters (size ∷ lengths) packets counts enough = absurd (omega (arith, counts.lengths_count))
length_described version (index ∷ indexes) [] counters lengths packets counts enough = absurd (omega (arith, counts.directions_count))
length_described version (index ∷ indexes) (direction ∷ directions) [] lengths packets counts enough = absurd (omega (arith, counts.counters_count))
length_described version (index ∷ indexes) (direction ∷ directions) (counter ∷ counters) [] packets counts enough = absurd (omega (arith, counts.lengths_count))
length_described version (index ∷ indexes) (direction ∷ directions) (counter ∷ counters) (size ∷ lengths) packets counts enough =
    let fewer : SideBySide indexes directions counters lengths =
    record {
      directions_count = omega (arith, counts.directions_count);
      counters_count = omega (arith, counts.counters_count);
      lengths_count = omega (arith, counts.lengths_count);
    } in
    let whole : size ≤ length packets = omega arith in
    let rest : sum lengths ≤ length (drop size packets) = simp length-drop (omega arith) in
    let first = record_of index direction counter (take size packets) in
    omega (
      arith,
      length-append (record_bytes version first) (records_bytes version (record_list indexes directions counters lengths (drop size packets))),
      length_record version first,
      length-take-le size packets whole,
      length_described version indexes directions counters lengths (drop size packets) fewer rest,
    )

pub length_list :
    (version : Version) (indexes directions counters lengths packets : List ℕ) → SideBySide indexes directions counters lengths → sum lengths ≡ length packets
    → length (records_bytes version (record_list indexes directions counters lengths packets)) ≡ packet_at version * length indexes + length packets
length_list version indexes directions counters lengths packets counts adds =
    omega (arith, adds, length_described version indexes directions counters lengths packets counts (omega (arith, adds)))

-- how long the bytes of a capture are
pub length_capture :
    (version : Version) (ids indexes directions counters lengths packets : List ℕ) → describes_records indexes directions counters lengths packets ≡ true
    → length (capture_bytes version ids (record_list indexes directions counters lengths packets))
    ≡ ids_at version + length ids + (packet_at version * length indexes + length packets)
length_capture version ids indexes directions counters lengths packets h =
    let told = described indexes directions counters lengths packets h in
    let records = record_list indexes directions counters lengths packets in
    omega (
      arith,
      length-append (head_bytes version ids) (records_bytes version records),
      length_head version ids,
      length_list version indexes directions counters lengths packets told.0 told.1,
    )

-- right IDs are those of at most as many boards as the version has
pub few_boards : (version : Version) (ids : List ℕ) → wrong_ids version ids ≡ false → boards_of ids ≤ board_limit version
few_boards version ids right =
    let count : between 1 (board_limit version) (boards_of ids) ≡ true = not-false _ (neither (not (eqb (length ids % 16) 0)) (wrong_count version (boards_of ids)) right).1 in
    leb-true (boards_of ids) (board_limit version) (both_true (leb 1 (boards_of ids)) (leb (boards_of ids) (board_limit version)) count).1
