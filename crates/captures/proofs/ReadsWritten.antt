-- Reading what was written gives the same IDs and records.
use Prim.Native.Nat.{ℕ, suc, ◌+◌, ◌*◌, ◌%◌, ◌^◌, ◌<◌, ◌≤◌}
use native.Mathlib.Omega.{arith}
use mathlib.Core.Bool.{true, false, not}
use mathlib.Core.List.{List, [], ◌∷◌, ◌++◌, append_assoc}
use mathlib.Core.Option.{none, or_else}
use mathlib.Core.Path.{◌≡◌, refl, sym, ap, ◌∙◌}
use borrow.Author.Tests.{eqb-true, lt-ltb, le-ltb, le-leb, not-false}
use lib.Dec.{eqb}
use lib.ListN.{length, take, drop, get_or, length-append}
use lib.Seq.{take_at, drop_at}
use Rattle.octets.specs.Octets.{same}
use Rattle.octets.proofs.Booleans.{both_true, neither}
use Rattle.framing.specs.Refusal.{first_refusal}
use Rattle.framing.proofs.Refusals.{not_refused}
use Rattle.captures.specs.Numbers.{bytes_of}
use Rattle.captures.specs.Form.{mark, version_number, newest, index_size, count_at, ids_at, direction_at, counter_at, size_at, packet_at, board_limit, Record, record_of, record_bytes, records_bytes, boards_of, head_bytes, capture_bytes, wrong_count}
use Rattle.captures.specs.Reading.{item, version_of, wrong_version, reading_of, index_in, direction_in, counter_in, size_in, in_range, reading, read, read_in, records_of, wrong_record, board_count, records_at, wrong_boards, head_refusals, head_refusal, ids_as, records_as, capture_refusal}
use Rattle.captures.specs.Writing.{wrong_ids, record_in_range, every_in_range, record_list, records_given, write_refusals, write_refusal}
use Rattle.captures.specs.Statements.{counters_fit, ReadsBack, ReadsWritten, CallsReadBack}
use Rattle.captures.specs.declared.Version.{Version}
use Rattle.captures.specs.declared.Version.TheVariants.{One, Two}
use Rattle.captures.proofs.Fields.{length_bytes, number_back, field_at}
use Rattle.captures.proofs.Lists.{length_record, length_head, few_boards}
use Rattle.captures.proofs.Ranges.{Ranges, ranges}
use Rattle.captures.proofs.Records.{read_whole}
use Rattle.captures.proofs.Told.{refusal_then}
use Rattle.captures.proofs.Versions.{sizes}

module _ (version : Version) (boards : ℕ) (r : Record) (rest : List ℕ) (few : boards ≤ 256 ^ index_size version) (counted : r.counter < 256 ^ 4) (h : Ranges boards r.index r.direction (length r.packet)) where
  abbrev bytes : List ℕ
  bytes = record_bytes version r ++ rest

  abbrev index : List ℕ
  index = bytes_of (index_size version) r.index

  abbrev direction : List ℕ
  direction = bytes_of 1 r.direction

  abbrev counter : List ℕ
  counter = bytes_of 4 r.counter

  abbrev size : List ℕ
  size = bytes_of 2 (length r.packet)

  by_index : bytes ≡ [] ++ (index ++ (direction ++ (counter ++ (size ++ (r.packet ++ rest)))))
  by_index = simp append_assoc

  by_direction : bytes ≡ index ++ (direction ++ (counter ++ (size ++ (r.packet ++ rest))))
  by_direction = simp append_assoc

  by_counter : bytes ≡ (index ++ direction) ++ (counter ++ (size ++ (r.packet ++ rest)))
  by_counter = simp append_assoc

  by_size : bytes ≡ (index ++ direction ++ counter) ++ (size ++ (r.packet ++ rest))
  by_size = simp append_assoc

  by_packet : bytes ≡ (index ++ direction ++ counter ++ size) ++ (r.packet ++ rest)
  by_packet = simp append_assoc

  index_read : index_in version bytes ≡ r.index
  index_read =
      ap (index_in version) by_index ∙ field_at [] index _ refl (length_bytes (index_size version) r.index) ∙ number_back (index_size version) r.index (omega (arith, h.board, few))

  direction_read : direction_in version bytes ≡ r.direction
  direction_read =
      ap (direction_in version) by_direction
      ∙ field_at index direction _ {at = direction_at version} (length_bytes (index_size version) r.index) (length_bytes 1 r.direction)
      ∙ number_back 1 r.direction (omega (arith, h.way))

  counter_read : counter_in version bytes ≡ r.counter
  counter_read =
      ap (counter_in version) by_counter
      ∙ field_at (index ++ direction) counter _ {at = counter_at version} (simp (length-append, length_bytes)) (length_bytes 4 r.counter)
      ∙ number_back 4 r.counter counted

  size_read : size_in version bytes ≡ length r.packet
  size_read =
      ap (size_in version) by_size
      ∙ field_at (index ++ direction ++ counter) size _ {at = size_at version} (simp (length-append, length_bytes) (omega arith)) (length_bytes 2 (length r.packet))
      ∙ number_back 2 (length r.packet) (omega (arith, h.long))

  packet_read : take (size_in version bytes) (drop (packet_at version) bytes) ≡ r.packet
  packet_read =
      rw size_read
      (ap (λ (l : List ℕ). take (length r.packet) (drop (packet_at version) l)) by_packet
      ∙ rw (drop_at (index ++ direction ++ counter ++ size) (r.packet ++ rest) (packet_at version) (simp (length-append, length_bytes) (omega arith)), take_at r.packet rest (length r.packet) refl))

  range_read : in_range version boards bytes ≡ true
  range_read = rw (index_read, direction_read, size_read, lt-ltb _ _ h.board, le-leb _ _ h.way, le-leb _ _ h.long)

  ends : length (record_bytes version r) ≡ packet_at version + size_in version bytes
  ends = omega (arith, length_record version r, size_read)

  -- a record that was written is read, and then what stands after it
  record_back : read version boards bytes ≡ item r (read version boards rest)
  record_back =
      read_whole version boards bytes (omega (arith, ends, length-append (record_bytes version r) rest)) range_read
      ∙ λ i. item (record_of (index_read i) (direction_read i) (counter_read i) (packet_read i)) (read version boards (drop_at (record_bytes version r) rest (packet_at version + size_in version bytes) ends i))

records_back :
    (version : Version) (boards : ℕ) (rs : List Record) → boards ≤ 256 ^ index_size version → every_in_range boards rs ≡ true → counters_fit rs
    → (records_of (read version boards (records_bytes version rs)) ≡ rs) × (wrong_record (read version boards (records_bytes version rs)) ≡ false)
unfolding records_bytes reading records_of wrong_record every_in_range counters_fit
records_back version boards [] few right fit = (refl, refl)
records_back version boards (r ∷ rs) few right fit =
    let both = both_true (record_in_range boards r) (every_in_range boards rs) right in
    let first = record_back version boards r (records_bytes version rs) few fit.0 (ranges boards r.index r.direction (length r.packet) both.0) in
    let rest = records_back version boards rs few both.1 fit.1 in
    (ap records_of first ∙ ap (λ (l : List Record). r ∷ l) rest.0, ap wrong_record first ∙ rest.1)

-- the head names its version
version_back : (version : Version) (ids : List ℕ) (records : List Record) → version_of (capture_bytes version ids records) ≡ version
unfolding same bytes_of
version_back One ids records = refl
version_back Two ids records = refl

right_version : (version : Version) (ids : List ℕ) (records : List Record) → wrong_version (capture_bytes version ids records) ≡ false
unfolding same bytes_of
right_version One ids records = refl
right_version Two ids records = refl

module _ (version : Version) (ids : List ℕ) (records : List Record) (right : wrong_ids version ids ≡ false) where
  abbrev written : List ℕ
  written = capture_bytes version ids records

  few : boards_of ids ≤ board_limit version
  few = few_boards version ids right

  parts : (not (eqb (length ids % 16) 0) ≡ false) × (wrong_count version (boards_of ids) ≡ false)
  parts = neither (not (eqb (length ids % 16) 0)) (wrong_count version (boards_of ids)) right

  whole_ids : 16 * boards_of ids ≡ length ids
  whole_ids = omega (arith, eqb-true (length ids % 16) 0 (not-false _ parts.0))

  by_count : written ≡ (mark ++ bytes_of 2 (version_number version)) ++ (bytes_of (index_size version) (boards_of ids) ++ (ids ++ records_bytes version records))
  by_count = simp append_assoc

  abbrev start : List ℕ
  start = mark ++ bytes_of 2 (version_number version) ++ bytes_of (index_size version) (boards_of ids)

  by_ids : written ≡ start ++ (ids ++ records_bytes version records)
  by_ids = simp append_assoc

  count_back : board_count version written ≡ boards_of ids
  count_back =
      ap (board_count version) by_count
      ∙ field_at (mark ++ bytes_of 2 (version_number version)) (bytes_of (index_size version) (boards_of ids)) _ {at = count_at} (simp length_bytes) (length_bytes (index_size version) (boards_of ids))
      ∙ number_back (index_size version) (boards_of ids) (omega (arith, few, (sizes version).counted))

  head_ends : length (head_bytes version ids) ≡ records_at version written
  head_ends = omega (arith, length_head version ids, whole_ids, count_back)

  records_there : drop (records_at version written) written ≡ records_bytes version records
  records_there = drop_at (head_bytes version ids) (records_bytes version records) (records_at version written) head_ends

  right_boards : wrong_boards version written ≡ false
  right_boards =
      let inside : records_at version written ≤ length written = omega (arith, head_ends, length-append (head_bytes version ids) (records_bytes version records)) in
      rw (le-ltb (length written) (records_at version written) inside) (rw (count_back, parts.1))

  head_right : head_refusal written ≡ none
  unfolding head_refusal head_refusals first_refusal same
  head_right = rw (right_version version ids records, ap (λ (v : Version). wrong_boards v written) (version_back version ids records) ∙ right_boards)

  module _ (in_range_lem : every_in_range (boards_of ids) records ≡ true) (fit : counters_fit records) where
    back :
        (records_of (read version (boards_of ids) (records_bytes version records)) ≡ records)
        × (wrong_record (read version (boards_of ids) (records_bytes version records)) ≡ false)
    back = records_back version (boards_of ids) records (omega (arith, few, (sizes version).counted)) in_range_lem fit

    read_there : reading_of written ≡ read version (boards_of ids) (records_bytes version records)
    read_there = ap (λ (v : Version). read_in v written) (version_back version ids records) ∙ λ i. read version (count_back i) (records_there i)

    ids_there : take (16 * board_count version written) (drop (ids_at version) written) ≡ ids
    ids_there =
        rw (count_back)
        (ap (λ (l : List ℕ). take (16 * boards_of ids) (drop (ids_at version) l)) by_ids
        ∙ rw (drop_at start (ids ++ records_bytes version records) (ids_at version) (simp (length-append, length_bytes)), take_at ids (records_bytes version records) (16 * boards_of ids) (sym whole_ids)))

    captured : capture_refusal written ≡ none
    unfolding or_else
    captured = refusal_then written ∙ rw (head_right, ap wrong_record read_there ∙ back.1)

    pub read_back : ReadsBack version ids records
    read_back =
        record {
          accepted = captured;
          version_back = version_back version ids records;
          ids_back = (λ i. ids_as (version_back version ids records i) (head_right i) written) ∙ ids_there;
          records_back = ap (λ o. records_as (version_of written) o written) head_right ∙ ap records_of read_there ∙ back.0;
        }

pub reads_written : ReadsWritten
reads_written = read_back

-- the counters of a list are those of its slice
counters_fit_lem :
    (indexes directions counters lengths packets : List ℕ) → ((place : ℕ) → get_or counters place 0 < 256 ^ 4) → counters_fit (record_list indexes directions counters lengths packets)
unfolding record_list counters_fit
counters_fit_lem [] directions counters lengths packets small = tt
counters_fit_lem (_ ∷ indexes) [] counters lengths packets small = tt
counters_fit_lem (_ ∷ indexes) (_ ∷ directions) [] lengths packets small = tt
counters_fit_lem (_ ∷ indexes) (_ ∷ directions) (_ ∷ counters) [] packets small = tt
counters_fit_lem (_ ∷ indexes) (_ ∷ directions) (_ ∷ counters) (size ∷ lengths) packets small =
    (small 0, counters_fit_lem indexes directions counters lengths (drop size packets) (λ place. small (suc place)))

pub calls_read_back : CallsReadBack
unfolding write_refusal write_refusals
calls_read_back call small accepted =
    let first = not_refused _ _ call accepted in
    let second = not_refused _ _ call first.1 in
    let third = not_refused _ _ call second.1 in
    read_back newest call.ids (records_given call) first.0 (not-false _ third.0) (counters_fit_lem call.indexes call.directions call.counters call.lengths call.packets small)
