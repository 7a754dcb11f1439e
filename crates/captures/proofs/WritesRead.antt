-- An accepted capture is the bytes of what was read.
use Prim.Native.Nat.{ℕ, zero, suc, ◌+◌, ◌*◌, ◌/◌, ◌≤◌}
use native.Mathlib.Omega.{arith}
use mathlib.Core.Bool.{Bool, true, false, cond, not}
use mathlib.Core.List.{List, [], ◌∷◌, ◌++◌}
use mathlib.Core.Option.{none}
use mathlib.Core.Path.{◌≡◌, refl, sym, ap, ◌∙◌}
use borrow.Author.Tests.{ltb-false, not-false}
use lib.Dec.{ltb, eqb-suc-zero}
use lib.ListN.{length, take, drop, length-drop, take-append-drop}
use lib.Seq.{take-add, length-take-le}
use Rattle.octets.proofs.Same.{same_equal}
use Rattle.framing.proofs.Refusals.{not_refused, first_of_joined, both_none}
use Rattle.captures.specs.Numbers.{Bytes, bytes_of}
use Rattle.captures.specs.Form.{mark, version_number, index_size, version_at, count_at, ids_at, direction_at, counter_at, size_at, packet_at, record_bytes, records_bytes, boards_of, head_bytes, capture_bytes}
use Rattle.captures.specs.Reading.{Reading, left, wrong, item, version_of, board_count, records_at, size_in, record_in, in_range, reading, records_of, wrong_record, head_refusals, head_refusal, capture_refusals, capture_refusal, ids_as, records_as}
use Rattle.captures.specs.Statements.{WritesRead}
use Rattle.captures.specs.declared.Version.{Version}
use Rattle.captures.proofs.Fields.{length_bytes, field_bytes, dropped_small}
use Rattle.captures.proofs.Pieces.{inside}
use Rattle.captures.proofs.Versions.{version_stands}

-- parts side by side are one part
next_part : (at size next : ℕ) (l : List ℕ) → at + size ≡ next → take at l ++ take size (drop at l) ≡ take next l
next_part at size next l e = sym (take-add at size l) ∙ ap (λ (n : ℕ). take n l) e

-- a record that was read has the bytes that it was read from
module _ (version : Version) (l : List ℕ) (small : Bytes l) (whole : packet_at version + size_in version l ≤ length l) where
  packet_size : length (take (size_in version l) (drop (packet_at version) l)) ≡ size_in version l
  packet_size = length-take-le (size_in version l) (drop (packet_at version) l) (simp length-drop (omega arith))

  record_bytes_lem : record_bytes version (record_in version l) ≡ take (packet_at version + size_in version l) l
  record_bytes_lem =
      (λ i.
      field_bytes 0 (index_size version) l small (omega arith) i
      ++ field_bytes (direction_at version) 1 l small (omega arith) i
      ++ field_bytes (counter_at version) 4 l small (omega arith) i
      ++ (ap (bytes_of 2) packet_size ∙ field_bytes (size_at version) 2 l small (omega arith)) i
      ++ take (size_in version l) (drop (packet_at version) l))
      ∙ rw (
        next_part (direction_at version) 1 (counter_at version) l refl,
        next_part (counter_at version) 4 (size_at version) l (omega arith),
        next_part (size_at version) 2 (packet_at version) l (omega arith),
        next_part (packet_at version) (size_in version l) (packet_at version + size_in version l) l refl,
      )

records_bytes_lem : (version : Version) (boards : ℕ) (l : List ℕ) (k : ℕ) → Bytes l → wrong_record (reading version boards l k) ≡ false → records_bytes version (records_of (reading version boards l k)) ≡ drop k l
unfolding reading records_of wrong_record records_bytes
records_bytes_lem version boards [] zero small right = refl
records_bytes_lem version boards [] (suc k) small right = refl
records_bytes_lem version boards (b ∷ s) (suc k) small right = records_bytes_lem version boards s k (λ place. small (suc place)) right
records_bytes_lem version boards (b ∷ s) zero small right =
    by_tests (ltb (length (b ∷ s)) (packet_at version)) (in_range version boards (b ∷ s)) (ltb (length (b ∷ s)) (packet_at version + size_in version (b ∷ s))) refl
    (λ n e. records_bytes_lem version boards s n (λ place. small (suc place)) e) right
  where
    found : Reading
    found = item (record_in version (b ∷ s)) (reading version boards s (index_size version + 6 + size_in version (b ∷ s)))

    cut_short : wrong_record (left (b ∷ s)) ≡ true
    cut_short = rw (eqb-suc-zero (length s))

    by_tests :
        (head right cut : Bool) → ltb (length (b ∷ s)) (packet_at version + size_in version (b ∷ s)) ≡ cut
        → ((n : ℕ) → wrong_record (reading version boards s n) ≡ false → records_bytes version (records_of (reading version boards s n)) ≡ drop n s)
        → wrong_record (cond head (left (b ∷ s)) (cond (not right) wrong (cond cut (left (b ∷ s)) found))) ≡ false
        → records_bytes version (records_of (cond head (left (b ∷ s)) (cond (not right) wrong (cond cut (left (b ∷ s)) found)))) ≡ b ∷ s
    by_tests true right cut h again e = cc cut_short
    by_tests false false cut h again e = cc
    by_tests false true true h again e = cc cut_short
    by_tests false true false h again e =
        let enough : packet_at version + size_in version (b ∷ s) ≤ length (b ∷ s) = ltb-false (length (b ∷ s)) (packet_at version + size_in version (b ∷ s)) h in
        let after : suc (index_size version + 6 + size_in version (b ∷ s)) ≡ packet_at version + size_in version (b ∷ s) = omega arith in
        (λ i. record_bytes_lem version (b ∷ s) small enough i ++ again (index_size version + 6 + size_in version (b ∷ s)) e i)
        ∙ ap (λ (n : ℕ). take (packet_at version + size_in version (b ∷ s)) (b ∷ s) ++ drop n (b ∷ s)) after
        ∙ take-append-drop (packet_at version + size_in version (b ∷ s)) (b ∷ s)

-- the head of an accepted capture
module _ (capture : List ℕ) (small : Bytes capture) (right : head_refusal capture ≡ none) where
  mark_there : take (length mark) (drop 0 capture) ≡ mark
  unfolding head_refusal head_refusals
  mark_there = same_equal _ _ (not-false _ (not_refused _ _ capture right).0)

  abbrev version : Version
  version = version_of capture

  version_there : take 2 (drop version_at capture) ≡ bytes_of 2 (version_number version)
  unfolding head_refusal head_refusals
  version_there =
      ap (λ (n : ℕ). take n (drop version_at capture)) (sym (length_bytes 2 (version_number version)))
      ∙ same_equal _ _ (version_stands capture (not_refused _ _ capture (not_refused _ _ capture right).1).0)

  ids_size : length (take (16 * board_count version capture) (drop (ids_at version) capture)) ≡ 16 * board_count version capture
  ids_size = length-take-le (16 * board_count version capture) (drop (ids_at version) capture) (simp length-drop (omega (arith, inside capture right)))

  boards_there : boards_of (take (16 * board_count version capture) (drop (ids_at version) capture)) ≡ board_count version capture
  boards_there = ap (λ (n : ℕ). n / 16) ids_size ∙ omega arith

  count_there : bytes_of (index_size version) (board_count version capture) ≡ take (index_size version) (drop count_at capture)
  count_there = field_bytes count_at (index_size version) capture small (omega (arith, inside capture right))

  head_there : head_bytes version (take (16 * board_count version capture) (drop (ids_at version) capture)) ≡ take (records_at version capture) capture
  head_there =
      (λ i.
      sym mark_there i ++ sym version_there i ++ (ap (bytes_of (index_size version)) boards_there ∙ count_there) i
      ++ take (16 * board_count version capture) (drop (ids_at version) capture))
      ∙ rw (
        next_part version_at 2 count_at capture refl,
        next_part count_at (index_size version) (ids_at version) capture refl,
        next_part (ids_at version) (16 * board_count version capture) (records_at version capture) capture refl,
      )

pub writes_read : WritesRead
unfolding capture_refusal capture_refusals head_refusal
writes_read capture small accepted =
    let both = both_none (head_refusal capture) _ (sym (first_of_joined capture head_refusals _) ∙ accepted) in
    let right = both.0 in
    let version = version_of capture in
    let records = (not_refused _ _ capture both.1).0 in
    (λ i. capture_bytes version (ids_as version (right i) capture) (records_as version (right i) capture))
    ∙ (λ i. head_there capture small right i ++ records_bytes_lem version (board_count version capture) (drop (records_at version capture) capture) 0 (dropped_small (records_at version capture) capture small) records i)
    ∙ take-append-drop (records_at version capture) capture
