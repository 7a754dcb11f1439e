-- What was read of a capture may be written, in the newest version.
use Prim.Native.Nat.{ℕ, suc, ◌*◌, ◌%◌, ◌≤◌}
use native.Mathlib.Omega.{arith}
use mathlib.Core.Bool.{true, false}
use mathlib.Core.List.{List, [], ◌∷◌}
use mathlib.Core.Option.{none}
use mathlib.Core.Path.{◌≡◌, refl, sym, ap, ◌∙◌}
use borrow.Author.Tests.{eq-eqb, le-leb, lt-ltb, leb-true, not-false}
use lib.Dec.{leb}
use lib.ListN.{length, take, drop, length-drop}
use lib.Seq.{length-take-le}
use Rattle.octets.specs.Octets.{between}
use Rattle.octets.proofs.Booleans.{both_true, neither}
use Rattle.framing.proofs.Refusals.{not_refused}
use Rattle.captures.specs.Numbers.{Bytes}
use Rattle.captures.specs.Form.{newest, Record, board_limit, ids_at, counter_at, boards_of, wrong_count}
use Rattle.captures.specs.Reading.{Reading, version_of, board_count, records_at, read, records_of, head_refusals, head_refusal, ids_as, ids_in, records_in, opened_of}
use Rattle.captures.specs.Writing.{wrong_ids, every_in_range}
use Rattle.captures.specs.Statements.{Within, counters_fit, RewritesHold}
use Rattle.captures.specs.declared.Version.{Version}
use Rattle.captures.specs.declared.reading.Head.{Head}
use Rattle.std.specs.Prelude.{Ok}
use Rattle.captures.proofs.Fields.{dropped_small, field_small}
use Rattle.captures.proofs.Opening.{accepted_as}
use Rattle.captures.proofs.Pieces.{inside}
use Rattle.captures.proofs.Ranges.{records_within}
use Rattle.captures.proofs.Readings.{of_readings}
use Rattle.captures.proofs.ReadsWritten.{reads_written}
use Rattle.captures.proofs.Versions.{sizes}

-- records within their ranges pass the writer's check
in_range_lem : (boards : ℕ) (records : List Record) → Within boards records → every_in_range boards records ≡ true
unfolding every_in_range Within
in_range_lem boards [] within = refl
in_range_lem boards (r ∷ rs) within = rw (lt-ltb _ _ within.0, le-leb _ _ within.1, le-leb _ _ within.2, in_range_lem boards rs within.3)

-- a counter of four bytes has room in four
counters_read : (version : Version) (boards : ℕ) (bytes : List ℕ) → Bytes bytes → counters_fit (records_of (read version boards bytes))
unfolding records_of counters_fit
counters_read version boards bytes =
    of_readings (λ (l : List ℕ) (r : Reading). Bytes l → counters_fit (records_of r))
    (record {
      none_left = λ small. tt;
      passed_over = λ b s r h small. h (λ place. small (suc place));
      head_cut = λ l few small. tt;
      out_of_range = λ l small. tt;
      packet_cut = λ l right few small. tt;
      whole = λ b s r right h small. (field_small (counter_at version) 4 (b ∷ s) small, h (λ place. small (suc place)));
    })
    bytes 0

module _ (capture : List ℕ) (right : head_refusal capture ≡ none) where
  abbrev version : Version
  version = version_of capture

  abbrev ids : List ℕ
  ids = take (16 * board_count version capture) (drop (ids_at version) capture)

  pub ids_read : ids_in capture ≡ ids
  ids_read = ap (λ o. ids_as version o capture) right

  ids_size : length ids ≡ 16 * board_count version capture
  ids_size = length-take-le (16 * board_count version capture) (drop (ids_at version) capture) (simp length-drop (omega (arith, inside capture right)))

  count_right : between 1 (board_limit version) (board_count version capture) ≡ true
  unfolding head_refusal head_refusals
  count_right =
      let third = not_refused _ _ capture (not_refused _ _ capture (not_refused _ _ capture right).1).1 in
      not-false _ (neither (wrong_count version (board_count version capture)) _ third.0).0

  read_right : wrong_ids newest ids ≡ false
  read_right =
      let both = both_true (leb 1 (board_count version capture)) (leb (board_count version capture) (board_limit version)) count_right in
      let some_boards : 1 ≤ boards_of ids = omega (arith, ids_size, leb-true 1 (board_count version capture) both.0) in
      let few : boards_of ids ≤ board_limit newest =
      omega (arith, ids_size, leb-true (board_count version capture) (board_limit version) both.1, (sizes version).few_boards) in
      let whole : length ids % 16 ≡ 0 = omega (arith, ids_size) in
      rw (eq-eqb (length ids % 16) 0 whole, le-leb _ _ some_boards, le-leb _ _ few)

  pub ids_right : wrong_ids newest (ids_in capture) ≡ false
  ids_right = ap (wrong_ids newest) ids_read ∙ read_right

pub rewrites_hold : RewritesHold
rewrites_hold capture small right =
    let version = version_of capture in
    reads_written newest (ids_in capture) (records_in capture)
    (ids_right capture right)
    (in_range_lem (boards_of (ids_in capture)) (records_in capture) (records_within capture))
    (rw right
    (counters_read version (board_count version capture) (drop (records_at version capture) capture) (dropped_small (records_at version capture) capture small)))

-- the IDs that stand where `open` says
pub ids_same :
    (capture : List ℕ) {head : Head} → opened_of capture ≡ Ok head → take (16 * head.boards) (drop head.ids capture) ≡ ids_in capture
ids_same capture e =
    let found = accepted_as capture e in
    ap (λ (h : Head). take (16 * h.boards) (drop h.ids capture)) found.told ∙ sym (ids_read capture found.accepted)
