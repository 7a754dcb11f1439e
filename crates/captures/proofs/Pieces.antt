-- A capture may be read in pieces.
use Prim.Native.Nat.{ℕ, ◌+◌, ◌*◌, ◌≤◌}
use native.Mathlib.Omega.{arith}
use mathlib.Core.Bool.{Bool, true, false}
use mathlib.Core.List.{List, [], ◌∷◌, ◌++◌, append_assoc, append-nil}
use mathlib.Core.Option.{Option, none, some}
use mathlib.Core.Path.{◌≡◌, refl, sym, ap, ◌∙◌}
use borrow.Author.Tests.{leb-true, le-ltb, ltb-false, not-false}
use lib.Dec.{leb}
use lib.ListN.{length, drop, length-append, length-drop}
use lib.Seq.{take-append-le, drop-append-le}
use Rattle.octets.specs.Octets.{stands_at}
use Rattle.octets.proofs.Booleans.{both_true, neither}
use Rattle.framing.specs.Refusal.{first_refusal}
use Rattle.refusals.specs.declared.Refusal.{Refusal}
use Rattle.framing.proofs.Refusals.{not_refused}
use Rattle.captures.specs.Numbers.{bytes_of}
use Rattle.captures.specs.Form.{mark, version_number, index_size, version_at, count_at, ids_at, board_limit, wrong_count}
use Rattle.captures.specs.Reading.{Reading, is_version, version_of, read_in, reading_of, board_count, records_at, wrong_boards, head_refusals, head_refusal, read, ids_as, ids_in, opened_as, opened_of}
use Rattle.captures.specs.Statements.{resumed_by, joined, longest_head, PiecesRead}
use Rattle.captures.specs.declared.Version.{Version}
use Rattle.captures.specs.declared.Version.TheVariants.{One, Two}
use Rattle.captures.proofs.Fields.{length_bytes, field_front}
use Rattle.captures.proofs.Records.{read_resumed}
use Rattle.captures.proofs.Versions.{sizes}

-- records piece by piece
pub resumed_by_lem : (version : Version) (boards : ℕ) (front : List ℕ) (pieces : List (List ℕ)) → read version boards (front ++ joined pieces) ≡ resumed_by version boards (read version boards front) pieces
unfolding resumed_by joined
resumed_by_lem version boards front [] = ap (read version boards) (append-nil front)
resumed_by_lem version boards front (piece ∷ pieces) =
    ap (read version boards) (sym (append_assoc front piece (joined pieces)))
    ∙ resumed_by_lem version boards (front ++ piece) pieces
    ∙ ap (λ (so_far : Reading). resumed_by version boards so_far pieces) (read_resumed version boards front piece)

-- what stands in a front stands in the whole
stands_front : (front more : List ℕ) (at : ℕ) (expected : List ℕ) → at + length expected ≤ length front → stands_at (front ++ more) at expected ≡ stands_at front at expected
stands_front front more at expected h =
    rw (drop-append-le at front more (omega arith), take-append-le (length expected) (drop at front) more (simp length-drop (omega arith)))

-- an accepted head stands whole
pub inside : (capture : List ℕ) → head_refusal capture ≡ none → records_at (version_of capture) capture ≤ length capture
unfolding head_refusal head_refusals
inside capture right =
    let third = not_refused _ _ capture (not_refused _ _ capture (not_refused _ _ capture right).1).1 in
    ltb-false (length capture) (records_at (version_of capture) capture) (neither (wrong_count (version_of capture) (board_count (version_of capture) capture)) _ third.0).1

module _ (front more : List ℕ) (long : longest_head ≤ length front) where
  stands : (version : Version) → is_version version (front ++ more) ≡ is_version version front
  stands version = stands_front front more version_at (bytes_of 2 (version_number version)) (simp length_bytes (omega arith))

  version_front : version_of (front ++ more) ≡ version_of front
  version_front = rw (stands One)

  module _ (version : Version) where
    count_front : board_count version (front ++ more) ≡ board_count version front
    count_front = field_front count_at (index_size version) front more (omega (arith, (sizes version).few_bytes))

    boards_by : (wrong : Bool) → wrong_count version (board_count version front) ≡ wrong → wrong_boards version (front ++ more) ≡ wrong_boards version front
    boards_by true e = rw (count_front, e)
    boards_by false e =
        let count : leb (board_count version front) (board_limit version) ≡ true = (both_true (leb 1 (board_count version front)) (leb (board_count version front) (board_limit version)) (not-false _ e)).1 in
        let inside : records_at version front ≤ length front = omega (arith, leb-true (board_count version front) (board_limit version) count, (sizes version).few_bytes, (sizes version).few_boards) in
        let within : records_at version front ≤ length (front ++ more) = omega (arith, length-append front more) in
        rw (count_front, e, le-ltb (length front) (records_at version front) inside, le-ltb (length (front ++ more)) (records_at version front) within)

    boards_front : wrong_boards version (front ++ more) ≡ wrong_boards version front
    boards_front = boards_by (wrong_count version (board_count version front)) refl

    opened_at : (refused : Option Refusal) → opened_as version refused (front ++ more) ≡ opened_as version refused front
    opened_at none = rw count_front
    opened_at (some refusal) = refl

  pub head_front : head_refusal (front ++ more) ≡ head_refusal front
  unfolding head_refusal head_refusals first_refusal
  head_front = rw (stands_front front more 0 mark (omega arith), stands One, stands Two, boards_front (version_of front))

  pub opened_front : opened_of (front ++ more) ≡ opened_of front
  opened_front = (λ i. opened_as (version_front i) (head_front i) (front ++ more)) ∙ opened_at (version_of front) (head_refusal front)

  ids_at_lem : (refused : Option Refusal) → head_refusal front ≡ refused → ids_as (version_of front) refused (front ++ more) ≡ ids_as (version_of front) refused front
  ids_at_lem (some refusal) e = refl
  ids_at_lem none e =
      let version = version_of front in
      rw (
        count_front version,
        drop-append-le (ids_at version) front more (omega (arith, inside front e)),
        take-append-le (16 * board_count version front) (drop (ids_at version) front) more (simp length-drop (omega (arith, inside front e))),
      )

  pub ids_front : ids_in (front ++ more) ≡ ids_in front
  ids_front = (λ i. ids_as (version_front i) (head_front i) (front ++ more)) ∙ ids_at_lem (head_refusal front) refl

  pub read_front :
      (pieces : List (List ℕ)) → more ≡ joined pieces → head_refusal front ≡ none
      → reading_of (front ++ more) ≡ resumed_by (version_of front) (board_count (version_of front) front) (reading_of front) pieces
  read_front pieces e right =
      let version = version_of front in
      let records : drop (records_at version (front ++ more)) (front ++ more) ≡ drop (records_at version front) front ++ more =
      rw (count_front version) (drop-append-le (records_at version front) front more (inside front right)) in
      (λ i. read_in (version_front i) (front ++ more))
      ∙ (λ i. read version (count_front version i) (records i))
      ∙ ap (λ (l : List ℕ). read version (board_count version front) (drop (records_at version front) front ++ l)) e
      ∙ resumed_by_lem version (board_count version front) (drop (records_at version front) front) pieces

pub pieces_read : PiecesRead
pieces_read front pieces long =
    record { head_told = opened_front front (joined pieces) long; records_read = read_front front (joined pieces) long pieces refl }
