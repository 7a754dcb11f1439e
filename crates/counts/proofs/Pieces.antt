-- Records may be counted in pieces.
use Prim.Native.Nat.{ℕ}
use mathlib.Core.List.{List, [], ◌∷◌, ◌++◌, append_assoc, append-nil}
use mathlib.Core.Path.{◌≡◌, refl, sym, ap, ◌∙◌}
use Rattle.captures.specs.Reading.{Reading, left, wrong, item, reading, read, records_of}
use Rattle.captures.specs.Statements.{resumed, joined}
use Rattle.captures.specs.declared.Version.{Version}
use Rattle.captures.proofs.Records.{read_resumed}
use Rattle.counts.specs.Counting.{counted, counted_one, left_of}
use Rattle.counts.specs.Statements.{Progress, is_wrong, after, taken, all_taken, PiecesCount}

-- reading on from what is left
after_resumed : (version : Version) (boards : ℕ) (more : List ℕ) (r : Reading) (counts : List ℕ) → after counts (resumed version boards r more) ≡ taken version boards (after counts r) more
unfolding resumed records_of left_of is_wrong counted
after_resumed version boards more (left bytes) counts = refl
after_resumed version boards more wrong counts = refl
after_resumed version boards more (item r rest) counts = after_resumed version boards more rest (counted_one counts r)

module _ (version : Version) (boards : ℕ) (counts : List ℕ) where
  one_more : (front piece : List ℕ) → taken version boards (after counts (read version boards front)) piece ≡ after counts (read version boards (front ++ piece))
  one_more front piece =
      sym (after_resumed version boards piece (read version boards front) counts) ∙ ap (after counts) (sym (read_resumed version boards front piece))

  all_from : (front : List ℕ) (pieces : List (List ℕ)) → all_taken version boards (after counts (read version boards front)) pieces ≡ after counts (read version boards (front ++ joined pieces))
  unfolding all_taken joined
  all_from front [] = ap (λ (l : List ℕ). after counts (read version boards l)) (sym (append-nil front))
  all_from front (piece ∷ pieces) =
      ap (λ (p : Progress). all_taken version boards p pieces) (one_more front piece)
      ∙ all_from (front ++ piece) pieces
      ∙ ap (λ (l : List ℕ). after counts (read version boards l)) (append_assoc front piece (joined pieces))

pub pieces_count : PiecesCount
unfolding reading records_of left_of is_wrong counted
pieces_count version boards counts pieces = all_from version boards counts [] pieces
