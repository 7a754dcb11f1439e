-- A capture in pieces, of which the first has the head.
use Prim.Native.Nat.{ℕ, ◌≤◌}
use mathlib.Core.List.{List, [], ◌∷◌, ◌++◌, append-nil}
use mathlib.Core.Path.{◌≡◌, ap}
use Rattle.std.specs.Prelude.{Ok}
use lib.ListN.{length, drop}
use lib.Seq.{drop-append-le}
use Rattle.captures.specs.Reading.{ids_in, opened_of}
use Rattle.captures.specs.Statements.{joined, head_within}
use Rattle.captures.specs.declared.reading.Head.{Head}
use Rattle.captures.proofs.Opening.{accepted_as}
use Rattle.captures.proofs.Pieces.{inside, opened_front, ids_front}

pub opened_within : (front : List ℕ) (pieces : List (List ℕ)) → head_within front pieces → opened_of (front ++ joined pieces) ≡ opened_of front
unfolding head_within joined
opened_within front [] long = ap opened_of (append-nil front)
opened_within front (piece ∷ pieces) long = opened_front front (piece ++ joined pieces) long

pub ids_within : (front : List ℕ) (pieces : List (List ℕ)) → head_within front pieces → ids_in (front ++ joined pieces) ≡ ids_in front
unfolding head_within joined
ids_within front [] long = ap ids_in (append-nil front)
ids_within front (piece ∷ pieces) long = ids_front front (piece ++ joined pieces) long

-- the records behind the head go on behind the first piece
pub records_behind :
    (front more : List ℕ) {head : Head} → opened_of front ≡ Ok head
    → drop head.records (front ++ more) ≡ drop head.records front ++ more
records_behind front more {head} e =
    let told = accepted_as front e in
    let within : head.records ≤ length front = rw (ap (λ (h : Head). h.records) told.told) (inside front told.accepted) in
    drop-append-le head.records front more within
