-- The bytes of one part more.
use Rattle.std.proofs.Common.{◌≡◌, ℕ, ◌+◌, ◌<◌, ◌≤◌, List, [], ◌++◌, Bor, length, get_or, take}
use Rattle.std.proofs.lemmas.List.{take_more, append-nil}
use Rattle.std.proofs.lemmas.List.Concat.{flat_map-append}
use Rattle.std.proofs.lemmas.List.Folds.{length-flat_map-take}
use Rattle.encoding.specs.Writing.{joined}

abbrev pub part_at : List (Bor (List ℕ)) → ℕ → List ℕ
part_at parts i = (get_or parts i (record { ref_ptr = (0, 0); now = [] })).now

pub joined_more : (parts : List (Bor (List ℕ))) (i : ℕ) → i < length parts → joined (take (i + 1) parts) ≡ joined (take i parts) ++ part_at parts i
joined_more parts i h =
    rw (take_more parts i (record { ref_ptr = (0, 0); now = [] }) h, flat_map-append, append-nil)

pub joined_within : (parts : List (Bor (List ℕ))) (i : ℕ) → i < length parts → length (joined (take i parts)) + length (part_at parts i) ≤ length (joined parts)
joined_within parts i h = length-flat_map-take (λ (part : Bor (List ℕ)). part.now) parts i (record { ref_ptr = (0, 0); now = [] }) h
