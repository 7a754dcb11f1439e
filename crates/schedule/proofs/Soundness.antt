-- Entries that are legal, one by one and all of them.
use Prim.Native.Nat.{ℕ, zero, suc}
use mathlib.Core.Bool.{true}
use mathlib.Core.List.{List, [], ◌∷◌}
use mathlib.Core.Path.{◌≡◌, refl}
use lib.ListN.{set}
use Rattle.octets.proofs.Booleans.{both_true}
use Rattle.schedule.specs.declared.Entry.{Entry}
use Rattle.schedule.specs.Entries.{legal, all_legal}

-- a legal entry in the place of another keeps all of them legal
pub legal_set : (entries : List Entry) (place : ℕ) (new : Entry) → all_legal entries ≡ true → legal new ≡ true → all_legal (set entries place new) ≡ true
unfolding all_legal
legal_set [] place new e h = refl
legal_set (first ∷ rest) zero new e h = rw (h, (both_true (legal first) (all_legal rest) e).1)
legal_set (first ∷ rest) (suc place) new e h =
    let old = both_true (legal first) (all_legal rest) e in
    rw (old.0, legal_set rest place new old.1 h)
