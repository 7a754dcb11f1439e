-- What holds of every reading: shown of each way that its tests can go.
use Prim.Native.Nat.{ℕ, zero, suc, ◌+◌, ◌<◌}
use mathlib.Core.Bool.{Bool, true, false, cond, not}
use mathlib.Core.List.{List, [], ◌∷◌}
use mathlib.Core.Path.{◌≡◌, refl}
use borrow.Author.Tests.{ltb-true}
use lib.Dec.{ltb}
use lib.ListN.{length}
use Rattle.captures.specs.Form.{index_size, packet_at}
use Rattle.captures.specs.Reading.{size_in, record_in, in_range, Reading, left, wrong, item, reading}
use Rattle.captures.specs.declared.Version.{Version}

pub record Ways (version : Version) (boards : ℕ) (P : List ℕ → Reading → Type 0) : Type 0 where
  pub none_left : P [] (left [])
  -- a byte of a record before
  pub passed_over : (b : ℕ) (s : List ℕ) (r : Reading) → P s r → P (b ∷ s) r
  pub head_cut : (bytes : List ℕ) → length bytes < packet_at version → P bytes (left bytes)
  pub out_of_range : (bytes : List ℕ) → P bytes wrong
  pub packet_cut : (bytes : List ℕ) → in_range version boards bytes ≡ true → length bytes < packet_at version + size_in version bytes → P bytes (left bytes)
  pub whole : (b : ℕ) (s : List ℕ) (r : Reading) → in_range version boards (b ∷ s) ≡ true → P s r → P (b ∷ s) (item (record_in version (b ∷ s)) r)

module _ {version : Version} {boards : ℕ} (P : List ℕ → Reading → Type 0) (ways : Ways version boards P) where
  by_tests :
      (b : ℕ) (s : List ℕ) (after : Reading) → P s after → (short : Bool) → ltb (length (b ∷ s)) (packet_at version) ≡ short
      → (right : Bool) → in_range version boards (b ∷ s) ≡ right → (cut : Bool) → ltb (length (b ∷ s)) (packet_at version + size_in version (b ∷ s)) ≡ cut
      → P (b ∷ s) (cond short (left (b ∷ s)) (cond (not right) wrong (cond cut (left (b ∷ s)) (item (record_in version (b ∷ s)) after))))
  by_tests b s after h true few right e cut f = ways.head_cut (b ∷ s) (ltb-true _ _ few)
  by_tests b s after h false few false e cut f = ways.out_of_range (b ∷ s)
  by_tests b s after h false few true e true f = ways.packet_cut (b ∷ s) e (ltb-true _ _ f)
  by_tests b s after h false few true e false f = ways.whole b s after e h

  pub of_readings : (bytes : List ℕ) (k : ℕ) → P bytes (reading version boards bytes k)
  unfolding reading
  of_readings [] k = ways.none_left
  of_readings (b ∷ s) (suc k) = ways.passed_over b s (reading version boards s k) (of_readings s k)
  of_readings (b ∷ s) zero =
      by_tests b s (reading version boards s (index_size version + 6 + size_in version (b ∷ s))) (of_readings s (index_size version + 6 + size_in version (b ∷ s)))
      (ltb (length (b ∷ s)) (packet_at version)) refl (in_range version boards (b ∷ s)) refl (ltb (length (b ∷ s)) (packet_at version + size_in version (b ∷ s))) refl
