-- Laws of hexadecimal digits.
use Prim.Native.Nat.{ℕ, zero, suc, ◌+◌, ◌*◌, ◌/◌, ◌<◌}
use native.Mathlib.Omega.{arith}
use mathlib.Core.Bool.{true}
use mathlib.Core.List.{List, [], ◌∷◌}
use mathlib.Core.Path.{◌≡◌, refl, ◌∙◌}
use lib.ListN.{length, get_or}
use Rattle.octets.proofs.Booleans.{both_true}
use Rattle.tables.specs.Importing.{is_hex, hex_value, all_hex, bytes_in}

pub hex_at : (digits : List ℕ) (i : ℕ) → all_hex digits ≡ true → i < length digits → is_hex (get_or digits i 0) ≡ true
unfolding all_hex
hex_at [] i all h = absurd (omega arith)
hex_at (c ∷ s) zero all h = (both_true (is_hex c) (all_hex s) all).0
hex_at (c ∷ s) (suc i) all h = hex_at s i (both_true (is_hex c) (all_hex s) all).1 (omega arith)

pub bytes_size : (digits : List ℕ) → length (bytes_in digits) ≡ length digits / 2
unfolding bytes_in
bytes_size [] = refl
bytes_size (high ∷ []) = refl
bytes_size (high ∷ low ∷ s) = omega (arith, bytes_size s)

pub byte_at :
    (digits : List ℕ) (index : ℕ) → 2 * index + 1 < length digits
    → get_or (bytes_in digits) index 0 ≡ hex_value (get_or digits (2 * index) 0) * 16 + hex_value (get_or digits (2 * index + 1) 0)
unfolding bytes_in
byte_at [] index h = absurd (omega arith)
byte_at (high ∷ []) index h = absurd (omega arith)
byte_at (high ∷ low ∷ s) zero h = refl
byte_at (high ∷ low ∷ s) (suc index) h =
    let digits = high ∷ low ∷ s in
    let first : suc (suc (2 * index)) ≡ 2 * suc index = omega arith in
    let second : suc (suc (2 * index + 1)) ≡ 2 * suc index + 1 = omega arith in
    byte_at s index (omega arith) ∙ λ i. hex_value (get_or digits (first i) 0) * 16 + hex_value (get_or digits (second i) 0)
