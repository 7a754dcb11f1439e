-- Laws of bytes in hexadecimal.
use Prim.Native.Nat.{ℕ, ◌+◌, ◌*◌, ◌<◌}
use native.Mathlib.Numerals.{add-one}
use native.Mathlib.Omega.{arith}
use mathlib.Core.List.{List, [], ◌∷◌, ◌++◌}
use mathlib.Core.Path.{◌≡◌, refl}
use lib.ListN.{length, take, get_or}
use lib.Seq.{take-suc}
use Rattle.numerals.specs.Numerals.{hex_bytes}

pub hex_append : (left right : List ℕ) → hex_bytes (left ++ right) ≡ hex_bytes left ++ hex_bytes right
unfolding hex_bytes
hex_append [] right = refl
hex_append (byte ∷ left) right = rw (hex_append left right)

pub length_hex : (bytes : List ℕ) → length (hex_bytes bytes) ≡ 2 * length bytes
unfolding hex_bytes
length_hex [] = refl
length_hex (byte ∷ bytes) = omega (arith, length_hex bytes)

-- one byte more
pub hex_take : (bytes : List ℕ) (i : ℕ) → i < length bytes → hex_bytes (take (i + 1) bytes) ≡ hex_bytes (take i bytes) ++ hex_bytes (get_or bytes i 0 ∷ [])
hex_take bytes i h = rw (add-one, take-suc bytes i 0) (hex_append (take i bytes) (get_or bytes i 0 ∷ []))
