-- Numbers of several bytes, low byte first.
use Rattle.std.specs.Prelude.{ℕ, zero, suc, ◌+◌, ◌*◌, ◌/◌, ◌%◌, ◌<◌, List, [], ◌∷◌, take, drop, get_or}

-- each is a byte
abbrev pub Bytes : List ℕ → Type 0
Bytes l = (place : ℕ) → get_or l place 0 < 256

unfoldable pub number_of : List ℕ → ℕ
number_of [] = 0
number_of (byte ∷ bytes) = byte + 256 * number_of bytes

-- a number in so many bytes
unfoldable pub bytes_of : ℕ → ℕ → List ℕ
bytes_of zero number = []
bytes_of (suc size) number = number % 256 ∷ bytes_of size (number / 256)

-- the number of so many bytes that stands at a place
abbrev pub field : ℕ → ℕ → List ℕ → ℕ
field at size bytes = number_of (take size (drop at bytes))
