-- Laws of numbers of several bytes.
use Prim.Native.Nat.{ℕ, zero, suc, ◌+◌, ◌*◌, ◌/◌, ◌%◌, ◌^◌, ◌<◌, ◌≤◌}
use native.Mathlib.Nat.{pow-suc, div-add-mod', div-lt_iff_lt-mul}
use native.Mathlib.Numerals.{add-one, unary_clauses}
use native.Mathlib.Omega.{arith}
use mathlib.Core.List.{List, [], ◌∷◌, ◌++◌}
use mathlib.Core.Path.{◌≡◌, refl, sym, ap, ◌∙◌}
use lib.ListN.{length, take, drop, get_or, length-drop}
use lib.Seq.{drop-cons, take-append-le, drop-append-le, take_at, drop_at, length-take-le, get_or-drop}
use Rattle.captures.specs.Numbers.{Bytes, number_of, bytes_of, field}

-- a number's bytes are as many as asked for, and give it back where it has room in them
pub length_bytes : (size number : ℕ) → length (bytes_of size number) ≡ size
unfolding bytes_of
length_bytes zero number = refl
length_bytes (suc size) number = ap suc (length_bytes size (number / 256))

pub number_back : (size number : ℕ) → number < 256 ^ size → number_of (bytes_of size number) ≡ number
unfolding bytes_of number_of
number_back zero number h = omega (arith, h)
number_back (suc size) number h =
    let less : number < 256 ^ size * 256 = rw pow-suc at h in
    let high : number_of (bytes_of size (number / 256)) ≡ number / 256 = number_back size (number / 256) ((div-lt_iff_lt-mul (omega arith)).1 less) in
    omega (arith, high, div-add-mod' number 256)

-- bytes are those of their number
pub bytes_back : (bytes : List ℕ) → Bytes bytes → bytes_of (length bytes) (number_of bytes) ≡ bytes
unfolding bytes_of number_of
bytes_back [] small = refl
bytes_back (byte ∷ bytes) small =
    let first : byte < 256 = small 0 in
    let low : (byte + 256 * number_of bytes) % 256 ≡ byte = omega arith in
    let high : (byte + 256 * number_of bytes) / 256 ≡ number_of bytes = omega arith in
    λ i. low i ∷ (ap (bytes_of (length bytes)) high ∙ bytes_back bytes (λ place. small (suc place))) i

-- the first byte of a field, and the others
pub field_more : (at size : ℕ) (l : List ℕ) → at < length l → field at (suc size) l ≡ get_or l at 0 + 256 * field (at + 1) size l
unfolding number_of
field_more at size l h = rw (add-one, drop-cons l at 0 h)

-- past the end a byte counts as 0
pub field_one : (at : ℕ) (l : List ℕ) → field at 1 l ≡ get_or l at 0
unfolding number_of
field_one zero [] = refl
field_one (suc at) [] = refl
field_one zero (byte ∷ bytes) = omega arith
field_one (suc at) (byte ∷ bytes) = field_one at bytes

pub field_two : (at : ℕ) (l : List ℕ) → field at 2 l ≡ get_or l at 0 + 256 * get_or l (at + 1) 0
unfolding number_of
field_two zero [] = refl
field_two (suc at) [] = refl
field_two zero (byte ∷ bytes) = ap (λ (n : ℕ). byte + 256 * n) (field_one 0 bytes)
field_two (suc at) (byte ∷ bytes) = field_two at bytes ∙ simp unary_clauses

pub field_four :
    (at : ℕ) (l : List ℕ) → at + 4 ≤ length l
    → field at 4 l ≡ get_or l at 0 + 256 * get_or l (at + 1) 0 + 65536 * get_or l (at + 2) 0 + 16777216 * get_or l (at + 3) 0
field_four at l h =
    let first : field at 4 l ≡ get_or l at 0 + 256 * field (at + 1) 3 l = field_more at 3 l (omega arith) in
    let second : field (at + 1) 3 l ≡ get_or l (at + 1) 0 + 256 * field (at + 1 + 1) 2 l = field_more (at + 1) 2 l (omega arith) in
    let two : at + 1 + 1 ≡ at + 2 = omega arith in
    let three : at + 2 + 1 ≡ at + 3 = omega arith in
    rw (first, second, two, field_two, three) (omega arith)

-- a field looks no further than its bytes
pub field_front : (at size : ℕ) (l more : List ℕ) → at + size ≤ length l → field at size (l ++ more) ≡ field at size l
field_front at size l more h =
    rw (drop-append-le at l more (omega arith), take-append-le size (drop at l) more (simp length-drop (omega arith)))

-- a field that stands after others
pub field_at : (before bytes after : List ℕ) {at size : ℕ} → length before ≡ at → length bytes ≡ size → field at size (before ++ (bytes ++ after)) ≡ number_of bytes
field_at before bytes after {at} {size} e f = rw (drop_at before (bytes ++ after) at e, take_at bytes after size f)

-- a part of bytes is bytes
pub taken_small : (size : ℕ) (l : List ℕ) → Bytes l → Bytes (take size l)
taken_small zero l small place = omega arith
taken_small (suc size) [] small place = omega arith
taken_small (suc size) (byte ∷ bytes) small zero = small zero
taken_small (suc size) (byte ∷ bytes) small (suc place) = taken_small size bytes (λ p. small (suc p)) place

pub dropped_small : (at : ℕ) (l : List ℕ) → Bytes l → Bytes (drop at l)
dropped_small at l small place = rw (get_or-drop at l place 0) (small (at + place))

-- a field of bytes has a number that has room in as many
taken_number : (size : ℕ) (l : List ℕ) → Bytes l → number_of (take size l) < 256 ^ size
unfolding number_of
taken_number zero l small = omega arith
taken_number (suc size) [] small = rw pow-suc (omega (arith, taken_number size [] small))
taken_number (suc size) (byte ∷ bytes) small =
    let first : byte < 256 = small 0 in
    rw pow-suc (omega (arith, taken_number size bytes (λ place. small (suc place))))

pub field_small : (at size : ℕ) (l : List ℕ) → Bytes l → field at size l < 256 ^ size
field_small at size l small = taken_number size (drop at l) (dropped_small at l small)

-- the bytes of a field's number are those that stand there
pub field_bytes :
    (at size : ℕ) (l : List ℕ) → Bytes l → at + size ≤ length l → bytes_of size (field at size l) ≡ take size (drop at l)
field_bytes at size l small h =
    let whole : length (take size (drop at l)) ≡ size = length-take-le size (drop at l) (simp length-drop (omega arith)) in
    ap (λ (n : ℕ). bytes_of n (field at size l)) (sym whole) ∙ bytes_back (take size (drop at l)) (taken_small size (drop at l) (dropped_small at l small))
