-- Digits that were written are read, and digits that are read are those that are written.
use Prim.Native.Nat.{ℕ, zero, suc, ◌+◌, ◌*◌, ◌-◌, ◌/◌, ◌%◌, ◌^◌, ◌<◌, ◌≤◌}
use native.Mathlib.Nat.{pow-suc, div-add-mod', div-lt_iff_lt-mul, mod-lt}
use native.Mathlib.Omega.{arith}
use mathlib.Core.Bool.{Bool, true, false, cond, ◌&&◌, ◌||◌}
use mathlib.Core.List.{List, [], ◌∷◌, ◌++◌, append_assoc, append-nil}
use mathlib.Core.Path.{◌≡◌, refl, ap, ◌∙◌}
use borrow.Author.Tests.{eqb-true, ltb-true, ltb-false, lt-ltb, le-ltb, le-leb, lt-leb, leb-true}
use lib.Dec.{leb, ltb, eqb}
use lib.ListN.{length, get_or, length-append, get_or-append}
use Rattle.octets.specs.Octets.{between}
use Rattle.octets.proofs.Booleans.{both_true}
use Rattle.captures.specs.Numbers.{Bytes}
use Rattle.numerals.specs.Numerals.{hex_digit, hex_bytes, digit, decimal_in, decimal, number_from}
use Rattle.numerals.proofs.Decimals.{one_digit, more_digits}
use Rattle.tables.specs.Importing.{is_hex, hex_value, all_hex, bytes_in, all_digits, number_in, is_decimal, counter_limit}

-- a digit of hex
hex_cases : (d : ℕ) → d < 16 → (is_hex (hex_digit d) ≡ true) × (hex_value (hex_digit d) ≡ d)
hex_cases d h = by_ten (ltb d 10) refl
  where
    by_ten : (t : Bool) → ltb d 10 ≡ t → (is_hex (cond t (0x30 + d) (0x37 + d)) ≡ true) × (hex_value (cond t (0x30 + d) (0x37 + d)) ≡ d)
    by_ten true e =
        let low : d < 10 = ltb-true _ _ e in
        (rw (le-leb 0x30 (0x30 + d) (omega arith), le-leb (0x30 + d) 0x39 (omega arith)), rw (le-leb (0x30 + d) 0x39 (omega arith)) (omega arith))
    by_ten false e =
        let high : 10 ≤ d = ltb-false _ _ e in (
          rw (le-leb 0x30 (0x37 + d) (omega arith), lt-leb (0x37 + d) 0x39 (omega arith), le-leb 0x41 (0x37 + d) (omega arith), le-leb (0x37 + d) 0x46 (omega arith)),
          rw (lt-leb (0x37 + d) 0x39 (omega arith)) (omega arith),
        )

pub record HexBack (bytes : List ℕ) : Type 0 where
  pub hex : all_hex (hex_bytes bytes) ≡ true
  pub back : bytes_in (hex_bytes bytes) ≡ bytes
  pub size : length (hex_bytes bytes) ≡ 2 * length bytes

pub hex_back : (bytes : List ℕ) → Bytes bytes → HexBack bytes
unfolding all_hex hex_bytes bytes_in
hex_back [] h = record { hex = refl; back = refl; size = refl }
hex_back (b ∷ bs) h =
    let rest : HexBack bs = hex_back bs (λ (place : ℕ). h (suc place)) in
    let high = hex_cases (b / 16) ((div-lt_iff_lt-mul {k = 16} {x = b} {y = 16} (omega arith)).1 (omega (arith, h 0))) in
    let low = hex_cases (b % 16) (mod-lt b (omega arith)) in
    record {
      hex = λ i. high.0 i && (low.0 i && rest.hex i);
      back = (λ i. (high.1 i * 16 + low.1 i) ∷ rest.back i) ∙ ap (λ (n : ℕ). n ∷ bs) (div-add-mod' b 16);
      size = omega (arith, rest.size);
    }

digits_all : (l r : List ℕ) → all_digits l ≡ true → all_digits r ≡ true → all_digits (l ++ r) ≡ true
unfolding all_digits
digits_all [] r e f = f
digits_all (c ∷ s) r e f =
    let both = both_true (between 0x30 0x39 c) (all_digits s) e in
    λ i. both.0 i && digits_all s r both.1 f i

-- one digit
is_digit : (d : ℕ) → d < 10 → between 0x30 0x39 (digit d) ≡ true
is_digit d h = rw (le-leb 0x30 (0x30 + d) (omega arith), le-leb (0x30 + d) 0x39 (omega arith))

pub decimal_digits : (k n : ℕ) → all_digits (decimal_in k n) ≡ true
unfolding all_digits decimal_in
decimal_digits zero n = refl
decimal_digits (suc k) n = by_ten (ltb n 10) refl (decimal_digits k (n / 10))
  where
    by_ten : (t : Bool) → ltb n 10 ≡ t → all_digits (decimal_in k (n / 10)) ≡ true → all_digits (cond t (digit n ∷ []) (decimal_in k (n / 10) ++ digit (n % 10) ∷ [])) ≡ true
    by_ten true e rest = λ i. is_digit n (ltb-true _ _ e) i && true
    by_ten false e rest = digits_all (decimal_in k (n / 10)) (digit (n % 10) ∷ []) rest (λ i. is_digit (n % 10) (mod-lt n (omega arith)) i && true)

-- it starts with a digit, which is no zero where the number is none
pub decimal_leads : (k n : ℕ) → n < 10 ^ k → 1 ≤ n → (0 < length (decimal_in k n)) × (0x30 < get_or (decimal_in k n) 0 0)
unfolding decimal_in
decimal_leads zero n h more = absurd (omega (arith, h))
decimal_leads (suc k) n h more = by_ten (ltb n 10) refl (λ m less more. decimal_leads k m less more)
  where
    by_ten :
        (t : Bool) → ltb n 10 ≡ t → ((m : ℕ) → m < 10 ^ k → 1 ≤ m → (0 < length (decimal_in k m)) × (0x30 < get_or (decimal_in k m) 0 0))
        → (0 < length (cond t (digit n ∷ []) (decimal_in k (n / 10) ++ digit (n % 10) ∷ [])))
        × (0x30 < get_or (cond t (digit n ∷ []) (decimal_in k (n / 10) ++ digit (n % 10) ∷ [])) 0 0)
    by_ten true e leads = (omega arith, omega arith)
    by_ten false e leads =
        let less : n < 10 ^ k * 10 = rw pow-suc at h in
        let ten : 10 ≤ n = ltb-false _ _ e in
        let back = leads (n / 10) ((div-lt_iff_lt-mul (omega arith)).1 less) (omega (arith, div-add-mod' n 10, mod-lt n {m = 10} (omega arith))) in
        (simp length-append (omega arith), rw (get_or-append (decimal_in k (n / 10)) (digit (n % 10) ∷ []) 0 0 back.0) back.1)

-- a digit of hex by its value
hex_forth : (c : ℕ) → is_hex c ≡ true → (hex_value c < 16) × (hex_digit (hex_value c) ≡ c)
hex_forth c h = by_digit (between 0x30 0x39 c) (between 0x41 0x46 c) refl refl h
  where
    by_digit : (a b : Bool) → between 0x30 0x39 c ≡ a → between 0x41 0x46 c ≡ b → (a || b) ≡ true → (hex_value c < 16) × (hex_digit (hex_value c) ≡ c)
    by_digit true b e f h =
        let both = both_true (leb 0x30 c) (leb c 0x39) e in
        let low : 0x30 ≤ c = leb-true 0x30 c both.0 in
        let high : c ≤ 0x39 = leb-true c 0x39 both.1 in
        (rw (le-leb c 0x39 high) (omega arith), rw (le-leb c 0x39 high, lt-ltb (c - 0x30) 10 (omega arith)) (omega arith))
    by_digit false true e f h =
        let both = both_true (leb 0x41 c) (leb c 0x46) f in
        let low : 0x41 ≤ c = leb-true 0x41 c both.0 in
        let high : c ≤ 0x46 = leb-true c 0x46 both.1 in
        (rw (lt-leb c 0x39 (omega arith)) (omega arith), rw (lt-leb c 0x39 (omega arith), le-ltb (c - 0x37) 10 (omega arith)) (omega arith))
    by_digit false false e f h = let impossible : ◌≡◌ {A = ℕ} 0 1 = cc in absurd (omega arith)

-- pairs of digits that are read
pub record HexForth (digits : List ℕ) : Type 0 where
  pub small : Bytes (bytes_in digits)
  pub forth : hex_bytes (bytes_in digits) ≡ digits
  pub size : length digits ≡ 2 * length (bytes_in digits)

pub hex_written : (digits : List ℕ) → all_hex digits ≡ true → length digits % 2 ≡ 0 → HexForth digits
unfolding all_hex hex_bytes bytes_in
hex_written [] h even = record { small = λ place. omega arith; forth = refl; size = refl }
hex_written (high ∷ []) h even = absurd (omega (arith, even))
hex_written (high ∷ low ∷ s) h even =
    let first = both_true (is_hex high) (is_hex low && all_hex s) h in
    let second = both_true (is_hex low) (all_hex s) first.1 in
    let rest : HexForth s = hex_written s second.1 (omega (arith, even)) in
    let upper = hex_forth high first.0 in
    let lower = hex_forth low second.0 in
    let byte : ℕ = hex_value high * 16 + hex_value low in
    let quotient : byte / 16 ≡ hex_value high = omega (arith, lower.0) in
    let remainder : byte % 16 ≡ hex_value low = omega (arith, lower.0) in
    record {
      small = bytes byte (bytes_in s) (omega (arith, upper.0, lower.0)) rest.small;
      forth = λ i. (ap hex_digit quotient ∙ upper.1) i ∷ (ap hex_digit remainder ∙ lower.1) i ∷ rest.forth i;
      size = omega (arith, rest.size);
    }
  where
    bytes : (byte : ℕ) (others : List ℕ) → byte < 256 → Bytes others → Bytes (byte ∷ others)
    bytes byte others h k zero = h
    bytes byte others h k (suc place) = k place

-- decimal digits behind a number that is not 0 are its next digits
digits_follow :
    (room so_far : ℕ) (s : List ℕ) → 1 ≤ so_far → all_digits s ≡ true
    → decimal_in (room + length s) (number_from so_far s) ≡ decimal_in room so_far ++ s
unfolding all_digits number_from
digits_follow room so_far [] some h = rw append-nil (ap (λ (n : ℕ). decimal_in n so_far) (omega arith))
digits_follow room so_far (c ∷ s) some h =
    let both = both_true (between 0x30 0x39 c) (all_digits s) h in
    let bounds = both_true (leb 0x30 c) (leb c 0x39) both.0 in
    let low : 0x30 ≤ c = leb-true 0x30 c bounds.0 in
    let high : c ≤ 0x39 = leb-true c 0x39 bounds.1 in
    let next : ℕ = so_far * 10 + (c - 0x30) in
    let quotient : next / 10 ≡ so_far = omega arith in
    let last : digit (next % 10) ≡ c = omega arith in
    let moved : room + length (c ∷ s) ≡ suc room + length s = omega arith in
    ap (λ (n : ℕ). decimal_in n (number_from next s)) moved
    ∙ digits_follow (suc room) next s (omega arith) both.1
    ∙ ap (λ (l : List ℕ). l ++ s)
    (more_digits room next (omega arith) ∙ (λ i. decimal_in room (quotient i) ++ last i ∷ []))
    ∙ append_assoc (decimal_in room so_far) (c ∷ []) s

-- so many digits behind it make it so large
digits_large : (power so_far : ℕ) (s : List ℕ) → 10 ^ power ≤ so_far → 10 ^ (power + length s) ≤ number_from so_far s
unfolding number_from
digits_large power so_far [] h =
    let same : power + length {A = ℕ} [] ≡ power = omega arith in
    rw same h
digits_large power so_far (c ∷ s) h =
    let more : 10 ^ suc power ≡ 10 ^ power * 10 = pow-suc 10 power in
    let moved : power + length (c ∷ s) ≡ suc power + length s = omega arith in
    rw moved (digits_large (suc power) (so_far * 10 + (c - 0x30)) s (omega (arith, more, h)))

power_more : (power more : ℕ) → 10 ^ power ≤ 10 ^ (power + more)
power_more power zero =
    let same : power + zero ≡ power = omega arith in
    rw same (omega arith)
power_more power (suc more) =
    let moved : power + suc more ≡ suc (power + more) = omega arith in
    let next : 10 ^ (power + suc more) ≡ 10 ^ (power + more) * 10 = ap (λ (n : ℕ). 10 ^ n) moved ∙ pow-suc 10 (power + more) in
    omega (arith, next, power_more power more)

-- the digits of a number of 32 bits, read and written again
pub decimal_written : (digits : List ℕ) → is_decimal digits ≡ true → number_in digits ≤ counter_limit → decimal (number_in digits) ≡ digits
unfolding all_digits number_from decimal_in
decimal_written [] h small = let impossible : ◌≡◌ {A = ℕ} 0 1 = cc in absurd (omega arith)
decimal_written (c ∷ s) h small =
    let formed = both_true (ltb 0 (length (c ∷ s)) && all_digits (c ∷ s)) (ltb 0x30 c || eqb (length (c ∷ s)) 1) h in
    let both = both_true (between 0x30 0x39 c) (all_digits s) (both_true (ltb 0 (length (c ∷ s))) (all_digits (c ∷ s)) formed.0).1 in
    let bounds = both_true (leb 0x30 c) (leb c 0x39) both.0 in
    by_first (ltb 0x30 c) refl (leb-true 0x30 c bounds.0) (leb-true c 0x39 bounds.1) both.1 formed.1
  where
    by_first :
        (leads : Bool) → ltb 0x30 c ≡ leads → 0x30 ≤ c → c ≤ 0x39 → all_digits s ≡ true → (leads || eqb (length (c ∷ s)) 1) ≡ true
        → decimal (number_from (0 + (c - 0x30)) s) ≡ c ∷ s
    by_first true e low high all form =
        let first : 1 ≤ 0 + (c - 0x30) = omega (arith, ltb-true 0x30 c e) in
        let one : 10 ^ 0 ≤ 0 + (c - 0x30) = omega (arith, first) in
        let few : length s ≤ 19 = short (digits_large 0 (0 + (c - 0x30)) s one) in
        let room : 20 ≡ suc (19 - length s) + length s = omega arith in
        let shown : digit (0 + (c - 0x30)) ≡ c = omega arith in
        ap (λ (n : ℕ). decimal_in n (number_from (0 + (c - 0x30)) s)) room
        ∙ digits_follow (suc (19 - length s)) (0 + (c - 0x30)) s first all
        ∙ ap (λ (l : List ℕ). l ++ s) (one_digit (19 - length s) (0 + (c - 0x30)) (omega arith) ∙ ap (λ (n : ℕ). n ∷ []) shown)
      where
        short : 10 ^ (0 + length s) ≤ number_from (0 + (c - 0x30)) s → length s ≤ 19
        short h = by_length (ltb (length s) 20) refl
          where
            by_length : (t : Bool) → ltb (length s) 20 ≡ t → length s ≤ 19
            by_length true e = omega (arith, ltb-true (length s) 20 e)
            by_length false e =
                let long : 20 ≤ length s = ltb-false (length s) 20 e in
                let more : 20 + (length s - 20) ≡ 0 + length s = omega arith in
                let large : 10 ^ 20 ≤ 10 ^ (0 + length s) = rw more at (power_more 20 (length s - 20)) in
                let bound : number_from (0 + (c - 0x30)) s ≤ counter_limit = small in
                absurd (omega (arith, large, h, bound))
    by_first false e low high all form =
        let alone : length s ≡ 0 = omega (arith, eqb-true (length (c ∷ s)) 1 form) in
        let first : c ≡ 0x30 = omega (arith, ltb-false 0x30 c e) in
        only s alone first
      where
        only : (s : List ℕ) → length s ≡ 0 → c ≡ 0x30 → decimal (number_from (0 + (c - 0x30)) s) ≡ c ∷ s
        only [] h f = rw f refl
        only (d ∷ t) h f = absurd (omega (arith, h))
