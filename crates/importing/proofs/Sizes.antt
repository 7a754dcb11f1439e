-- The sizes of a line and of a field, byte by byte.
use Prim.Native.Nat.{ℕ, suc, ◌+◌, ◌<◌, ◌≤◌}
use native.Mathlib.Numerals.{add-one}
use native.Mathlib.Omega.{arith}
use mathlib.Core.Bool.{Bool, true, false, cond, ◌&&◌, and-false}
use mathlib.Core.List.{List, [], ◌∷◌}
use mathlib.Core.Path.{◌≡◌, refl, sym, ap, ◌∙◌}
use borrow.Author.Tests.{eq-eqb, ne_eqb}
use lib.Dec.{eqb}
use lib.ListN.{length, drop, get_or, drop_of_length-le}
use lib.Seq.{drop-cons, get_or-drop}
use Rattle.octets.proofs.Booleans.{both_true}
use Rattle.tables.specs.Lines.{ends_here, line_size}
use Rattle.importing.specs.Splitting.{field_size, size_behind}

pub no_field : (l : List ℕ) → length l ≡ 0 → field_size l ≡ 0
unfolding field_size
no_field [] h = refl
no_field (c ∷ s) h = absurd (omega arith)

-- a field, from its first byte on: another byte than a quote, a doubled quote, and a quote that ends it
pub field_goes_on : (l : List ℕ) → 1 ≤ length l → (get_or l 0 0 ≡ 0x22 → ⊥) → field_size l ≡ 1 + field_size (drop 1 l)
unfolding field_size
field_goes_on [] h e = absurd (omega arith)
field_goes_on (c ∷ s) h e = rw (ne_eqb c 0x22 e) (omega arith)

pub quote_doubled : (l : List ℕ) → 2 ≤ length l → get_or l 0 0 ≡ 0x22 → get_or l 1 0 ≡ 0x22 → field_size l ≡ 2 + field_size (drop 2 l)
unfolding field_size size_behind
quote_doubled [] h e d = absurd (omega arith)
quote_doubled (c ∷ []) h e d = absurd (omega arith)
quote_doubled (c ∷ other ∷ s) h e d = rw (eq-eqb c 0x22 e, eq-eqb other 0x22 d) (omega arith)

pub field_ends : (l : List ℕ) → 1 ≤ length l → get_or l 0 0 ≡ 0x22 → (get_or l 1 0 ≡ 0x22 → ⊥) → field_size l ≡ 0
unfolding field_size size_behind
field_ends [] h e d = absurd (omega arith)
field_ends (c ∷ []) h e d = rw (eq-eqb c 0x22 e)
field_ends (c ∷ other ∷ s) h e d = rw (eq-eqb c 0x22 e, ne_eqb other 0x22 d)

-- a line, from a place on: no byte, CR LF, and another first or second byte
module _ (text : List ℕ) (at : ℕ) where
  pub no_line : length text ≤ at → line_size (drop at text) ≡ 0
  unfolding line_size
  no_line h = rw (drop_of_length-le text h)

  second : get_or (drop (suc at) text) 0 0 ≡ get_or text (at + 1) 0
  second = get_or-drop (suc at) text 0 0 ∙ ap (λ (n : ℕ). get_or text n 0) (omega arith)

  line_at : at < length text → line_size (drop at text) ≡ cond (eqb (get_or text at 0) 0x0D && eqb (get_or text (at + 1) 0) 0x0A) 0 (suc (line_size (drop (at + 1) text)))
  unfolding line_size
  line_at h =
      ap line_size (drop-cons text at 0 h)
      ∙ λ i. cond (eqb (get_or text at 0) 0x0D && eqb (second i) 0x0A) 0 (suc (line_size (drop (sym (add-one at) i) text)))

  pub line_ends : at < length text → get_or text at 0 ≡ 0x0D → get_or text (at + 1) 0 ≡ 0x0A → line_size (drop at text) ≡ 0
  line_ends h cr lf = line_at h ∙ rw (eq-eqb _ _ cr, eq-eqb _ _ lf)

  pub other_first : at < length text → (get_or text at 0 ≡ 0x0D → ⊥) → line_size (drop at text) ≡ suc (line_size (drop (at + 1) text))
  other_first h other = line_at h ∙ rw (ne_eqb _ _ other)

  pub other_second : at < length text → (get_or text (at + 1) 0 ≡ 0x0A → ⊥) → line_size (drop at text) ≡ suc (line_size (drop (at + 1) text))
  other_second h other = line_at h ∙ rw (ne_eqb _ _ other, and-false (eqb (get_or text at 0) 0x0D))

-- a line is the whole text, or its CR LF stands behind it
record Within (size whole : ℕ) : Type 0 where
  within : size ≤ whole
  ended : size < whole → size + 2 ≤ whole

-- a line feed is a byte
some_bytes : (s : List ℕ) → eqb (get_or s 0 0) 0x0A ≡ true → 1 ≤ length s
some_bytes [] e = let impossible : ◌≡◌ {A = ℕ} 0 1 = cc in absurd (omega arith)
some_bytes (c ∷ s) e = omega arith

size_by : (t : Bool) (c : ℕ) (s : List ℕ) → ends_here (c ∷ s) ≡ t → Within (line_size s) (length s) → Within (cond t 0 (suc (line_size s))) (suc (length s))
size_by true c s e rest =
    let long = some_bytes s (both_true (eqb c 0x0D) (eqb (get_or s 0 0) 0x0A) e).1 in
    record { within = omega arith; ended = λ h. omega arith }
size_by false c s e rest = record { within = omega (arith, rest.within); ended = λ h. omega (arith, rest.ended (omega arith)) }

within : (text : List ℕ) → Within (line_size text) (length text)
unfolding line_size
within [] = record { within = omega arith; ended = λ h. omega arith }
within (c ∷ s) = size_by (ends_here (c ∷ s)) c s refl (within s)

pub line_within : (text : List ℕ) → line_size text ≤ length text
line_within text = (within text).within

pub end_within : (text : List ℕ) → line_size text < length text → line_size text + 2 ≤ length text
end_within text = (within text).ended
