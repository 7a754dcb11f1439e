-- Reading records one after another, in pieces too.
use Prim.Native.Nat.{ℕ, zero, suc, ◌+◌, ◌-◌, ◌≤◌}
use native.Mathlib.Omega.{arith}
use mathlib.Core.Bool.{Bool, true, false}
use mathlib.Core.List.{List, [], ◌∷◌, ◌++◌}
use mathlib.Core.Path.{◌≡◌, refl, sym, ap, ◌∙◌}
use borrow.Author.Tests.{ltb-false, le-ltb, ne_eqb}
use lib.Dec.{ltb}
use lib.ListN.{length, take, drop, length-append, length-drop}
use lib.Seq.{take-append-le, drop-append-le}
use Rattle.captures.specs.Form.{index_size, direction_at, counter_at, size_at, packet_at, record_of, fields_in_range}
use Rattle.captures.specs.Reading.{index_in, direction_in, counter_in, size_in, record_in, in_range, item, reading, read, next_record}
use Rattle.captures.specs.Statements.{resumed, read_after, ReadStep}
use Rattle.captures.specs.declared.Version.{Version}
use Rattle.captures.specs.declared.reading.NextRecord.{NextRecord}
use Rattle.captures.proofs.Fields.{field_front}

-- bytes that belong to a record are passed over
pub skip : (version : Version) (boards : ℕ) (l : List ℕ) (k : ℕ) → reading version boards l k ≡ read version boards (drop k l)
unfolding reading
skip version boards [] zero = refl
skip version boards [] (suc k) = refl
skip version boards (b ∷ s) zero = refl
skip version boards (b ∷ s) (suc k) = skip version boards s k

-- a whole record at the start, and what stands after it
pub read_whole :
    (version : Version) (boards : ℕ) (l : List ℕ) → packet_at version + size_in version l ≤ length l → in_range version boards l ≡ true
    → read version boards l ≡ item (record_in version l) (read version boards (drop (packet_at version + size_in version l) l))
unfolding reading
read_whole version boards [] enough right = absurd (omega arith)
read_whole version boards (b ∷ s) enough right =
    let head : packet_at version ≤ length (b ∷ s) = omega arith in
    let after : packet_at version + size_in version (b ∷ s) ≡ suc (index_size version + 6 + size_in version (b ∷ s)) = omega arith in
    rw (le-ltb _ _ head, right, le-ltb _ _ enough)
    (ap (item (record_in version (b ∷ s)))
    (skip version boards s (index_size version + 6 + size_in version (b ∷ s)) ∙ ap (λ (n : ℕ). read version boards (drop n (b ∷ s))) (sym after)))

-- a record looks no further than its bytes
module _ (version : Version) (boards : ℕ) (l more : List ℕ) (head : packet_at version ≤ length l) where
  pub size_front : size_in version (l ++ more) ≡ size_in version l
  size_front = field_front (size_at version) 2 l more (omega arith)

  pub range_front : in_range version boards (l ++ more) ≡ in_range version boards l
  range_front = λ i.
      fields_in_range boards (field_front 0 (index_size version) l more (omega arith) i) (field_front (direction_at version) 1 l more (omega arith) i) (size_front i)

  pub record_front : packet_at version + size_in version l ≤ length l → record_in version (l ++ more) ≡ record_in version l
  record_front whole = λ i.
      record_of (field_front 0 (index_size version) l more (omega arith) i) (field_front (direction_at version) 1 l more (omega arith) i)
      (field_front (counter_at version) 4 l more (omega arith) i) (packet_front i)
    where
      packet_front : take (size_in version (l ++ more)) (drop (packet_at version) (l ++ more)) ≡ take (size_in version l) (drop (packet_at version) l)
      packet_front =
          rw (size_front, drop-append-le (packet_at version) l more head)
          (take-append-le (size_in version l) (drop (packet_at version) l) more (simp length-drop (omega arith)))

resumed_from :
    (version : Version) (boards : ℕ) (l more : List ℕ) (k : ℕ) → k ≤ length l
    → reading version boards (l ++ more) k ≡ resumed version boards (reading version boards l k) more
unfolding reading resumed
resumed_from version boards [] more zero h = refl
resumed_from version boards [] more (suc k) h = absurd (omega arith)
resumed_from version boards (b ∷ s) more (suc k) h = resumed_from version boards s more k (omega arith)
resumed_from version boards (b ∷ s) more zero h = by_head (λ n fits. resumed_from version boards s more n fits) (ltb (length (b ∷ s)) (packet_at version)) refl
  where
    After : Type 0
    After = (n : ℕ) → n ≤ length s → reading version boards (s ++ more) n ≡ resumed version boards (reading version boards s n) more

    Goal : Type 0
    Goal = reading version boards ((b ∷ s) ++ more) 0 ≡ resumed version boards (reading version boards (b ∷ s) 0) more

    longer : {n : ℕ} → n ≤ length (b ∷ s) → n ≤ length ((b ∷ s) ++ more)
    longer e = simp length-append (omega arith)

    by_packet :
        After → packet_at version ≤ length (b ∷ s) → in_range version boards (b ∷ s) ≡ true → (t : Bool)
        → ltb (length (b ∷ s)) (packet_at version + size_in version (b ∷ s)) ≡ t → Goal
    by_packet after head right true e = rw (le-ltb _ _ head, right, e)
    by_packet after head right false e =
        let enough : packet_at version + size_in version (b ∷ s) ≤ length (b ∷ s) = ltb-false _ _ e in
        rw (
          le-ltb _ _ (longer head),
          le-ltb _ _ head,
          range_front version boards (b ∷ s) more head,
          right,
          e,
          record_front version boards (b ∷ s) more head enough,
          size_front version boards (b ∷ s) more head,
          le-ltb _ _ (longer enough),
        )
        (ap (item (record_in version (b ∷ s))) (after (index_size version + 6 + size_in version (b ∷ s)) (omega arith)))

    by_fields : After → packet_at version ≤ length (b ∷ s) → (t : Bool) → in_range version boards (b ∷ s) ≡ t → Goal
    by_fields after head false e = rw (le-ltb _ _ (longer head), le-ltb _ _ head, range_front version boards (b ∷ s) more head, e)
    by_fields after head true e = by_packet after head e (ltb (length (b ∷ s)) (packet_at version + size_in version (b ∷ s))) refl

    by_head : After → (t : Bool) → ltb (length (b ∷ s)) (packet_at version) ≡ t → Goal
    by_head after true e = rw e
    by_head after false e = by_fields after (ltb-false _ _ e) (in_range version boards (b ∷ s)) refl

pub read_resumed : (version : Version) (boards : ℕ) (front more : List ℕ) → read version boards (front ++ more) ≡ resumed version boards (read version boards front) more
read_resumed version boards front more = resumed_from version boards front more 0 (omega arith)

pub read_step : ReadStep
unfolding reading
read_step version boards [] = refl
read_step version boards (b ∷ s) = by_head (ltb (length (b ∷ s)) (packet_at version)) refl
  where
    Goal : Type 0
    Goal = read version boards (b ∷ s) ≡ read_after (read version boards) (b ∷ s) (next_record version boards (b ∷ s))

    by_packet :
        packet_at version ≤ length (b ∷ s) → in_range version boards (b ∷ s) ≡ true → (t : Bool)
        → ltb (length (b ∷ s)) (packet_at version + size_in version (b ∷ s)) ≡ t → Goal
    by_packet head right true e = rw (ne_eqb (length (b ∷ s)) 0 (λ z. omega arith), le-ltb _ _ head, right, e)
    by_packet head right false e =
        let enough : packet_at version + size_in version (b ∷ s) ≤ length (b ∷ s) = ltb-false _ _ e in
        let size : size_in version (b ∷ s) ≡ length (b ∷ s) - packet_at version - (length (b ∷ s) - (packet_at version + size_in version (b ∷ s))) = omega arith in
        let place : packet_at version ≡ length (b ∷ s) - (length (b ∷ s) - packet_at version) = omega arith in
        let after : packet_at version + size_in version (b ∷ s) ≡ length (b ∷ s) - (length (b ∷ s) - (packet_at version + size_in version (b ∷ s))) = omega arith in
        read_whole version boards (b ∷ s) enough right
        ∙ rw (ne_eqb (length (b ∷ s)) 0 (λ z. omega arith), le-ltb _ _ head, right, e)
        (λ i.
        item (record_of (index_in version (b ∷ s)) (direction_in version (b ∷ s)) (counter_in version (b ∷ s)) (take (size i) (drop (place i) (b ∷ s))))
        (read version boards (drop (after i) (b ∷ s))))

    by_fields : packet_at version ≤ length (b ∷ s) → (t : Bool) → in_range version boards (b ∷ s) ≡ t → Goal
    by_fields head false e = rw (ne_eqb (length (b ∷ s)) 0 (λ z. omega arith), le-ltb _ _ head, e)
    by_fields head true e = by_packet head e (ltb (length (b ∷ s)) (packet_at version + size_in version (b ∷ s))) refl

    by_head : (t : Bool) → ltb (length (b ∷ s)) (packet_at version) ≡ t → Goal
    by_head true e = rw (ne_eqb (length (b ∷ s)) 0 (λ z. omega arith), e)
    by_head false e = by_fields (ltb-false _ _ e) (in_range version boards (b ∷ s)) refl

-- what stands first was found
pub read_by :
    (version : Version) (boards : ℕ) (bytes : List ℕ) {found : NextRecord} → next_record version boards bytes ≡ found
    → read version boards bytes ≡ read_after (read version boards) bytes found
read_by version boards bytes e = read_step version boards bytes ∙ ap (read_after (read version boards) bytes) e
