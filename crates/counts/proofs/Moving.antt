-- Bytes moved to the start of a window, and what is left of it.
use Prim.Native.Nat.{ℕ, zero, suc, ◌+◌, ◌-◌, ◌<◌, ◌≤◌}
use native.Mathlib.Omega.{arith}
use mathlib.Core.Bool.{Bool, true, false}
use mathlib.Core.List.{List, [], ◌∷◌, ◌++◌}
use mathlib.Core.Path.{◌≡◌, refl, sym, ap, ◌∙◌}
use borrow.Author.Tests.{le-leb, lt-leb, leb-true, leb-false}
use lib.Dec.{leb}
use lib.ListN.{length, take, drop, length-drop, drop_of_length-le}
use lib.Seq.{drop-drop, drop-length}
use Rattle.std.specs.Prelude.{Result, Ok, Err}
use Rattle.std.specs.List.{copy_within}
use Rattle.octets.specs.Octets.{overwrite}
use Rattle.refusals.specs.declared.Refusal.{Refusal}
use Rattle.captures.specs.Form.{packet_at}
use Rattle.captures.specs.Reading.{index_in, direction_in, size_in, Reading, left, wrong, item, read}
use Rattle.captures.specs.declared.Version.{Version}
use Rattle.captures.proofs.Ranges.{ranges}
use Rattle.captures.proofs.Readings.{of_readings}
use Rattle.counts.specs.Counting.{end_of, left_of, last_of, Counts, window_part, CountsWindow}
use Rattle.counts.specs.Statements.{LeftShort}

-- what is left of some bytes is their end
pub record Ends (bytes rest : List ℕ) : Type 0 where
  pub within : length rest ≤ length bytes
  pub stands : drop (length bytes - length rest) bytes ≡ rest

ends_whole : (bytes : List ℕ) → Ends bytes bytes
ends_whole bytes =
    let nothing : length bytes - length bytes ≡ 0 = omega arith in
    record { within = omega arith; stands = ap (λ (n : ℕ). drop n bytes) nothing }

ends_none : (bytes : List ℕ) → Ends bytes []
ends_none bytes =
    let all : length bytes - 0 ≡ length bytes = omega arith in
    record { within = omega arith; stands = ap (λ (n : ℕ). drop n bytes) all ∙ drop-length bytes }

ends_more : (b : ℕ) {s rest : List ℕ} → Ends s rest → Ends (b ∷ s) rest
ends_more b {s} {rest} e =
    let next : length (b ∷ s) - length rest ≡ suc (length s - length rest) = omega (arith, e.within) in
    record { within = omega (arith, e.within); stands = ap (λ (n : ℕ). drop n (b ∷ s)) next ∙ e.stands }

left_ends : (version : Version) (boards : ℕ) (bytes : List ℕ) → Ends bytes (left_of (read version boards bytes))
unfolding left_of
left_ends version boards bytes =
    of_readings (λ (l : List ℕ) (r : Reading). Ends l (left_of r))
    (record {
      none_left = ends_whole [];
      passed_over = λ b s r h. ends_more b h;
      head_cut = λ l few. ends_whole l;
      out_of_range = λ l. ends_none l;
      packet_cut = λ l right few. ends_whole l;
      whole = λ b s r right h. ends_more b h;
    })
    bytes 0

-- and shorter than the longest record
pub left_short : LeftShort
unfolding left_of
left_short version boards bytes =
    of_readings (λ (l : List ℕ) (r : Reading). length (left_of r) < packet_at version + 256)
    (record {
      none_left = omega arith;
      passed_over = λ b s r h. h;
      head_cut = λ l few. omega arith;
      out_of_range = λ l. omega arith;
      packet_cut = λ l right few. omega (arith, ranges boards (index_in version l) (direction_in version l) (size_in version l) right);
      whole = λ b s r right h. h;
    })
    bytes 0

-- how many bytes are left
pub left_size : (r : Reading) {size : ℕ} → end_of r ≡ Ok size → length (left_of r) ≡ size
unfolding end_of left_of
left_size (left bytes) e = cc
left_size wrong e = cc
left_size (item r after) e = left_size after e

left_none : (r : Reading) {refusal : Refusal} → end_of r ≡ Err refusal → left_of r ≡ []
unfolding end_of left_of
left_none (left bytes) e = cc
left_none wrong e = refl
left_none (item r after) e = left_none after e

-- a part of the first bytes is a part of all
front_whole : (n : ℕ) (l : List ℕ) → take n l ≡ take (length (take n l)) l
front_whole zero l = refl
front_whole (suc n) [] = refl
front_whole (suc n) (x ∷ xs) = ap (λ (rest : List ℕ). x ∷ rest) (front_whole n xs)

front_part : (m n : ℕ) (l : List ℕ) → drop m (take n l) ≡ take (length (take n l) - m) (drop m l)
front_part zero n l =
    let all : length (take n l) - 0 ≡ length (take n l) = omega arith in
    front_whole n l ∙ ap (λ (k : ℕ). take k l) (sym all)
front_part (suc m) zero l =
    let nothing : 0 - suc m ≡ 0 = omega arith in
    ap (λ (k : ℕ). take k (drop (suc m) l)) (sym nothing)
front_part (suc m) (suc n) [] =
    let nothing : 0 - suc m ≡ 0 = omega arith in
    ap (λ (k : ℕ). take k []) (sym nothing)
front_part (suc m) (suc n) (x ∷ xs) =
    let next : length (take (suc n) (x ∷ xs)) - suc m ≡ length (take n xs) - m = omega arith in
    front_part m n xs ∙ ap (λ (k : ℕ). take k (drop m xs)) (sym next)

-- the end of a part of a window, by where it stands
module _ (start end : ℕ) (window rest : List ℕ) (e : Ends (window_part start end window) rest) where
  rest_within : length rest ≤ length (take end window)
  rest_within = omega (arith, e.within, length-drop start (take end window))

  rest_by : (t : Bool) → leb start (length (take end window)) ≡ t → rest ≡ drop (length (take end window) - length rest) (take end window)
  rest_by true h =
      let inside : start ≤ length (take end window) = leb-true _ _ h in
      let place : start + (length (window_part start end window) - length rest) ≡ length (take end window) - length rest = omega (arith, e.within, length-drop start (take end window)) in
      sym e.stands ∙ drop-drop (length (window_part start end window) - length rest) start (take end window)
      ∙ ap (λ (n : ℕ). drop n (take end window)) place
  rest_by false h =
      let past : length (take end window) < start = leb-false _ _ h in
      let none : length rest ≡ 0 = omega (arith, e.within, length-drop start (take end window)) in
      sym e.stands ∙ drop-drop (length (window_part start end window) - length rest) start (take end window)
      ∙ drop_of_length-le (take end window) {i = start + (length (window_part start end window) - length rest)} (omega arith)
      ∙ sym (drop_of_length-le (take end window) {i = length (take end window) - length rest} (omega arith))

  pub rest_last : rest ≡ last_of (Ok (length rest)) (take end window)
  rest_last = rest_by (leb start (length (take end window))) refl ∙ rw (le-leb (length rest) (length (take end window)) rest_within)

-- what is left of that part: the last bytes, as its ending tells
by_ending :
    (version : Version) (boards start end : ℕ) (window : List ℕ) (ending : Result ℕ Refusal) → end_of (read version boards (window_part start end window)) ≡ ending
    → last_of ending (take end window) ≡ left_of (read version boards (window_part start end window))
by_ending version boards start end window (Err refusal) e = sym (left_none (read version boards (window_part start end window)) e)
by_ending version boards start end window (Ok size) e =
    let rest = left_of (read version boards (window_part start end window)) in
    ap (λ (n : ℕ). last_of (Ok n) (take end window)) (sym (left_size (read version boards (window_part start end window)) e))
    ∙ sym (rest_last start end window rest (left_ends version boards (window_part start end window)))

pub last_left :
    (version : Version) (boards start end : ℕ) (window : List ℕ)
    → last_of (end_of (read version boards (window_part start end window))) (take end window) ≡ left_of (read version boards (window_part start end window))
last_left version boards start end window = by_ending version boards start end window (end_of (read version boards (window_part start end window))) refl

-- what `keep` moves
module _ (end : ℕ) (window : List ℕ) {filled : List ℕ} (front : filled ≡ take end window) {size : ℕ} where
  pub none_last : length filled < size → window ≡ overwrite window 0 (last_of (Ok size) (take end window))
  none_last h = rw (lt-leb size (length (take end window)) (omega (arith, ap length front)))

  pub last_moved :
      {moved : List ℕ} → size ≤ length filled → moved ≡ copy_within window (length filled - size) (length filled) 0
      → moved ≡ overwrite window 0 (last_of (Ok size) (take end window))
  last_moved h e =
      let within : size ≤ length (take end window) = omega (arith, ap length front) in
      let place = length (take end window) - size in
      let count : length (take end window) - place ≡ length (drop place (take end window)) = sym (length-drop place (take end window)) in
      rw (le-leb size (length (take end window)) within)
      (e
      ∙ (λ i. copy_within window (length (front i) - size) (length (front i)) 0)
      ∙ (λ i. sym (front_part place end window) i ++ drop (0 + count i) window))

-- what `count` answered of a part, and what was kept
pub counts_and_keeps :
    (version : Version) (boards start end : ℕ) (window : List ℕ) {filled part counts after moved : List ℕ} {answer : Result ℕ Refusal} → filled ≡ take end window
    → part ≡ drop start filled → Counts version boards part counts answer after → moved ≡ overwrite window 0 (last_of answer (take end window))
    → CountsWindow version boards start end window counts answer after moved
counts_and_keeps version boards start end window {part} {counts} {after} {answer} front cut done kept =
    let counted_part : Counts version boards (window_part start end window) counts answer after = rw (cut ∙ ap (drop start) front) at done in
    record {
      counts = counted_part;
      kept =
          kept
          ∙ ap (overwrite window 0) (ap (λ (e : Result ℕ Refusal). last_of e (take end window)) counted_part.answered ∙ last_left version boards start end window);
    }
