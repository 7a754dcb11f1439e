-- Laws of texts one after another.
use Prim.Native.Nat.{ℕ, zero, suc, ◌+◌, ◌-◌, ◌*◌, ◌<◌, ◌≤◌}
use native.Mathlib.Numerals.{add-one}
use native.Mathlib.Omega.{arith}
use mathlib.Core.List.{List, [], ◌++◌, append_assoc, append-nil}
use mathlib.Core.Path.{◌≡◌, refl, sym, ap, ◌∙◌}
use lib.ListN.{length, length-append}
use Rattle.counts.specs.Counting.{numbers_per_board, place_of}
use Rattle.summing.specs.Text.{each}

pub each_same : (n : ℕ) {f g : ℕ → List ℕ} → ((k : ℕ) → k < n → f k ≡ g k) → each n f ≡ each n g
unfolding each
each_same zero e = refl
each_same (suc n) {f} {g} e = λ i. each_same n (λ k h. e k (omega arith)) i ++ e n (omega arith) i

pub each_nothing : (n : ℕ) {f : ℕ → List ℕ} → ((k : ℕ) → f k ≡ []) → each n f ≡ []
unfolding each
each_nothing zero e = refl
each_nothing (suc n) e = λ i. each_nothing n e i ++ e n i

pub each_more : (n : ℕ) (f : ℕ → List ℕ) → each (n + 1) f ≡ each n f ++ f n
unfolding each
each_more n f = rw add-one

pub each_add : (n m : ℕ) (f : ℕ → List ℕ) → each (n + m) f ≡ each n f ++ each m (λ (k : ℕ). f (n + k))
unfolding each
each_add n zero f =
    let all : n + 0 ≡ n = omega arith in
    ap (λ (k : ℕ). each k f) all ∙ sym (append-nil (each n f))
each_add n (suc m) f =
    let next : n + suc m ≡ suc (n + m) = omega arith in
    ap (λ (k : ℕ). each k f) next
    ∙ ap (λ (l : List ℕ). l ++ f (n + m)) (each_add n m f)
    ∙ append_assoc (each n f) (each m (λ (k : ℕ). f (n + k))) (f (n + m))

pub each_grows : {n m : ℕ} (f : ℕ → List ℕ) → n ≤ m → length (each n f) ≤ length (each m f)
each_grows {n} {m} f h =
    let all : n + (m - n) ≡ m = omega arith in
    omega (arith, simp length-append at (ap length (each_add n (m - n) f)), ap (λ (k : ℕ). length (each k f)) all)

-- place by place is board by board, and for each number by number
pub each_board : (boards : ℕ) (f : ℕ → List ℕ) → each (boards * numbers_per_board) f ≡ each boards (λ (index : ℕ). each numbers_per_board (λ (number : ℕ). f (place_of index number)))
unfolding each
each_board zero f = refl
each_board (suc boards) f =
    let next : suc boards * numbers_per_board ≡ boards * numbers_per_board + numbers_per_board = omega arith in
    ap (λ (n : ℕ). each n f) next ∙ each_add (boards * numbers_per_board) numbers_per_board f
    ∙ ap (λ (l : List ℕ). l ++ each numbers_per_board (λ (number : ℕ). f (place_of boards number))) (each_board boards f)
