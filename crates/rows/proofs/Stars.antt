-- Which rows the unit types of the VENTO Expert lack: one test of the table for each two types, carried to every number.
use Prim.Native.Nat.{ℕ, suc}
use mathlib.Core.Bool.{Bool, true, false, cond, not, ◌&&◌}
use mathlib.Core.List.{List, [], ◌∷◌}
use mathlib.Core.Path.{◌≡◌, refl, sym, ap, ◌∙◌}
use borrow.Author.Tests.{eqb-true}
use lib.Dec.{T, eqb, leb}
use lib.ListN.{get_or}
use Rattle.rows.specs.Rows.{Row, rows, no_row, has, named, index_in}
use Rattle.rows.specs.Rule.{one_star, two_stars, StarsKept}
use Rattle.rows.proofs.Bools.{both, tested}
use Rattle.rows.proofs.Tables.{every}

agree : Bool → Bool → Bool
agree true b = b
agree false b = not b

agreed : (a b : Bool) → T (agree a b) → a ≡ b
unfolding agree
agreed true true t = refl
agreed true false t = absurd t
agreed false true t = absurd t
agreed false false t = refl

-- the second unit type has the rows of the first but for these numbers; every row can be read
lacks : ℕ → ℕ → (ℕ → Bool) → Row → Bool
lacks more less without r = leb 1 r.functions && agree (has less r) (has more r && not (without r.number))

known_in : ℕ → ℕ → List Row → Bool
known_in unit n l = leb 1 (get_or l (index_in unit n l) no_row).functions

known_first : (unit n : ℕ) (r : Row) (rs : List Row) → known_in unit n (r ∷ rs) ≡ cond (named unit n r) (leb 1 r.functions) (known_in unit n rs)
unfolding known_in index_in
known_first unit n r rs = by (named unit n r)
  where
    by : (b : Bool) → leb 1 (get_or (r ∷ rs) (cond b 0 (suc (index_in unit n rs))) no_row).functions ≡ cond b (leb 1 r.functions) (leb 1 (get_or rs (index_in unit n rs) no_row).functions)
    by true = refl
    by false = refl

no_and : (b : Bool) → (b && false) ≡ false
no_and true = refl
no_and false = refl

-- one row more: it is named or not, the first unit type has it or not, its number is one of these or not
one_more :
    (named Has-more is_without : Bool) (has_less readable more less : Bool) → readable ≡ true → less ≡ (more && not is_without)
    → (named ≡ true → has_less ≡ (Has-more && not is_without))
    → cond (named && has_less) readable less ≡ (cond (named && Has-more) readable more && not is_without)
one_more false m w l f more less e rest own = rest
one_more true false w l f more less e rest own = ap (λ (b : Bool). cond b f less) (own refl) ∙ rest
one_more true true true l f more less e rest own = ap (λ (b : Bool). cond b f less) (own refl) ∙ rest ∙ no_and more ∙ sym (no_and f)
one_more true true false l f more less e rest own = ap (λ (b : Bool). cond b f less) (own refl) ∙ e ∙ sym (ap (λ (b : Bool). b && true) e)

lacked :
    (more less : ℕ) (without : ℕ → Bool) (n : ℕ) (l : List Row) → T (every (lacks more less without) l)
    → known_in less n l ≡ (known_in more n l && not (without n))
unfolding lacks known_in index_in
lacked more less without n [] t = refl
lacked more less without n (r ∷ rs) t =
    let here = both (lacks more less without r) (every (lacks more less without) rs) t in
    let tests = both (leb 1 r.functions) (agree (has less r) (has more r && not (without r.number))) here.0 in
    known_first less n r rs
    ∙ one_more (eqb r.number n) (has more r) (without n) (has less r) (leb 1 r.functions) (known_in more n rs) (known_in less n rs)
    (tested (leb 1 r.functions) tests.0)
    (lacked more less without n rs here.1)
    (λ e. agreed (has less r) (has more r && not (without r.number)) tests.1 ∙ ap (λ (k : ℕ). has more r && not (without k)) (eqb-true r.number n e))
    ∙ ap (λ (b : Bool). b && not (without n)) (sym (known_first more n r rs))

pub stars_kept : StarsKept
unfolding rows lacks agree known_in
stars_kept n =
    record {
      two = lacked 3 4 two_stars n rows tt;
      one = lacked 4 5 one_star n rows tt;
    }
