use Prim.Native.Nat.{ℕ, suc, ◌-◌}
use native.Mathlib.Omega.{arith}
use borrow.Author.Rules.{rules}
use mathlib.Core.List.{◌++◌}
use mathlib.Core.Path.{◌≡◌, refl, ap}
use lib.ListN.{drop}
use Rattle.numerals.specs.Numerals.{decimal}
use Rattle.numerals.proofs.Decimals.{next_digit, last_digit}
use Rattle.numerals.proofs.write_number.Goals as goal

pub loop-rest-init : goal.loop-rest-init
loop-rest-init c =
    let start = c.args in
    let here : suc (start.end - 1) ≡ start.end = omega arith in
    record {
      left = 19;
      small = omega arith;
      placed = omega arith;
      within = omega arith;
      as_many = refl;
      stands = ap (λ (n : ℕ). decimal start.number ++ drop n start.bytes.now) here;
    }

pub loop-rest-preserved : goal.loop-rest-preserved
loop-rest-preserved c =
    let v = c.loop-rest in
    rw c.digit_of.ensures (next_digit c.args.number c.args.end c.args.bytes.now v.rest v.at v.bytes (search rules) (search rules) v.invariant c.loop-rest-test.true)

pub returns : goal.returns
returns c =
    let v = c.loop-rest in
    rw c.digit_of-2.ensures (last_digit c.args.number c.args.end c.args.bytes.now v.rest v.at v.bytes (search rules) (search rules) v.invariant (search rules))
