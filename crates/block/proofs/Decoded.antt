-- What holds of every command that a block is decoded to: its function is one that was in force, its low byte stands for a parameter, and its
-- value, of the default length or more, lies in the block.
use mathlib.Core.Path.{◌≡◌, refl}
use mathlib.Core.List.{List, [], ◌∷◌}
use mathlib.Core.Bool.{Bool, true, false, cond, ◌&&◌, ◌||◌}
use mathlib.Core.Option.{Option, none, some, map}
use Prim.Native.Nat.{ℕ, zero, suc, ◌≤◌}
use native.Mathlib.Omega.{arith}
use borrow.Author.Tests.{leb-true, le-leb, eqb-false}
use lib.Dec.{leb, eqb}
use lib.ListN.{length, take}
use lib.Seq.{length-take-le}
use Rattle.octets.proofs.Booleans.{both_true}
use Rattle.block.specs.Reading.{Reading, end, malformed, item, with_value, whole}
use Rattle.block.specs.Command.{Command, command_of, is_function}
use Rattle.block.specs.Request.{items, sized, after_fc, after_fe, after_ff, default_length, commands}
use Rattle.block.specs.Encoding.{encodable_command, every}
use Rattle.block.specs.Statements.{DecodedEncodable}

-- the default length is 0 or 1
short_default : (function : ℕ) → default_length function ≤ 1
short_default function = by_function (eqb function 2 || eqb function 3)
  where
    by_function : (writes : Bool) → cond writes 1 0 ≤ 1
    by_function true = omega arith
    by_function false = omega arith

-- a test that each command passes, by what is known of the functions in force and of the bytes that are left
module _ (test : Command → Bool) (InForce : ℕ → Type 0) (bound : ℕ)
    (named : (function : ℕ) → is_function function ≡ true → InForce function)
    (passes :
    (function page low n : ℕ) (s : List ℕ) → InForce function → leb low 0xFB ≡ true → n ≤ length s → length s ≤ bound
    → default_length function ≤ n → test (command_of function page low (take n s)) ≡ true)
  where
    data Passed : Reading Command → Type 0 where
      fault : Passed malformed
      ended : Passed end
      read : {c : Command} {rest : List ℕ} {after : Reading Command} → test c ≡ true → Passed after → Passed (item c rest after)

    on_cond : (t : Bool) {x y : Reading Command} → (t ≡ true → Passed x) → (t ≡ false → Passed y) → Passed (cond t x y)
    on_cond true p q = p refl
    on_cond false p q = q refl

    -- P and its value
    on_value :
        (function page low n : ℕ) (s : List ℕ) {after : Reading Command} → InForce function → leb low 0xFB ≡ true → length s ≤ bound
        → default_length function ≤ n → Passed after → Passed (with_value (command_of function page low) n s after)
    on_value function page low n s in_force is_low_lem room enough p =
        on_cond (leb n (length s)) (λ e. read (passes function page low n s in_force is_low_lem (leb-true n (length s) e) room enough) p) (λ e. fault)

    mutual
      unfolding items

      on_items : (page function : ℕ) (s : List ℕ) (k : ℕ) → InForce function → length s ≤ bound → Passed (items 5 page function s k)
      on_items page function [] k in_force room = ended
      on_items page function (b ∷ s) (suc k) in_force room = on_items page function s k in_force (omega arith)
      on_items page function (b ∷ s) zero in_force room =
          let less : length s ≤ bound = omega arith in
          on_cond (leb b 0xFB)
          (λ e. on_value function page b (default_length function) s in_force e less (omega arith) (on_items page function s (default_length function) in_force less))
          (λ e. on_cond (eqb b 0xFC) (λ e. on_fc page s less)
          (λ e. on_cond (eqb b 0xFE) (λ e. on_fe page function s in_force less)
          (λ e. on_cond (eqb b 0xFF) (λ e. on_ff function s in_force less) (λ e. fault))))

      on_fc : (page : ℕ) (s : List ℕ) → length s ≤ bound → Passed (after_fc 5 page s)
      on_fc page [] room = fault
      on_fc page (f ∷ s) room =
          on_cond (is_function f && leb f 5) (λ e. on_items page f s 0 (named f (both_true (is_function f) (leb f 5) e).0) (omega arith)) (λ e. fault)

      on_fe : (page function : ℕ) (s : List ℕ) → InForce function → length s ≤ bound → Passed (after_fe 5 page function s)
      on_fe page function [] in_force room = fault
      on_fe page function (n ∷ s) in_force room =
          on_cond (eqb n 0) (λ e. fault)
          (λ e. on_sized page function n s in_force (omega (arith, short_default function, eqb-false n 0 e)) (omega arith))

      on_sized : (page function n : ℕ) (s : List ℕ) → InForce function → default_length function ≤ n → length s ≤ bound → Passed (sized 5 page function n s)
      on_sized page function n [] in_force enough room = fault
      on_sized page function n (b ∷ s) in_force enough room =
          let less : length s ≤ bound = omega arith in
          on_cond (leb b 0xFB) (λ e. on_value function page b n s in_force e less enough (on_items page function s n in_force less)) (λ e. fault)

      on_ff : (function : ℕ) (s : List ℕ) → InForce function → length s ≤ bound → Passed (after_ff 5 function s)
      on_ff function [] in_force room = fault
      on_ff function (h ∷ s) in_force room = on_items h function s 0 in_force (omega arith)

    -- a command before others
    on_first :
        (c : Command) (o : Option (List Command)) (cs : List Command) → test c ≡ true → ((rest : List Command) → o ≡ some rest → every test rest ≡ true)
        → map (λ (rest : List Command). c ∷ rest) o ≡ some cs → every test cs ≡ true
    unfolding every
    on_first c none cs h after e = cc
    on_first c (some rest) cs h after e = let same : cs ≡ c ∷ rest = cc in rw (same, h, after rest refl)

    on_whole : {x : Reading Command} (cs : List Command) → Passed x → whole x ≡ some cs → every test cs ≡ true
    unfolding whole every
    on_whole cs fault e = cc
    on_whole cs ended e = let same : cs ≡ [] = cc in rw same
    on_whole cs (read {c = c} {after = after} h p) e = on_first c (whole after) cs h (λ rest q. on_whole rest p q) e

    on_commands :
        (function : ℕ) (block : List ℕ) (cs : List Command) → InForce function → length block ≤ bound → commands function block ≡ some cs
        → every test cs ≡ true
    on_commands function block cs in_force room e = on_whole cs (on_items 0 function block 0 in_force room) e

abbrev pub is_low : Command → Bool
is_low c = leb c.low 0xFB

pub low_bytes : (function : ℕ) (block : List ℕ) (cs : List Command) → commands function block ≡ some cs → every is_low cs ≡ true
low_bytes function block cs e =
    on_commands is_low (λ f. Unit {0}) (length block) (λ f h. tt) (λ function page low n s in_force is_low_lem fits room enough. is_low_lem) function block cs tt (omega arith) e

pub decoded_encodable : DecodedEncodable
decoded_encodable function block cs is_function_lem short e =
    on_commands encodable_command (λ f. is_function f ≡ true) 255 (λ f h. h)
    (λ function page low n s in_force is_low_lem fits room enough.
    let size : length (take n s) ≡ n = length-take-le n s fits in
    λ i. in_force i && (is_low_lem i && le-leb (length (take n s)) 255 (omega arith) i && le-leb (default_length function) (length (take n s)) (omega arith) i))
    function block cs is_function_lem short e
