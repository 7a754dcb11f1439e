-- What the tool writes of reads alone is no write to a search (discovery): FUNC is 1, and there is no FC.
use Prim.Native.Nat.{ℕ, ◌≤◌}
use native.Mathlib.Omega.{arith}
use mathlib.Core.Bool.{Bool, true, false, cond, ◌&&◌}
use mathlib.Core.List.{List, [], ◌∷◌, ◌++◌, append_assoc}
use mathlib.Core.Path.{◌≡◌, refl, sym, ap, ◌∙◌}
use borrow.Author.Tests.{le-leb, eqb-true}
use lib.Dec.{leb, eqb}
use lib.ListN.{length, take, length-append}
use lib.Seq.{drop_at}
use Rattle.octets.proofs.Booleans.{both_true}
use Rattle.block.specs.Command.{Command, command_of, is_read}
use Rattle.block.specs.Encoding.{change, parameter, encode_command, encode_commands_from, first_function, encode_commands, encodable_command, every}
use Rattle.block.specs.Reading.{with_value, whole, is_some}
use Rattle.block.specs.Request.{items, default_length, only_reads}
use Rattle.block.proofs.Commands.{skip}
use Rattle.block.proofs.Places.{some_more}
use Rattle.block.proofs.RoundTrips.{encodable_parts}

abbrev well_formed : ℕ → List ℕ → Bool
well_formed page block = is_some (whole (items 1 page 1 block 0))

-- a value that is there in full
after_value :
    (page low n : ℕ) (value rest : List ℕ) → n ≡ length value
    → is_some (whole (with_value (command_of 1 page low) n (value ++ rest) (items 1 page 1 (value ++ rest) n))) ≡ well_formed page rest
unfolding whole
after_value page low n value rest e =
    let fits : n ≤ length (value ++ rest) = simp length-append (omega arith) in
    rw (le-leb n (length (value ++ rest)) fits)
    (some_more (command_of 1 page low (take n (value ++ rest))) (whole (items 1 page 1 (value ++ rest) n))
    ∙ ap (λ r. is_some (whole r)) (skip 1 page 1 (value ++ rest) n ∙ ap (λ (l : List ℕ). items 1 page 1 l 0) (drop_at value rest n (sym e))))

after_parameter :
    (page low : ℕ) (value rest : List ℕ) → leb low 0xFB ≡ true → well_formed page (parameter 0 low value ++ rest) ≡ well_formed page rest
unfolding items
after_parameter page low value rest low_byte = by_length (eqb (length value) 0) refl
  where
    by_length : (empty : Bool) → eqb (length value) 0 ≡ empty
        → well_formed page (cond empty (low ∷ value) (0xFE ∷ length value ∷ low ∷ value) ++ rest) ≡ well_formed page rest
    by_length true e = rw low_byte (after_value page low 0 value rest (sym (eqb-true (length value) 0 e)))
    by_length false e = rw (e, low_byte) (after_value page low (length value) value rest refl)

after_page : (page wanted : ℕ) (rest : List ℕ) → well_formed page (change 0xFF page wanted ++ rest) ≡ well_formed wanted rest
unfolding items
after_page page wanted rest = by_page (eqb page wanted) refl
  where
    by_page : (same : Bool) → eqb page wanted ≡ same → well_formed page (cond same [] (0xFF ∷ wanted ∷ []) ++ rest) ≡ well_formed wanted rest
    by_page true e = ap (λ (h : ℕ). well_formed h rest) (eqb-true page wanted e)
    by_page false e = refl

after_read : (page : ℕ) (c : Command) (rest : List ℕ) → encodable_command c ≡ true → c.function ≡ 1
    → well_formed page (encode_command page 1 c ++ rest) ≡ well_formed c.page rest
unfolding encode_command
after_read page c rest encodable reads =
    ap (λ (f : ℕ). well_formed page ((change 0xFC 1 f ++ change 0xFF page c.page ++ parameter (default_length f) c.low c.value) ++ rest)) reads
    ∙ ap (well_formed page) (append_assoc (change 0xFF page c.page) (parameter 0 c.low c.value) rest)
    ∙ after_page page c.page (parameter 0 c.low c.value ++ rest)
    ∙ after_parameter c.page c.low c.value rest (encodable_parts c encodable).1.low_byte

all_formed : (page : ℕ) (cs : List Command) → every encodable_command cs ≡ true → every is_read cs ≡ true → well_formed page (encode_commands_from page 1 cs) ≡ true
unfolding every encode_commands_from whole items
all_formed page [] encodable reads = refl
all_formed page (c ∷ cs) encodable reads =
    let forms = both_true (encodable_command c) (every encodable_command cs) encodable in
    let read = both_true (is_read c) (every is_read cs) reads in
    let one : c.function ≡ 1 = eqb-true c.function 1 read.0 in
    after_read page c (encode_commands_from c.page c.function cs) forms.0 one
    ∙ ap (λ (f : ℕ). well_formed c.page (encode_commands_from c.page f cs)) one
    ∙ all_formed c.page cs forms.1 read.1

first_one : (cs : List Command) → every is_read cs ≡ true → first_function cs ≡ 1
unfolding every
first_one [] reads = refl
first_one (c ∷ cs) reads = eqb-true c.function 1 (both_true (is_read c) (every is_read cs) reads).0

pub reads_only : (cs : List Command) → every encodable_command cs ≡ true → every is_read cs ≡ true → only_reads (first_function cs) (encode_commands cs) ≡ true
reads_only cs encodable reads =
    ap (λ (f : ℕ). eqb f 1 && is_some (whole (items 1 0 f (encode_commands_from 0 f cs) 0))) (first_one cs reads) ∙ all_formed 0 cs encodable reads
