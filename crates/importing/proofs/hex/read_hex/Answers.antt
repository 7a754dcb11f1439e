use Prim.Native.Nat.{ℕ, ◌<◌, ◌+◌, ◌%◌}
use native.Mathlib.Numerals.{add-one}
use native.Mathlib.Omega.{arith}
use mathlib.Core.Bool.{true, false, and-false}
use mathlib.Core.List.{List}
use mathlib.Core.Path.{◌≡◌, sym, ap, ◌∙◌}
use borrow.Author.Tests.{eq-eqb, le-leb, lt-leb}
use lib.ListN.{length, set}
use lib.Seq.{paste, paste-suc, take-length}
use Rattle.tables.specs.Importing.{all_hex, bytes_in}
use Rattle.importing.specs.Hex.{readable, ReadsHex}
use Rattle.importing.proofs.HexDigits.{bytes_size}
use Rattle.importing.proofs.hex.read_hex.Goals as goal

-- nothing is read
not_read : {buffer digits : List ℕ} → readable buffer digits ≡ false → ReadsHex buffer digits false buffer
not_read e = record { answered = sym e; held = rw e }

pub returns-then-bytes-count : goal.returns-then-bytes-count
returns-then-bytes-count c =
    let args = c.args in
    not_read (rw (lt-leb (0 + length (bytes_in args.digits.now)) (length args.bytes.now) (omega (arith, bytes_size args.digits.now)), and-false _))

pub loop-i-preserved : goal.loop-i-preserved
loop-i-preserved c =
    let buffer = c.args.bytes.now in
    let bytes = bytes_in c.args.digits.now in
    let here : c.loop-i.i ≡ 0 + c.loop-i.i = omega arith in
    let within : c.loop-i.i < length bytes = omega (arith, bytes_size c.args.digits.now) in
    (λ i. set (c.loop-i.invariant i) (here i) (c.byte_in.ensures i))
    ∙ paste-suc buffer 0 bytes c.loop-i.i 0 (omega arith) within
    ∙ ap (paste buffer 0 bytes) (sym (add-one c.loop-i.i))

pub returns : goal.returns
returns c =
    let buffer = c.args.bytes.now in
    let digits = c.args.digits.now in
    let bytes = bytes_in digits in
    let all : c.loop-i.i ≡ length bytes = omega (arith, bytes_size digits) in
    let hex : all_hex digits ≡ true = sym c.all_hex.ensures ∙ c.if-not-all_hex.false in
    let even : length digits % 2 ≡ 0 = omega arith in
    let yes : readable buffer digits ≡ true = rw (hex, eq-eqb _ _ even, le-leb (0 + length bytes) (length buffer) (omega arith)) in
    record { answered = sym yes; held = rw yes (c.loop-i.invariant ∙ rw (all, take-length)) }
