-- What the writers leave in a buffer.
use Prim.Native.Nat.{ℕ, ◌+◌, ◌≤◌}
use native.Mathlib.Numerals.{unary_clauses}
use native.Mathlib.Omega.{arith}
use mathlib.Core.Bool.{Bool, true, false}
use mathlib.Core.List.{List, [], ◌++◌, append-nil}
use mathlib.Core.Option.{Option, none, some}
use mathlib.Core.Path.{◌≡◌, sym, ap, ◌∙◌}
use borrow.Author.Tests.{leb-true, le-ltb}
use lib.ListN.{length, length-append, take-append-drop}
use Rattle.octets.specs.Octets.{overwrite, Overwrites, fits}
use Rattle.octets.proofs.Overwriting.{overwrites, overwrite_after, length_overwrite}
use Rattle.refusals.specs.declared.Refusal.{Refusal}
use Rattle.captures.specs.Writing.{Writes, too_short}
use Rattle.std.specs.Prelude.{Ok, Err}

-- what the answer of a writer tells: nothing is written where it is refused
pub refused_kept : {refused : Option Refusal} {bytes buffer after : List ℕ} {refusal : Refusal} → Writes refused bytes buffer (Err refusal) after → after ≡ buffer
refused_kept {refused = some first} written = written.held
refused_kept {refused = none} written = let never = written.answered in cc

pub written_as :
    {refused : Option Refusal} {bytes buffer after : List ℕ} {size : ℕ} → refused ≡ none → size ≡ length bytes → after ≡ overwrite buffer 0 bytes
    → Writes refused bytes buffer (Ok size) after
written_as e sized held = record { answered = rw e (ap Ok sized); held = rw e held }

-- bytes that fit
module _ {buffer bytes after : List ℕ} {answer : Bool} (done : Overwrites buffer 0 bytes answer after) where
  pub put : answer ≡ true → (too_short buffer bytes ≡ false) × (after ≡ overwrite buffer 0 bytes)
  put h =
      let inside : fits buffer 0 bytes ≡ true = sym done.answered ∙ h in
      (le-ltb (length buffer) (length bytes) (omega (arith, leb-true (0 + length bytes) (length buffer) inside)), done.held ∙ rw inside)

-- bytes put behind others, where both have room
module _ (buffer first second : List ℕ) {after : List ℕ} (roomy : length first + length second ≤ length buffer) (put_first : after ≡ overwrite buffer 0 first) where
  pub second_fits : length first + length second ≤ length after
  second_fits = omega (arith, roomy, ap length put_first, length_overwrite buffer 0 first (omega (arith, roomy)))

  pub both_put : {start end : ℕ} {last : List ℕ} → start ≡ length first → end ≡ start + length second → last ≡ overwrite after start second → (end ≡ length (first ++ second)) × (last ≡ overwrite buffer 0 (first ++ second))
  both_put {start} starts ends e =
      let place : start ≡ 0 + length first = omega (arith, starts) in (
        omega (arith, ends, starts, length-append first second),
        e ∙ rw (put_first, place) (overwrite_after buffer 0 first second (omega (arith, roomy))),
      )

-- bytes put one after another: what is still to be put, put where it belongs, makes the whole
pub record PutFrom (buffer : List ℕ) (at : ℕ) (all now : List ℕ) (place : ℕ) (rest : List ℕ) : Type 0 where
  pub ends : place + length rest ≡ at + length all
  pub fits_in : place + length rest ≤ length now
  pub same_room : length now ≡ length buffer
  pub held : overwrite now place rest ≡ overwrite buffer at all

module _ {buffer : List ℕ} {at : ℕ} {all now : List ℕ} {place : ℕ} {rest : List ℕ} (first more : List ℕ) (so_far : PutFrom buffer at all now place rest) (parts : rest ≡ first ++ more) where
  pub next_fits : place + length first ≤ length now
  next_fits = omega (arith, so_far.fits_in, ap length parts, length-append first more)

  pub put_on : {next : ℕ} {after : List ℕ} {answer : Bool} → next ≡ place + length first → Overwrites now place first answer after → PutFrom buffer at all after next more
  put_on {next} {after} on done =
      let both : length rest ≡ length first + length more = ap length parts ∙ length-append first more in
      let here : after ≡ overwrite now place first = overwrites done next_fits in
      let size : length after ≡ length now = ap length here ∙ length_overwrite now place first next_fits in
      record {
        ends = omega (arith, so_far.ends);
        fits_in = omega (arith, so_far.fits_in);
        same_room = size ∙ so_far.same_room;
        held = rw (here, on) (overwrite_after now place first more next_fits ∙ ap (overwrite now place) (sym parts) ∙ so_far.held);
      }

pub put_all : {buffer : List ℕ} {at : ℕ} {all now : List ℕ} {place : ℕ} {rest : List ℕ} → PutFrom buffer at all now place rest → rest ≡ [] → (place ≡ at + length all) × (now ≡ overwrite buffer at all)
put_all {buffer} {at} {all} {now} {place} {rest} so_far none_left =
    let nothing : length rest ≡ 0 = ap length none_left in
    let kept : overwrite now place [] ≡ now = simp (unary_clauses, append-nil) (take-append-drop place now) in
    (omega (arith, so_far.ends), sym kept ∙ ap (overwrite now place) (sym none_left) ∙ so_far.held)
