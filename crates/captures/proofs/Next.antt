-- What stands first in what is left of a capture's records, case by case.
use Prim.Native.Nat.{ℕ, ◌+◌, ◌-◌, ◌<◌, ◌≤◌}
use native.Mathlib.Omega.{arith}
use mathlib.Core.Bool.{Bool, true, false, cond, not}
use mathlib.Core.List.{List}
use mathlib.Core.Path.{◌≡◌, refl}
use borrow.Author.Tests.{ltb-false}
use lib.Dec.{ltb, eqb}
use lib.ListN.{length}
use Rattle.captures.specs.declared.reading.NextRecord.{NextRecord}
use Rattle.captures.specs.declared.reading.NextRecord.TheVariants as next
use Rattle.captures.specs.Form.{packet_at}
use Rattle.captures.specs.Reading.{index_in, direction_in, counter_in, size_in, in_range, next_record}
use Rattle.captures.specs.declared.Version.{Version}
use Rattle.captures.proofs.Ranges.{ranges}

-- where a record stands
pub record Placed (bytes : List ℕ) (packet rest : ℕ) : Type 0 where
  pub packet_in : packet ≤ length bytes
  pub rest_after : rest ≤ packet
  pub shorter : rest < length bytes
  pub short : packet - rest ≤ 256

pub placed :
    (version : Version) (boards : ℕ) (bytes : List ℕ) {index direction counter packet rest : ℕ}
    → next_record version boards bytes ≡ next.Record index direction counter packet rest → Placed bytes packet rest
placed version boards bytes {index} {direction} {counter} {packet} {rest} e =
    by_tests (eqb (length bytes) 0) (ltb (length bytes) (packet_at version)) (in_range version boards bytes) (ltb (length bytes) (packet_at version + size_in version bytes)) refl refl refl e
  where
    found : NextRecord
    found = next.Record (index_in version bytes) (direction_in version bytes) (counter_in version bytes) (length bytes - packet_at version) (length bytes - (packet_at version + size_in version bytes))

    by_tests :
        (end head right cut : Bool) → ltb (length bytes) (packet_at version) ≡ head → in_range version boards bytes ≡ right → ltb (length bytes) (packet_at version + size_in version bytes) ≡ cut
        → cond end next.End (cond head next.Cut (cond (not right) next.Wrong (cond cut next.Cut found))) ≡ next.Record index direction counter packet rest
        → Placed bytes packet rest
    by_tests true head right cut h r k e = let impossible : ◌≡◌ {A = ℕ} 0 1 = cc in absurd (omega arith)
    by_tests false true right cut h r k e = let impossible : ◌≡◌ {A = ℕ} 0 1 = cc in absurd (omega arith)
    by_tests false false false cut h r k e = let impossible : ◌≡◌ {A = ℕ} 0 1 = cc in absurd (omega arith)
    by_tests false false true true h r k e = let impossible : ◌≡◌ {A = ℕ} 0 1 = cc in absurd (omega arith)
    by_tests false false true false h r k e =
        let at : length bytes - packet_at version ≡ packet = cc in
        let after : length bytes - (packet_at version + size_in version bytes) ≡ rest = cc in
        let whole : packet_at version + size_in version bytes ≤ length bytes = ltb-false _ _ k in
        let fields = ranges boards (index_in version bytes) (direction_in version bytes) (size_in version bytes) r in
        record { packet_in = omega arith; rest_after = omega arith; shorter = omega arith; short = omega (arith, fields.long) }
