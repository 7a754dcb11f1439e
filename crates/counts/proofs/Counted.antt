-- Counting a reading's records one after another.
use Prim.Native.Nat.{ℕ, ◌-◌, ◌<◌}
use native.Mathlib.Nat.{sub-zero}
use native.Mathlib.Omega.{arith}
use mathlib.Core.List.{List, []}
use mathlib.Core.Path.{◌≡◌, refl, sym, ap, ◌∙◌}
use borrow.Author.Tests.{le-leb}
use lib.ListN.{length, take, drop, get_or, length-drop, length-set}
use lib.Seq.{take_all}
use Rattle.std.specs.Prelude.{Ok, Err}
use Rattle.refusals.specs.declared.Refusal.TheVariants.{WrongRecord}
use Rattle.block.specs.Reading.{part_of}
use Rattle.captures.specs.declared.Version.{Version}
use Rattle.captures.specs.declared.reading.NextRecord.TheVariants as next
use Rattle.captures.specs.Form.{Record, record_of}
use Rattle.captures.specs.Reading.{Reading, left, wrong, item, read, records_of, next_record}
use Rattle.captures.proofs.Next.{Placed, placed}
use Rattle.captures.proofs.Records.{read_by}
use Rattle.counts.specs.Counting.{place, more, counted, counted_one, end_of, Counts}

-- counts and ending of what is left are those of the whole
pub record Same (version : Version) (boards : ℕ) (bytes before rest now : List ℕ) : Type 0 where
  pub ending : end_of (read version boards bytes) ≡ end_of (read version boards rest)
  pub counts : counted before (records_of (read version boards bytes)) ≡ counted now (records_of (read version boards rest))
  pub as_many : length now ≡ length before

module _ (version : Version) (boards : ℕ) (rest : List ℕ) where
  -- no record is left: the contract
  ends :
      {bytes before now : List ℕ} (last : Reading) → read version boards rest ≡ last → records_of last ≡ [] → Same version boards bytes before rest now
      → Counts version boards bytes before (end_of last) now
  unfolding counted
  ends {bytes} {before} {now} last e none so_far =
      record {
        answered = sym (so_far.ending ∙ ap end_of e);
        held = sym (so_far.counts ∙ ap (λ (r : Reading). counted now (records_of r)) e ∙ ap (counted now) none);
      }

  module _ {bytes before now : List ℕ} (so_far : Same version boards bytes before rest now) where
    pub ended : next_record version boards rest ≡ next.End → Counts version boards bytes before (Ok 0) now
    unfolding end_of records_of
    ended e = ends (left []) (read_by version boards rest e) refl so_far

    pub cut : next_record version boards rest ≡ next.Cut → Counts version boards bytes before (Ok (length rest)) now
    unfolding end_of records_of
    cut e = ends (left rest) (read_by version boards rest e) refl so_far

    pub outside : next_record version boards rest ≡ next.Wrong → Counts version boards bytes before (Err WrongRecord) now
    unfolding end_of records_of
    outside e = ends wrong (read_by version boards rest e) refl so_far

  module _ {index direction counter packet after : ℕ} (e : next_record version boards rest ≡ next.Record index direction counter packet after) where
    in_place : Placed rest packet after
    in_place = placed version boards rest e

    abbrev pub found : Record
    found = record_of index direction counter (part_of packet after rest)

    packet_part : take (packet - after) (drop (length rest - packet) rest) ≡ part_of packet after rest
    packet_part = rw (le-leb packet (length rest) in_place.packet_in, le-leb after packet in_place.rest_after)

    rest_part : drop (length rest - after) rest ≡ part_of after 0 rest
    rest_part =
        rw (le-leb after (length rest) (omega (arith, in_place.shorter)), le-leb 0 after (omega arith), sub-zero after)
        (sym (take_all after (drop (length rest - after) rest) (simp length-drop (omega (arith, in_place.shorter)))))

    pub read_on : read version boards rest ≡ item found (read version boards (part_of after 0 rest))
    read_on = read_by version boards rest e ∙ λ i. item (record_of index direction counter (packet_part i)) (read version boards (rest_part i))

    pub same_on : {bytes before now : List ℕ} → Same version boards bytes before rest now → Same version boards bytes before (part_of after 0 rest) (counted_one now found)
    unfolding end_of records_of counted
    same_on {bytes} {before} {now} so_far =
        record {
          ending = so_far.ending ∙ ap end_of read_on;
          counts = so_far.counts ∙ ap (λ (r : Reading). counted now (records_of r)) read_on;
          as_many = length-set now (place found) (more (get_or now (place found) 0)) ∙ so_far.as_many;
        }

    pub shorter : length (part_of after 0 rest) < length rest
    shorter =
        let here : length (part_of after 0 rest) ≡ after = ap length (sym rest_part) ∙ simp length-drop (omega (arith, in_place.shorter)) in
        omega (arith, in_place.shorter)
