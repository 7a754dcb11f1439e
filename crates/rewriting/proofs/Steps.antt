-- What is left of a capture's records, one after another.
use Rattle.std.proofs.Common.{◌≡◌, ℕ, ◌+◌, ◌-◌, ◌≤◌, Bool, true, false, cond, List, [], ◌++◌, Option, None, Some, refl, ap, ◌∙◌, length, take, drop, arith, length-append, length-drop}
use borrow.Author.Tests.{lt-ltb, le-ltb, ltb-true, ltb-false}
use lib.Dec.{ltb}
use lib.Seq.{length-take-le}
use Rattle.captures.specs.Form.{newest, packet_at, Record, record_of, record_bytes, records_bytes}
use Rattle.captures.specs.Reading.{read, records_of, wrong_record, next_record}
use Rattle.captures.specs.Statements.{read_after}
use Rattle.captures.specs.declared.Version.{Version}
use Rattle.captures.specs.declared.reading.NextRecord.{NextRecord}
use Rattle.captures.specs.declared.reading.NextRecord.TheVariants as next
use Rattle.captures.proofs.Lists.{length_record}
use Rattle.captures.proofs.Next.{placed}
use Rattle.captures.proofs.Records.{read_step}
use Rattle.captures.proofs.Told.{cut_some}
use Rattle.rewriting.specs.Rewriting.{records_read, fitted}
use Rattle.rewriting.specs.declared.Extent.{Extent}
use Rattle.rewriting.specs.declared.Extent.TheVariants as extent

-- the room that is left after some bytes
less_room :
    {A : Type 0} (room first more : ℕ) (short long : A)
    → cond (ltb room (first + more)) short long ≡ cond (ltb room first) short (cond (ltb (room - first) more) short long)
less_room room first more short long = by_tests (ltb room first) (ltb (room - first) more) refl refl
  where
    by_tests : (s t : Bool) → ltb room first ≡ s → ltb (room - first) more ≡ t → cond (ltb room (first + more)) short long ≡ cond s short (cond t short long)
    by_tests true t e f = rw (lt-ltb room (first + more) (omega (arith, ltb-true room first e)))
    by_tests false true e f = rw (lt-ltb room (first + more) (omega (arith, ltb-false room first e, ltb-true (room - first) more f)))
    by_tests false false e f = rw (le-ltb room (first + more) (omega (arith, ltb-false room first e, ltb-false (room - first) more f)))

module _ (version : Version) (boards : ℕ) (rest : List ℕ) where
  -- the record that stands first, and what stands behind it
  abbrev pub found : ℕ → ℕ → ℕ → ℕ → ℕ → Record
  found index direction counter packet after = record_of index direction counter (take (packet - after) (drop (length rest - packet) rest))

  abbrev pub behind : ℕ → List ℕ
  behind after = drop (length rest - after) rest

  -- the bytes of what is read, and how much of it fits, by what stands first
  abbrev pub records_by : NextRecord → List ℕ
  records_by next.End = []
  records_by next.Cut = []
  records_by next.Wrong = []
  records_by (next.Record index direction counter packet after) =
      record_bytes newest (found index direction counter packet after) ++ records_read (read version boards (behind after))

  abbrev pub fitted_by : ℕ → NextRecord → Option Extent
  fitted_by room next.End = Some extent.Whole
  fitted_by room next.Cut = Some extent.Part
  fitted_by room next.Wrong = Some extent.Part
  fitted_by room (next.Record index direction counter packet after) =
      cond (ltb room (packet_at newest + (packet - after))) None (fitted (room - (packet_at newest + (packet - after))) (read version boards (behind after)))

  pub records_step : records_read (read version boards rest) ≡ records_by (next_record version boards rest)
  unfolding records_of records_bytes
  records_step = ap records_read (read_step version boards rest) ∙ by_found (next_record version boards rest)
    where
      by_found : (first : NextRecord) → records_read (read_after (read version boards) rest first) ≡ records_by first
      by_found next.End = refl
      by_found next.Cut = refl
      by_found next.Wrong = refl
      by_found (next.Record index direction counter packet after) = refl

  module _ {index direction counter packet after : ℕ} (e : next_record version boards rest ≡ next.Record index direction counter packet after) where
    pub size : length (record_bytes newest (found index direction counter packet after)) ≡ packet_at newest + (packet - after)
    size =
        let whole : packet - after ≤ length (drop (length rest - packet) rest) = simp length-drop (omega (arith, (placed version boards rest e).packet_in)) in
        length_record newest (found index direction counter packet after)
        ∙ ap (λ (n : ℕ). packet_at newest + n) (length-take-le (packet - after) (drop (length rest - packet) rest) whole)

  pub fitted_step : (room : ℕ) → fitted room (read version boards rest) ≡ fitted_by room (next_record version boards rest)
  unfolding fitted records_of records_bytes wrong_record
  fitted_step room = ap (fitted room) (read_step version boards rest) ∙ by_found (next_record version boards rest) refl
    where
      by_found : (first : NextRecord) → next_record version boards rest ≡ first → fitted room (read_after (read version boards) rest first) ≡ fitted_by room first
      by_found next.End e = rw (le-ltb room 0 (omega arith))
      by_found next.Cut e = rw (le-ltb room 0 (omega arith), cut_some version boards rest e)
      by_found next.Wrong e = rw (le-ltb room 0 (omega arith))
      by_found (next.Record index direction counter packet after) e =
          let more = records_read (read version boards (behind after)) in
          let longer : length (record_bytes newest (found index direction counter packet after) ++ more) ≡ packet_at newest + (packet - after) + length more =
          omega (arith, length-append (record_bytes newest (found index direction counter packet after)) more, size e) in
          rw longer (less_room room (packet_at newest + (packet - after)) (length more) None _)
