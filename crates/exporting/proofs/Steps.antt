-- The rows of a capture's records, one record after another.
use Prim.Native.Nat.{ℕ, ◌+◌, ◌≤◌}
use native.Mathlib.Omega.{arith}
use mathlib.Core.Bool.{Bool, true, false, cond}
use mathlib.Core.List.{List, [], ◌∷◌, ◌++◌, append_assoc}
use mathlib.Core.Path.{◌≡◌, refl, sym, ap, ◌∙◌}
use borrow.Author.Tests.{le-ltb, ltb-true, ltb-false}
use lib.Dec.{ltb}
use lib.ListN.{length}
use Rattle.octets.specs.Octets.{overwrite}
use Rattle.octets.proofs.Overwriting.{with_room}
use Rattle.block.specs.Reading.{part_of}
use Rattle.captures.specs.Form.{Record, record_of}
use Rattle.captures.specs.Reading.{Reading, read, records_of, next_record}
use Rattle.captures.specs.declared.Version.{Version}
use Rattle.captures.specs.declared.reading.NextRecord.TheVariants as next
use Rattle.captures.proofs.Buffers.{PutFrom, next_fits, put_on, put_all}
use Rattle.counts.specs.Counting.{count_limit, end_of}
use Rattle.counts.proofs.Counted.{found, read_on}
use Rattle.tables.specs.Rows.{Row, row_line, row_lines}
use Rattle.tables.specs.Exporting.{record_rows, rows_from, is_refused, refused_count}
use Rattle.exporting.specs.Text.{record_lines, records_lines}
use Rattle.exporting.specs.Exporting.{capped, refused_after, PutsRecords}
use Rattle.exporting.specs.declared.Records.{Records}

pub lines_joined : (first second : List Row) → row_lines (first ++ second) ≡ row_lines first ++ row_lines second
unfolding row_lines
lines_joined [] second = refl
lines_joined (r ∷ rs) second =
    ap (λ (l : List ℕ). row_line r ++ l) (lines_joined rs second) ∙ sym (append_assoc (row_line r) (row_lines rs) (row_lines second))

pub one_more : (ids : List ℕ) (r : Record) (rs : List Record) → records_lines ids (r ∷ rs) ≡ record_lines ids r ++ records_lines ids rs
unfolding rows_from
one_more ids r rs = lines_joined (record_rows ids r) (rows_from ids rs)

-- the lines of what is read of some bytes
abbrev pub lines_read : List ℕ → Reading → List ℕ
lines_read ids reading = records_lines ids (records_of reading)

-- one refused response more makes no difference past the limit
pub capped_whole : (count : ℕ) → count ≤ count_limit → count ≡ capped (count + 0)
capped_whole count h = by_test (ltb (count + 0) count_limit) refl
  where
    by_test : (t : Bool) → ltb (count + 0) count_limit ≡ t → count ≡ cond t (count + 0) count_limit
    by_test true e = omega arith
    by_test false e = omega (arith, ltb-false (count + 0) count_limit e)

pub capped_full : (n : ℕ) → count_limit ≤ n → capped n ≡ count_limit
capped_full n h = rw (le-ltb n count_limit h)

pub capped_on : (count : ℕ) (refused : Bool) (rest : ℕ) → capped (count + (cond refused 1 0 + rest)) ≡ capped (refused_after count refused + rest)
capped_on count false rest = let same : count + (0 + rest) ≡ count + rest = omega arith in ap capped same
capped_on count true rest = by_test (ltb count count_limit) refl
  where
    by_test : (t : Bool) → ltb count count_limit ≡ t → capped (count + (1 + rest)) ≡ capped (cond t (count + 1) count + rest)
    by_test true e = let same : count + (1 + rest) ≡ count + 1 + rest = omega arith in ap capped same
    by_test false e =
        let full : count_limit ≤ count = ltb-false count count_limit e in
        capped_full (count + (1 + rest)) (omega arith) ∙ sym (capped_full (count + rest) (omega arith))

after_small : (count : ℕ) (refused : Bool) → count ≤ count_limit → refused_after count refused ≤ count_limit
after_small count false h = h
after_small count true h = by_test (ltb count count_limit) refl
  where
    by_test : (t : Bool) → ltb count count_limit ≡ t → cond t (count + 1) count ≤ count_limit
    by_test true e = omega (arith, ltb-true count count_limit e)
    by_test false e = h

-- the records that are left make the whole, behind those that were put
pub record PutSoFar (ids : List ℕ) (all : Reading) (text : List ℕ) (at earlier : ℕ) (now : List ℕ) (end refused : ℕ) (rest : Reading) : Type 0 where
  pub put : PutFrom text at (lines_read ids all) now end (lines_read ids rest)
  pub counted : capped (earlier + refused_count (records_of all)) ≡ capped (refused + refused_count (records_of rest))
  pub small : refused ≤ count_limit
  pub ending : end_of all ≡ end_of rest

-- no record is left
pub all_put :
    {ids : List ℕ} {all : Reading} {text : List ℕ} {at earlier : ℕ} {now : List ℕ} {answer : Records} {rest : Reading} (last : Reading) → rest ≡ last
    → records_of last ≡ [] → PutSoFar ids all text at earlier now answer.end answer.refused rest
    → answer.ending ≡ end_of last → PutsRecords ids all text at earlier answer now
unfolding rows_from row_lines refused_count
all_put {ids} {answer = answer} {rest} last e none so_far ended =
    let nothing = ap records_of e ∙ none in
    let both = put_all so_far.put (ap (records_lines ids) nothing) in
    record {
      ends = both.0;
      counted = sym (so_far.counted ∙ ap (λ (rs : List Record). capped (answer.refused + refused_count rs)) nothing ∙ sym (capped_whole answer.refused so_far.small));
      ended = ended ∙ sym (so_far.ending ∙ ap end_of e);
      held = both.1;
    }

module _ (version : Version) (boards : ℕ) (rest : List ℕ) (ids : List ℕ) where
  -- no record is left
  pub none_read : (last : Reading) → read version boards rest ≡ last → records_of last ≡ [] → lines_read ids (read version boards rest) ≡ []
  unfolding rows_from row_lines
  none_read last e none = ap (lines_read ids) e ∙ ap (records_lines ids) none

  -- a record stands first
  module _ {index direction counter packet after : ℕ} (e : next_record version boards rest ≡ next.Record index direction counter packet after) where
    abbrev pub first : Record
    first = found version boards rest e

    pub lines_on : lines_read ids (read version boards rest) ≡ record_lines ids first ++ lines_read ids (read version boards (part_of after 0 rest))
    unfolding records_of
    lines_on = ap (lines_read ids) (read_on version boards rest e) ∙ one_more ids first (records_of (read version boards (part_of after 0 rest)))

    module _
        {all : Reading} {text : List ℕ} {at earlier : ℕ} {now : List ℕ} {end refused : ℕ}
        (so_far : PutSoFar ids all text at earlier now end refused (read version boards rest))
      where
        pub first_fits : end + length (record_lines ids first) ≤ length now
        first_fits = next_fits (record_lines ids first) (lines_read ids (read version boards (part_of after 0 rest))) so_far.put lines_on

        -- as `put_record` put it
        pub put_next :
            {bytes stored : List ℕ} {next_end : ℕ} {was_refused : Bool} → bytes ≡ part_of packet after rest
            → next_end ≡ end + length (record_lines ids (record_of index direction counter bytes))
            → was_refused ≡ is_refused (record_of index direction counter bytes)
            → stored ≡ overwrite now end (record_lines ids (record_of index direction counter bytes))
            → PutSoFar ids all text at earlier stored next_end (refused_after refused was_refused) (read version boards (part_of after 0 rest))
        unfolding records_of refused_count end_of
        put_next {was_refused = was_refused} here ends told stored =
            let after_it = read version boards (part_of after 0 rest) in
            let same : record_of index direction counter _ ≡ first = ap (record_of index direction counter) here in
            record {
              put =
                  put_on (record_lines ids first) (lines_read ids after_it) so_far.put lines_on
                  (ends ∙ ap (λ (r : Record). end + length (record_lines ids r)) same)
                  (with_room first_fits (stored ∙ ap (λ (r : Record). overwrite now end (record_lines ids r)) same));
              counted =
                  so_far.counted
                  ∙ ap (λ (r : Reading). capped (refused + refused_count (records_of r))) (read_on version boards rest e)
                  ∙ ap (λ (t : Bool). capped (refused + (cond t 1 0 + refused_count (records_of after_it)))) (sym (told ∙ ap is_refused same))
                  ∙ capped_on refused was_refused (refused_count (records_of after_it));
              small = after_small refused was_refused so_far.small;
              ending = so_far.ending ∙ ap end_of (read_on version boards rest e);
            }
