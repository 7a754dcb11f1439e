-- What is left of some room after the rows of a capture's records, one record after another.
use Prim.Native.Nat.{ℕ}
use mathlib.Core.List.{List, []}
use mathlib.Core.Logic.{◌⊎◌, inl, inr}
use mathlib.Core.Path.{◌≡◌, refl, sym, ap, ◌∙◌}
use Rattle.std.specs.Prelude.{Option, Some, None}
use Rattle.block.specs.Reading.{part_of}
use Rattle.captures.specs.Form.{record_of}
use Rattle.captures.specs.Reading.{Reading, left, wrong, read, records_of, next_record}
use Rattle.captures.specs.declared.Version.{Version}
use Rattle.captures.specs.declared.reading.NextRecord.TheVariants as next
use Rattle.captures.proofs.Records.{read_by}
use Rattle.exporting.specs.Text.{record_lines, room_after}
use Rattle.exporting.proofs.Rooms.{none_after, room_none, room_on}
use Rattle.exporting.proofs.Steps.{lines_read, none_read, first, lines_on}

-- so much room is left for these records; with it all are told
module _
    (version : Version) (boards : ℕ) (ids rest : List ℕ) (space : ℕ) {whole : Option ℕ}
    (so_far : whole ≡ room_after space (lines_read ids (read version boards rest)))
  where
    -- no record is left
    fits_all : (last : Reading) → read version boards rest ≡ last → records_of last ≡ [] → Some space ≡ whole
    fits_all last e none = none_after space (none_read version boards rest ids last e none) ∙ sym so_far

    pub fits_end :
        (next_record version boards rest ≡ next.End) ⊎ ((next_record version boards rest ≡ next.Cut) ⊎ (next_record version boards rest ≡ next.Wrong))
        → Some space ≡ whole
    unfolding records_of
    fits_end (inl e) = fits_all (left []) (read_by version boards rest e) refl
    fits_end (inr (inl e)) = fits_all (left rest) (read_by version boards rest e) refl
    fits_end (inr (inr e)) = fits_all wrong (read_by version boards rest e) refl

    -- a record stands first, and its rows were asked
    module _
        {index direction counter packet after : ℕ} (e : next_record version boards rest ≡ next.Record index direction counter packet after)
        {bytes : List ℕ} (part : bytes ≡ part_of packet after rest) {answer : Option ℕ}
        (asked : answer ≡ room_after space (record_lines ids (record_of index direction counter bytes)))
      where
        told : answer ≡ room_after space (record_lines ids (first version boards rest ids e))
        told = asked ∙ ap (λ (l : List ℕ). room_after space (record_lines ids (record_of index direction counter l))) part

        pub fits_none : answer ≡ None → None ≡ whole
        fits_none h =
            room_none space (record_lines ids (first version boards rest ids e)) _ (sym told ∙ h)
            ∙ ap (room_after space) (sym (lines_on version boards rest ids e)) ∙ sym so_far

        pub fits_on : {more : ℕ} → answer ≡ Some more → whole ≡ room_after more (lines_read ids (read version boards (part_of after 0 rest)))
        fits_on h =
            so_far ∙ ap (room_after space) (lines_on version boards rest ids e)
            ∙ room_on space (record_lines ids (first version boards rest ids e)) _ (sym told ∙ h)
