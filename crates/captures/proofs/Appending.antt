-- A capture of one record more.
use Prim.Native.Nat.{ℕ}
use mathlib.Core.List.{List, [], ◌∷◌, ◌++◌, append_assoc, append-nil}
use mathlib.Core.Path.{◌≡◌, sym, ap, ◌∙◌}
use Rattle.captures.specs.Form.{Record, record_bytes, records_bytes, head_bytes}
use Rattle.captures.specs.Statements.{RecordsAppend}
use Rattle.captures.specs.declared.Version.{Version}

records_append : (version : Version) (records : List Record) (r : Record) → records_bytes version (records ++ r ∷ []) ≡ records_bytes version records ++ record_bytes version r
unfolding records_bytes
records_append version [] r = append-nil (record_bytes version r)
records_append version (first ∷ records) r =
    ap (λ (l : List ℕ). record_bytes version first ++ l) (records_append version records r) ∙ sym (append_assoc (record_bytes version first) (records_bytes version records) (record_bytes version r))

pub append_record : RecordsAppend
unfolding records_bytes
append_record version ids =
    record {
      none_yet = append-nil (head_bytes version ids);
      one_more = λ records r.
          ap (λ (l : List ℕ). head_bytes version ids ++ l) (records_append version records r) ∙ sym (append_assoc (head_bytes version ids) (records_bytes version records) (record_bytes version r));
    }
