-- A capture put into a buffer: its head, and its records behind it.
use Rattle.std.proofs.Common.{◌≡◌, ℕ, ◌+◌, ◌≤◌, List, ◌++◌, Bool, sym, length, arith, length-append}
use Rattle.octets.specs.Octets.{overwrite, Overwrites}
use Rattle.octets.proofs.Overwriting.{overwrites}
use Rattle.captures.specs.Form.{newest, ids_at, head_bytes}
use Rattle.captures.proofs.Buffers.{second_fits, both_put}
use Rattle.captures.proofs.Lists.{length_head}

module _
    (buffer ids records : List ℕ) (roomy : length (head_bytes newest ids ++ records) ≤ length buffer) {answer : Bool} {headed : List ℕ}
    (head : Overwrites buffer 0 (head_bytes newest ids) answer headed)
  where
    both_fit : length (head_bytes newest ids) + length records ≤ length buffer
    both_fit = omega (arith, roomy, length-append (head_bytes newest ids) records)

    head_there : headed ≡ overwrite buffer 0 (head_bytes newest ids)
    head_there = overwrites head (omega (arith, both_fit))

    pub records_fit : ids_at newest + length ids + length records ≤ length headed
    records_fit = omega (arith, second_fits buffer (head_bytes newest ids) records both_fit head_there, length_head newest ids)

    pub all_put :
        {end : ℕ} {last : List ℕ} → end ≡ ids_at newest + length ids + length records → last ≡ overwrite headed (ids_at newest + length ids) records
        → (end ≡ length (head_bytes newest ids ++ records)) × (last ≡ overwrite buffer 0 (head_bytes newest ids ++ records))
    all_put = both_put buffer (head_bytes newest ids) records both_fit head_there (sym (length_head newest ids))
