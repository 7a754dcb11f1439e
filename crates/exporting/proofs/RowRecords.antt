-- The rows of a record: none of a request or of a response that is refused, those of its block of one that is accepted.
use Prim.Native.Nat.{ℕ, ◌+◌, ◌-◌, ◌≤◌}
use native.Mathlib.Omega.{arith}
use mathlib.Core.Bool.{Bool, true, false}
use mathlib.Core.List.{List, []}
use mathlib.Core.Option.{get_or}
use mathlib.Core.Path.{◌≡◌, ap}
use borrow.Author.Tests.{le-leb, eq-eqb, ne_eqb}
use lib.ListN.{length, take, drop, length-take}
use lib.Seq.{take_at}
use Rattle.std.specs.Prelude.{Some, Result, Ok, Err}
use Rattle.octets.specs.Octets.{overwrite}
use Rattle.captures.specs.Form.{record_of}
use Rattle.tool.specs.Response.{any_response_refusal, any_response_of, reports_of}
use Rattle.tool.specs.declared.response.Block.{Block}
use Rattle.refusals.specs.declared.Refusal.{Refusal}
use Rattle.framing.specs.Packet.{places_of}
use Rattle.tool.proofs.Listings.{accepts, refused_as}
use Rattle.numerals.proofs.Decimals.{decimal_short}
use Rattle.tables.specs.Rows.{row_lines}
use Rattle.tables.specs.Exporting.{id_of, is_refused}
use Rattle.exporting.specs.Text.{record_lines, room_after}
use Rattle.exporting.specs.RowText.{row_start, left_text, Puts}
use Rattle.exporting.proofs.RowTexts.{length_start, rows_text, put_none, all_put}

-- an ID has 16 bytes at the most, and so the start of a row 66
pub id_short : (ids : List ℕ) (index : ℕ) → length (id_of ids index) ≤ 16
id_short ids index = simp length-take (omega arith)

pub start_short : (ids : List ℕ) (index counter : ℕ) → length (row_start (id_of ids index) counter) ≤ 66
start_short ids index counter = omega (arith, length_start (id_of ids index) counter, id_short ids index, decimal_short 20 counter)

-- what was put first stands first
pub put_first : {text bytes after : List ℕ} {end : ℕ} → Puts text 0 bytes end after → take end after ≡ bytes
put_first {text} {bytes} {end = end} done = rw done.held (take_at bytes (drop (0 + length bytes) text) end (omega (arith, done.ends)))

-- the text of the rows of a record, and whether it is refused
pub record Rows (ids : List ℕ) (index direction counter : ℕ) (packet text : List ℕ) (refused : Bool) : Type 0 where
  pub lines : record_lines ids (record_of index direction counter packet) ≡ text
  pub judged : refused ≡ is_refused (record_of index direction counter packet)

module _ (ids : List ℕ) (index direction counter : ℕ) (packet : List ℕ) where
  pub request_rows : (direction ≡ 1 → ⊥) → Rows ids index direction counter packet [] false
  unfolding row_lines
  request_rows h =
      let other = ne_eqb direction 1 h in
      record { lines = rw other; judged = rw other }

  module _ (h : direction ≡ 1) {answer : Result Block Refusal} (e : answer ≡ any_response_of packet) where
    pub refused_rows : {refusal : Refusal} → answer ≡ Err refusal → Rows ids index direction counter packet [] true
    unfolding row_lines
    refused_rows k =
        let is = eq-eqb direction 1 h in
        let told = refused_as (any_response_refusal packet) (places_of packet) e k in
        record { lines = rw (is, told); judged = rw (is, told) }

    pub accepted_rows :
        {found : Block} → answer ≡ Ok found
        → Rows ids index direction counter packet (left_text (row_start (id_of ids index) counter) 0 (take (found.end - found.block) (drop found.block packet))) false
    accepted_rows k =
        let is = eq-eqb direction 1 h in
        let known = accepts packet e k in
        record {
          lines = rw (is, known.passed, h, known.reported) (rows_text (id_of ids index) counter (get_or (reports_of packet) []));
          judged = rw (is, known.passed);
        }

-- what a call leaves that put the rows, or has none to put
pub record Leaves (ids : List ℕ) (index direction counter : ℕ) (packet : List ℕ) (buffer : List ℕ) (at : ℕ) (end : ℕ) (refused : Bool) (after : List ℕ) : Type 0 where
  pub ends : end ≡ at + length (record_lines ids (record_of index direction counter packet))
  pub judged : refused ≡ is_refused (record_of index direction counter packet)
  pub held : after ≡ overwrite buffer at (record_lines ids (record_of index direction counter packet))

module _ {ids : List ℕ} {index direction counter : ℕ} {packet text : List ℕ} {refused : Bool} (rows : Rows ids index direction counter packet text refused) where
  pub rows_put : {buffer after : List ℕ} {at end : ℕ} → Puts buffer at text end after → Leaves ids index direction counter packet buffer at end refused after
  rows_put done = record { ends = rw rows.lines done.ends; judged = rows.judged; held = rw rows.lines done.held }

  pub rows_fit :
      (buffer : List ℕ) (at : ℕ) → at + length (record_lines ids (record_of index direction counter packet)) ≤ length buffer → at + length text ≤ length buffer
  rows_fit buffer at h = rw rows.lines at h

module _ {ids : List ℕ} {index direction counter : ℕ} {packet : List ℕ} {refused : Bool} (rows : Rows ids index direction counter packet [] refused) where
  pub none_put :
      (buffer : List ℕ) (at : ℕ) → at + length (record_lines ids (record_of index direction counter packet)) ≤ length buffer
      → Leaves ids index direction counter packet buffer at at refused buffer
  none_put buffer at h = rows_put rows (all_put (put_none buffer at [] (rows_fit rows buffer at h)))

  pub room_kept : (room : ℕ) → Some room ≡ room_after room (record_lines ids (record_of index direction counter packet))
  room_kept room = rw (rows.lines, le-leb 0 room (omega arith)) (ap Some (omega arith))
