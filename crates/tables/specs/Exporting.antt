-- The table of a capture: a row for each report of each accepted response.
use Rattle.std.specs.Prelude.{ℕ, ◌+◌, ◌*◌, Bool, cond, ◌&&◌, List, [], ◌∷◌, ◌++◌, map, Option as OptionInCode, eqb, take, drop}
use Rattle.std.proofs.Math.Option.{Option, none, some, get_or}
use Rattle.refusals.specs.declared.Refusal.{Refusal}
use Rattle.block.specs.Command.{Report}
use Rattle.framing.specs.Refusal.{in_code}
use Rattle.block.specs.Reading.{is_some}
use Rattle.captures.specs.Form.{Record}
use Rattle.captures.specs.Reading.{ids_in, records_in, capture_refusal}
use Rattle.tool.specs.Response.{any_response_refusal, reports_of}
use Rattle.tables.specs.Rows.{Row, row_of, table_of}

abbrev pub is_response : Record → Bool
is_response r = eqb r.direction 1

-- the ID of the board with this index
abbrev pub id_of : List ℕ → ℕ → List ℕ
id_of ids index = take 16 (drop (16 * index) ids)

-- the reports of a response as the listing reads it; none where it is refused
abbrev pub reports_as : Option Refusal → List ℕ → List Report
reports_as none packet = get_or (reports_of packet) []
reports_as (some refusal) packet = []

abbrev pub reports_in : Record → List Report
reports_in r = cond (is_response r) (reports_as (any_response_refusal r.packet) r.packet) []

-- the board is the capture's, not the packet's
abbrev pub record_rows : List ℕ → Record → List Row
record_rows ids r = map (row_of (id_of ids r.index) r.direction r.counter) (reports_in r)

unfoldable pub rows_from : List ℕ → List Record → List Row
rows_from ids [] = []
rows_from ids (r ∷ rs) = record_rows ids r ++ rows_from ids rs

abbrev pub is_refused : Record → Bool
is_refused r = is_response r && is_some (any_response_refusal r.packet)

-- how many responses are refused
unfoldable pub refused_count : List Record → ℕ
refused_count [] = 0
refused_count (r ∷ rs) = cond (is_refused r) 1 0 + refused_count rs

abbrev pub rows_of : List ℕ → List Row
rows_of capture = rows_from (ids_in capture) (records_in capture)

-- the export of a capture; of one that is refused, of the records before the refusal
abbrev pub export_of : List ℕ → List ℕ
export_of capture = table_of (rows_of capture)

abbrev pub refused_in : List ℕ → ℕ
refused_in capture = refused_count (records_in capture)

-- the capture's refusal, and its number, 0 for none
abbrev pub capture_told : List ℕ → OptionInCode Refusal
capture_told capture = in_code (capture_refusal capture)
