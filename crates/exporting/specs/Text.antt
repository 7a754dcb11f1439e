-- The text of an export by its parts: the rows of a record.
use Rattle.std.specs.Prelude.{ℕ, ◌-◌, cond, List, Option, Some, None, leb, length}
use Rattle.captures.specs.Form.{Record, record_of}
use Rattle.captures.specs.Reading.{Reading, read, records_of}
use Rattle.exporting.specs.declared.Source.{Source}
use Rattle.exporting.specs.declared.rows.Record.{Record as RecordGiven}
use Rattle.tables.specs.Rows.{row_lines}
use Rattle.tables.specs.Exporting.{record_rows, rows_from}

-- a record, and records, as the code is given them
abbrev pub record_given : RecordGiven → Record
record_given r = record_of r.index r.direction r.counter r.packet.now

abbrev pub reading_given : Source → Reading
reading_given s = read s.version s.boards s.records.now

-- the lines of a record: none of a request, or of a response that is refused
abbrev pub record_lines : List ℕ → Record → List ℕ
record_lines ids r = row_lines (record_rows ids r)

abbrev pub records_lines : List ℕ → List Record → List ℕ
records_lines ids records = row_lines (rows_from ids records)

abbrev pub lines_given : Source → List ℕ
lines_given s = records_lines s.ids.now (records_of (reading_given s))

-- what is left of some room after a text
abbrev pub room_after : ℕ → List ℕ → Option ℕ
room_after space text = cond (leb (length text) space) (Some (space - length text)) None
