-- What holds of reading tables, beside the contracts.
use Rattle.std.specs.Prelude.{ℕ, ◌<◌, List, ◌≡◌}
use Rattle.tables.specs.Lines.{lines}
use Rattle.tables.specs.Importing.{Imported, import_from, import_of}
use Rattle.importing.specs.Reading.{line_limit, opened_of, next_row, import_after, import_opened}

-- the rows of a text, from a line on
abbrev pub import_text : ℕ → List ℕ → Imported
import_text line text = import_from line (lines text)

-- import is `open`, and then `next_row` again and again: the same rows, and the same refusal at the same line
pub record ReadsTables : Type 0 where
  pub by_header : (text : List ℕ) → import_of text ≡ import_opened import_text text (opened_of text)
  pub by_row : (text : List ℕ) (line : ℕ) → line < line_limit → import_text line text ≡ import_after import_text text (next_row text line)
