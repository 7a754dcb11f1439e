use mathlib.Core.Bool.{true}
use mathlib.Core.Path.{◌≡◌}
use lib.ListN.{length}
use Rattle.block.specs.Reading.{is_some}
use Rattle.block.specs.Response.{reports_from}
use Rattle.captures.proofs.Buffers.{PutFrom}
use Rattle.exporting.specs.RowText.{left_text}
use Rattle.exporting.proofs.rows.put_rows.Given as goal

abbrev pub invariant-loop-next_page : goal.invariant-loop-next_page
invariant-loop-next_page l = (is_some (reports_from l.page l.left) ≡ true) × PutFrom l.initial.text l.at (left_text l.start 0 l.block) l.text l.place (left_text l.start l.page l.left)

abbrev pub decreases-loop-next_page : goal.decreases-loop-next_page
decreases-loop-next_page l = length l.left
