use Prim.Native.Nat.{◌≤◌}
use mathlib.Core.Path.{sym, ◌∙◌}
use lib.ListN.{length}
use Rattle.counts.specs.Counting.{count_limit}
use Rattle.summing.proofs.Summaries.{summary_shown}
use borrow.Author.Rules.{rules}
use Rattle.summing.proofs.summary.Goals as goal

pub returns-in-Ok : goal.returns-in-Ok
returns-in-Ok c =
    let capture = c.args.capture.now in
    let accepted = sym c.«open».ensures ∙ c.in-Ok.is in
    let short : length capture ≤ count_limit = search rules in
    rw (← summary_shown capture accepted short c.bytes_after-bytes.ensures c.count-ending.ensures c.refusal_at_end-refusal.ensures, ← c.number_or_zero.ensures) c.write.ensures
