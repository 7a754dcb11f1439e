use Prim.Native.Nat.{ℕ}
use mathlib.Core.List.{List}
use mathlib.Core.Path.{sym, ap, ◌∙◌}
use Rattle.refusals.specs.Refusals.{number_or_zero}
use Rattle.framing.specs.Refusal.{in_code}
use Rattle.counts.specs.Judging.{judged}
use Rattle.counts.specs.Counting.{place_of}
use Rattle.counts.proofs.Counted.{same_on}
use Rattle.counts.proofs.counting.count.Goals as goal

pub loop-index-preserved : goal.loop-index-preserved
loop-index-preserved c =
    let v = c.loop-index in
    let refusal = c.judge-refusal.ensures ∙ ap (λ (packet : List ℕ). in_code (judged c.in-Record.direction packet)) c.part.ensures in
    let number = c.number_or_zero.ensures ∙ ap number_or_zero refusal in
    let at = c.place.ensures ∙ ap (λ (n : ℕ). place_of c.in-Record.index n) number in
    rw (c.part-rest.ensures, c.count_one.ensures, at)
    (same_on c.args.version c.args.boards v.rest.now (sym c.next_record.ensures ∙ c.in-Record.is) v.invariant)
