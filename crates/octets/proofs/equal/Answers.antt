use mathlib.Core.Path.{sym}
use Rattle.std.proofs.lemmas.Slice.Zip.{Zip-more, either_empty_from_Zip}
use Rattle.octets.proofs.Same.{same_lengths, same_step, same_end}
use Rattle.octets.proofs.equal.Goals as goal

pub returns-then-left-right : goal.returns-then-left-right
returns-then-left-right c = sym (same_lengths _ _ c.if-left-right.true)

pub loop-one-preserved : goal.loop-one-preserved
loop-one-preserved c = let step = Zip-more c.loop-one.one-iterator c.next.new.self _ _ c.in-Some.is c.next.ensures.steps in same_step _ _ step.0 step.1 c.loop-one.invariant

pub returns : goal.returns
returns c = same_end _ c.loop-one.equal _ _ (either_empty_from_Zip c.loop-one.one-iterator c.next.new.self _ c.in-None.is c.next.ensures.steps) c.loop-one.invariant
