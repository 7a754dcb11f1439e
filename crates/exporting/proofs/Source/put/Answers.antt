use mathlib.Core.List.{[]}
use mathlib.Core.Path.{refl, sym, ◌∙◌}
use Rattle.captures.specs.Reading.{left, wrong, records_of}
use Rattle.captures.proofs.Records.{read_by}
use Rattle.counts.specs.Counting.{end_of}
use Rattle.exporting.proofs.Steps.{all_put, first_fits, put_next}
use Rattle.exporting.proofs.Source.put.Goals as goal

pub returns-in-End : goal.returns-in-End
unfolding records_of end_of
returns-in-End c =
    let v = c.loop-index in
    let last = read_by c.args.self.now.version c.args.self.now.boards v.rest.now (sym c.next_record.ensures ∙ c.in-End.is) in
    rw c.put_until.ensures (all_put (left []) last refl v.invariant refl)

pub returns-in-Cut : goal.returns-in-Cut
unfolding records_of end_of
returns-in-Cut c =
    let v = c.loop-index in
    let last = read_by c.args.self.now.version c.args.self.now.boards v.rest.now (sym c.next_record.ensures ∙ c.in-Cut.is) in
    rw c.put_until-in-Cut.ensures (all_put (left v.rest.now) last refl v.invariant refl)

pub returns-in-Wrong : goal.returns-in-Wrong
unfolding records_of end_of
returns-in-Wrong c =
    let v = c.loop-index in
    let last = read_by c.args.self.now.version c.args.self.now.boards v.rest.now (sym c.next_record.ensures ∙ c.in-Wrong.is) in
    rw c.put_until-in-Wrong.ensures (all_put wrong last refl v.invariant refl)

pub put-put-requires : goal.put-put-requires
put-put-requires c =
    let v = c.loop-index in
    let found = sym c.next_record.ensures ∙ c.in-Record.is in
    rw c.part.ensures (first_fits c.args.self.now.version c.args.self.now.boards v.rest.now c.args.self.now.ids.now found v.invariant)

pub loop-index-preserved : goal.loop-index-preserved
loop-index-preserved c =
    let v = c.loop-index in
    let found = sym c.next_record.ensures ∙ c.in-Record.is in
    let put = c.put-put.ensures in
    rw (c.part-rest.ensures, c.refused_after-refused.ensures)
    (put_next c.args.self.now.version c.args.self.now.boards v.rest.now c.args.self.now.ids.now found v.invariant c.part.ensures put.end_value put.refused_value put.text_after)
