use mathlib.Core.Bool.{Bool, true, false}
use mathlib.Core.Path.{sym, ap, ◌∙◌}
use borrow.Author.Tests.{eq-eqb, ne_eqb}
use Rattle.rows.specs.Rows.{rows}
use Rattle.rows.specs.Start.{lowest, start_value}
use Rattle.store.specs.Layout.{store_of}
use Rattle.store.specs.Start.{start_slots, product_size, start_bytes, start}
use Rattle.store.proofs.Starts.{blank, with_identity_lem}
use Rattle.store.proofs.start.Goals as goal

pub returns-then-unit-eq-MICRA : goal.returns-then-unit-eq-MICRA
unfolding rows lowest start_value start_slots product_size start_bytes start blank
returns-then-unit-eq-MICRA c =
    let given = c.args in
    c.with_identity.ensures
    ∙ with_identity_lem true given.id given.unit
    ∙ ap (λ (micra : Bool). store_of given.unit (start_bytes micra given.unit given.id)) (sym (eq-eqb given.unit 2 c.if-unit-eq-MICRA.true))

pub returns : goal.returns
unfolding rows lowest start_value start_slots product_size start_bytes start blank
returns c =
    let given = c.args in
    c.with_identity-2.ensures
    ∙ with_identity_lem false given.id given.unit
    ∙ ap (λ (micra : Bool). store_of given.unit (start_bytes micra given.unit given.id)) (sym (ne_eqb given.unit 2 c.if-unit-eq-MICRA.false))
