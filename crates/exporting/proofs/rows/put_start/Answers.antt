use Rattle.std.proofs.Common.{List, ℕ, ◌≡◌, length, ap, ◌∙◌}
use Rattle.numerals.specs.Numerals.{decimal}
use Rattle.exporting.proofs.RowTexts.{start_put}
use Rattle.exporting.proofs.rows.put_start.Goals as goal

pub returns : goal.returns
returns c =
    let digits : c.text-digits.result.now ≡ decimal c.args.counter = c.text-digits.ensures ∙ c.decimal-numeral.ensures.held ∙ ap decimal c.from.ensures in
    start_put c.args.text.now c.args.id.now c.args.counter c.requires digits (ap (λ (l : List ℕ). length l) digits)
    c.overwrite.ensures c.write_hex.ensures c.overwrite-2.ensures c.overwrite-3.ensures c.overwrite-4.ensures
