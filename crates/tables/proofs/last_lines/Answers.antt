use Rattle.std.proofs.Common.{arith, rules}
use Rattle.tables.specs.Ending.{refused_word, capture_word}
use Rattle.tables.proofs.Ends.{line_short, two_lines}
use Rattle.tables.proofs.last_lines.Goals as goal

pub put_line-size-requires : goal.put_line-size-requires
put_line-size-requires c = omega (arith, c.put_line-end.ensures.value, line_short refused_word c.args.refused)

pub returns : goal.returns
returns c =
    let last = rw c.from.ensures at c.put_line-size.ensures in
    record {
      sized = search rules;
      within =
          omega (arith, c.put_line-end.ensures.value, line_short refused_word c.args.refused, c.put_line-size.ensures.value, line_short capture_word c.from.result);
      held =
          two_lines _ c.args.refused c.args.capture c.put_line-end.ensures.value c.put_line-end.ensures.text_after (omega arith)
          c.if-capture-eq0.false last.value last.text_after;
    }
