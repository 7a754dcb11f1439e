use native.Mathlib.Omega.{arith}
use Rattle.summing.proofs.Fields.{field_start}
use Rattle.summing.proofs.pair_line.Goals as goal

pub write_field-number_at-requires : goal.write_field-number_at-requires
write_field-number_at-requires c =
    let written = c.write_field-count_at.ensures in
    record { le_end = omega (arith, field_start _ _ _ _ written); end_in_bounds = omega (arith, written.ends) }

pub write_field-start-requires : goal.write_field-start-requires
write_field-start-requires c =
    let counted = c.write_field-count_at.ensures in
    let numbered = c.write_field-number_at.ensures in
    record {
      le_end = omega (arith, field_start _ _ _ _ counted, field_start _ _ _ _ numbered);
      end_in_bounds = omega (arith, counted.ends, numbered.ends);
    }
