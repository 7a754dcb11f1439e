use Prim.Native.Nat.{ℕ, ◌*◌}
use mathlib.Core.Path.{sym, ap, ◌∙◌}
use lib.ListN.{take}
use Rattle.exporting.proofs.Captures.{refused_exports, capture_exports}
use Rattle.exporting.proofs.export.Goals as goal

pub returns-in-Err : goal.returns-in-Err
returns-in-Err c = refused_exports c.args.capture.now (sym c.open.ensures ∙ c.in-Err.is) c.export_header.ensures

pub returns-in-Ok : goal.returns-in-Ok
returns-in-Ok c =
    capture_exports c.args.capture.now (sym c.open.ensures ∙ c.in-Ok.is)
    (ap (λ (n : ℕ). 16 * n) c.from-size.ensures)
    (c.first_bytes.ensures ∙ ap (take (16 * c.from-size.result)) c.bytes_after.ensures)
    c.bytes_after-in-Ok.ensures
    c.export.ensures
