-- What a measurement does.
use Rattle.std.specs.Prelude.{ℕ, not, List, [], ◌∷◌, ◌≡◌, eqb, length}
use Rattle.std.proofs.Math.Option.{Option, none, some}
use Rattle.framing.specs.Refusal.{Rule, rule, first_refusal}
use Rattle.refusals.specs.declared.Refusal.{Refusal}
use Rattle.refusals.specs.declared.Refusal.TheVariants.{NotMeasured, MeasuredLength, BadRecord}
use Rattle.rows.specs.Layout.{size_of}
use Rattle.store.specs.Operations.{measurable, measured}
use Rattle.rows.specs.Rows.{row_of}
use Rattle.model.specs.Record.{sound, verdict_of, unit_of, parameters_of, with_parameters}
use Rattle.model.specs.declared.Answered.{Answered}
use Rattle.model.specs.declared.Board.{Board}

pub record MeasureCall : Type 0 where
  pub board : Board
  pub number : ℕ
  pub value : List ℕ

abbrev pub measure_call : Board → ℕ → List ℕ → MeasureCall
measure_call board number value = record { board = board; number = number; value = value }

unfoldable pub measure_refusals : List (Rule MeasureCall)
measure_refusals =
    rule BadRecord (λ (c : MeasureCall). not (sound c.board))
    ∷ rule NotMeasured (λ (c : MeasureCall). not (measurable (unit_of c.board) c.number))
    ∷ rule MeasuredLength (λ (c : MeasureCall). not (eqb (length c.value) (size_of (row_of (unit_of c.board) c.number).set)))
    ∷ []

unfoldable pub measure_refusal : MeasureCall → Option Refusal
measure_refusal c = first_refusal measure_refusals c

abbrev pub measured_by : Option Refusal → MeasureCall → Board
measured_by none c =
    with_parameters c.board
    (parameters_of (measured c.board.parameters.store c.number c.value) c.board.parameters.schedule)
measured_by (some refusal) c = c.board

unfoldable pub measured_board : MeasureCall → Board
measured_board c = measured_by (measure_refusal c) c

-- the contract of `measure`
pub record MeasuresBoard (c : MeasureCall) (result : Answered) : Type 0 where
  pub answered : result.verdict ≡ verdict_of (measure_refusal c)
  pub board : result.board ≡ measured_board c
