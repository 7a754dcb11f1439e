-- The board's answers in numbers, for callers in other languages.
use Rattle.std.specs.Prelude.{ℕ, ⊤, List, Result, ◌≡◌}
use Rattle.refusals.specs.Refusals.{number_of, number_in}
use Rattle.refusals.specs.declared.Refusal.{Refusal}
use Rattle.model.specs.Measurement.{MeasureCall, measure_refusal, measured_board}
use Rattle.model.specs.Record.{SetUp, set_up_board, set_up_refusal, verdict_of}
use Rattle.model.specs.Step.{Call, step}
use Rattle.model.specs.declared.Answer.{Answer}
use Rattle.model.specs.declared.Answer.TheVariants.{Refused, Silence, Response}
use Rattle.model.specs.declared.Board.{Board}
use Rattle.firmware.specs.Reply.{reply_with}
use Rattle.firmware.specs.declared.controller.CallResult.{CallResult}
use Rattle.firmware.specs.declared.Reply.{Reply}

-- refusal 0: not refused; length 0 is then silence
abbrev pub reply_of : Answer → Reply
reply_of (Refused refusal) = reply_with (number_of refusal) 0
reply_of Silence = reply_with 0 0
reply_of (Response length) = reply_with 0 length

-- the contract of `udgornwy_packet`: the record and the buffer are as the step leaves them, its answer is in numbers
pub record Replies (c : Call) (next : Board) (reply : Reply) (after : List ℕ) : Type 0 where
  pub board : next ≡ (step c).board
  pub answer : reply ≡ reply_of (step c).answer
  pub buffer : after ≡ (step c).buffer

-- refusal 0: not refused
abbrev pub result_of : Board → Result ⊤ Refusal → CallResult
result_of board verdict = record { board = board; refusal = number_in verdict }

abbrev pub set_up_result : SetUp → CallResult
set_up_result given = result_of (set_up_board given) (verdict_of (set_up_refusal given))

abbrev pub measure_result : MeasureCall → CallResult
measure_result c = result_of (measured_board c) (verdict_of (measure_refusal c))
