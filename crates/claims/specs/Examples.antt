-- What an example asks of the definitions, with what it says must come of it.
use Rattle.std.specs.Prelude.{ℕ, ◌-◌, ⊤, Result, List, [], ◌∷◌, ◌++◌, length, replicate}
use Rattle.std.proofs.Math.Option.{Option}
use Rattle.refusals.specs.declared.Refusal.{Refusal}
use Rattle.block.specs.Command.{Command, Report}
use Rattle.block.specs.Request.{commands}
use Rattle.block.specs.Response.{reports}
use Rattle.store.specs.Layout.{value_of}
use Rattle.model.specs.Measurement.{measure_call, measure_refusal, measured_board}
use Rattle.model.specs.Record.{verdict_of, SetUp, set_up_board}
use Rattle.model.specs.Step.{call, step}
use Rattle.model.specs.declared.Answer.{Answer}
use Rattle.model.specs.declared.Board.{Board}
use Rattle.tool.specs.Listing.{listing}
use Rattle.tool.specs.Request.{WriteCall, write_refusal, written_as, buffer_as}

-- a lent buffer of 256 bytes before a call, and with these bytes in front
abbrev pub untouched : List ℕ
untouched = replicate 256 0xAA

abbrev pub filled : List ℕ → List ℕ
filled bytes = bytes ++ replicate (256 - length bytes) 0xAA

-- what happens to a board
--   sent: a packet comes; the answer, and the whole response buffer afterwards
--   measured: a measurement of a parameter; the answer
--   holds: the value that a parameter holds at that moment
pub data Event : Type 0 where
  sent : List ℕ → Answer → List ℕ → Event
  measured : ℕ → List ℕ → Result ⊤ Refusal → Event
  holds : ℕ → List ℕ → Event

-- a line of the table
--   writes: what the tool's writer is given; the answer, and its whole buffer afterwards
--   asks: a function and the data block of a request; its commands
--   tells: the data block of a response; its reports
--   lists: a response; the text of its listing
--   runs: what a board is set up with; what happens to it, in order
pub data Line : Type 0 where
  writes : WriteCall → Result ℕ Refusal → List ℕ → Line
  asks : ℕ → List ℕ → Option (List Command) → Line
  tells : List ℕ → Option (List Report) → Line
  lists : List ℕ → List ℕ → Line
  runs : SetUp → List Event → Line

-- what the definitions give
unfoldable pub happened : Board → List Event → List Event
happened board [] = []
happened board (sent packet answer after ∷ events) =
    sent packet (step (call board packet untouched)).answer (step (call board packet untouched)).buffer
    ∷ happened (step (call board packet untouched)).board events
happened board (measured number value verdict ∷ events) =
    measured number value (verdict_of (measure_refusal (measure_call board number value))) ∷ happened (measured_board (measure_call board number value)) events
happened board (holds number value ∷ events) = holds number (value_of board.parameters.store number) ∷ happened board events

-- a line with what the definitions give in the place of what must come
abbrev pub computed : Line → Line
computed (writes given answer after) = writes given (written_as (write_refusal given) given) (buffer_as (write_refusal given) given)
computed (asks function block found) = asks function block (commands function block)
computed (tells block found) = tells block (reports block)
computed (lists response text) = lists response (listing response)
computed (runs given events) = runs given (happened (set_up_board given) events)
