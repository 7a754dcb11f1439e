-- How a packet of a capture is judged: its refusal, if any.
use Rattle.std.specs.Prelude.{ℕ, cond, List, ◌++◌, map, eqb}
use Rattle.std.proofs.Math.Option.{Option}
use Rattle.framing.specs.Frame.{Frame}
use Rattle.framing.specs.Refusal.{Rule, rule_of, first_refusal, in_code}
use Rattle.framing.specs.Packet.{packet_refusals, frame_of}
use Rattle.refusals.specs.Refusals.{number_or_zero}
use Rattle.refusals.specs.declared.Refusal.{Refusal}
use Rattle.block.specs.Request.{no_function, no_commands}
use Rattle.tool.specs.Kinds.{kind_refusals}
use Rattle.tool.specs.Response.{any_response_refusal}

-- of what a request must be, whoever is asked: 9, 10
unfoldable pub request_refusals : List (Rule Frame)
request_refusals = kind_refusals no_function no_commands

-- a request of which ID and password are taken as they are: 2 to 6, 9, 10
unfoldable pub any_request_refusals : List (Rule (List ℕ))
any_request_refusals = packet_refusals ++ map (rule_of frame_of) request_refusals

unfoldable pub any_request_refusal : List ℕ → Option Refusal
any_request_refusal packet = first_refusal any_request_refusals packet

-- direction 1 is a response, as the listing judges it, any other a request
unfoldable pub judged : ℕ → List ℕ → Option Refusal
judged direction packet = cond (eqb direction 1) (any_response_refusal packet) (any_request_refusal packet)

-- its number, 0 for none
abbrev pub judged_number : ℕ → List ℕ → ℕ
judged_number direction packet = number_or_zero (in_code (judged direction packet))
