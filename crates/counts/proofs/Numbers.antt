-- The numbers of lists of refusals: each packet's is 0 to 10.
use Prim.Native.Nat.{ℕ, ◌<◌}
use native.Mathlib.Omega.{arith}
use mathlib.Core.Bool.{Bool, true, false, cond, not}
use mathlib.Core.List.{List, [], ◌∷◌}
use mathlib.Core.Option.{Option, some}
use mathlib.Core.Path.{◌≡◌, refl}
use lib.Dec.{eqb}
use lib.ListN.{length}
use Rattle.std.specs.Prelude.{Option as OptionInCode, None, Some}
use Rattle.framing.specs.Refusal.{Rule, first_refusal}
use Rattle.framing.specs.Packet.{packet_refusals}
use Rattle.refusals.specs.Refusals.{number_of, number_or_zero}
use Rattle.refusals.specs.declared.Refusal.{Refusal}
use Rattle.refusals.specs.declared.Refusal.TheVariants.{WrongRecord}
use Rattle.captures.specs.Reading.{Reading, left, wrong, item, wrong_record}
use Rattle.tool.specs.Response.{response_refusals, any_response_refusals, any_response_refusal}
use Rattle.counts.specs.Judging.{request_refusals, any_request_refusals, any_request_refusal, judged}
use Rattle.framing.specs.Refusal.{in_code}
use Rattle.counts.specs.Counting.{numbers_per_board, end_of, refusal_at_end}
use Rattle.counts.specs.Statements.{NumbersBounded}

-- each refusal of a list has a small number
unfoldable all_small : {Call : Type 0} → List (Rule Call) → Type 0
all_small [] = Unit {0}
all_small (row ∷ rows) = (number_of row.refusal < numbers_per_board) × all_small rows

abbrev Small : Option Refusal → Type 0
Small refused = number_or_zero (in_code refused) < numbers_per_board

small_by : (test : Bool) (refusal : Refusal) (rest : Option Refusal) → number_of refusal < numbers_per_board → Small rest → Small (cond test (some refusal) rest)
small_by true refusal rest here after = here
small_by false refusal rest here after = after

first_small : {Call : Type 0} (call : Call) (rows : List (Rule Call)) → all_small rows → Small (first_refusal rows call)
unfolding all_small first_refusal
first_small call [] all = omega arith
first_small call (row ∷ rows) all = small_by (row.applies call) row.refusal (first_refusal rows call) all.0 (first_small call rows all.1)

request_small : (packet : List ℕ) → Small (any_request_refusal packet)
unfolding any_request_refusal any_request_refusals packet_refusals request_refusals all_small
request_small packet = first_small packet any_request_refusals (search arith)

response_small : (packet : List ℕ) → Small (any_response_refusal packet)
unfolding any_response_refusal any_response_refusals packet_refusals response_refusals all_small
response_small packet = first_small packet any_response_refusals (search arith)

judged_by : (test : Bool) (response request : Option Refusal) → Small response → Small request → Small (cond test response request)
judged_by true response request a b = a
judged_by false response request a b = b

pub numbers_bounded : NumbersBounded
unfolding judged
numbers_bounded direction packet = judged_by (eqb direction 1) (any_response_refusal packet) (any_request_refusal packet) (response_small packet) (request_small packet)

-- the refusal at the end: 53 where a record is refused
ended_by : (none_left : Bool) → ◌≡◌ {A = OptionInCode Refusal} (cond none_left None (Some WrongRecord)) (cond (not none_left) (Some WrongRecord) None)
ended_by true = refl
ended_by false = refl

pub ending_told : (r : Reading) → refusal_at_end (end_of r) ≡ cond (wrong_record r) (Some WrongRecord) None
unfolding end_of wrong_record
ending_told (left bytes) = ended_by (eqb (length bytes) 0)
ending_told wrong = refl
ending_told (item r after) = ending_told after
