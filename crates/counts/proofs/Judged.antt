-- What the code says of a refusal.
use mathlib.Core.Option.{Option, none, some}
use mathlib.Core.Path.{◌≡◌, refl}
use Rattle.std.specs.Result.{result_err}
use Rattle.framing.specs.declared.Places.{Places}
use Rattle.refusals.specs.declared.Refusal.{Refusal}
use Rattle.tool.specs.Response.{response_as}
use Rattle.framing.specs.Refusal.{in_code}

pub why_refused : (refused : Option Refusal) (places : Places) → result_err (response_as refused places) ≡ in_code refused
why_refused none places = refl
why_refused (some refusal) places = refl
