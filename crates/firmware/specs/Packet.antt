-- The answer of framing's `read` in numbers, for callers in other languages.
use Rattle.std.specs.Prelude.{Result, Ok, Err}
use Rattle.refusals.specs.Refusals.{number_of}
use Rattle.refusals.specs.declared.Refusal.{Refusal}
use Rattle.framing.specs.declared.Places.{Places}
use Rattle.firmware.specs.declared.packet.Parts.{Parts}

abbrev pub no_places : Places
no_places = record { id = 0; password = 0; function = 0; block = 0; end = 0 }

-- refusal 0: not refused
abbrev pub parts_of : Result Places Refusal → Parts
parts_of (Ok places) = record { refusal = 0; places = places }
parts_of (Err refusal) = record { refusal = number_of refusal; places = no_places }
