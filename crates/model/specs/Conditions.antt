-- What a frame asks for, and the condition of refusal 11.
use Rattle.std.specs.Prelude.{ℕ, Bool, ◌&&◌, List, eqb}
use Rattle.std.proofs.Math.Option.{Option}
use Rattle.octets.specs.Octets.{same}
use Rattle.framing.specs.Frame.{Frame}
use Rattle.framing.specs.Identity.{default_id}
use Rattle.block.specs.Command.{Command}
use Rattle.block.specs.Request.{commands, names_other}
use Rattle.model.specs.Record.{client}

-- a discovery (the search of document 01): the default ID, where mode client is in force
abbrev pub discovers_in : ℕ → Frame → Bool
discovers_in mode f = eqb mode client && same f.id default_id

abbrev pub commands_in : Frame → Option (List Command)
commands_in f = commands f.function f.block

-- 11, of a discovery: FUNC is not 1, or the block is well formed and an FC of it is not 1
abbrev pub other_than_reads : Frame → Bool
other_than_reads f = names_other f.function f.block
