-- The records that calls are given.
use Rattle.std.specs.Prelude.{Bool, List}
use Rattle.captures.specs.Form.{Record, record_of}
use Rattle.captures.specs.Writing.{record_list, describes_records, SideBySide}
use Rattle.recording.specs.declared.Record as given
use Rattle.recording.specs.declared.Records.{Records}

abbrev pub record_given : given.Record → Record
record_given r = record_of r.index r.direction r.counter r.packet.now

abbrev pub list_of : Records → List Record
list_of r = record_list r.indexes.now r.directions.now r.counters.now r.lengths.now r.packets.now

abbrev pub describes : Records → Bool
describes r = describes_records r.indexes.now r.directions.now r.counters.now r.lengths.now r.packets.now

abbrev pub StandSideBySide : Records → Type 0
StandSideBySide r = SideBySide r.indexes.now r.directions.now r.counters.now r.lengths.now
