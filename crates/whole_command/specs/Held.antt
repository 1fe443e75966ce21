-- What a sink holds back.
use Rattle.std.specs.Prelude.{ℕ, List, false}
use Rattle.edge_traits.specs.Told.{told}
use Rattle.edge_traits.specs.Sinks.{SinkView}
use Rattle.whole_command.specs.declared.held.HeldSink.{HeldSink}

-- what was written to it
abbrev pub held_of : HeldSink → List ℕ
held_of sink = sink.bytes

abbrev pub held_shows : HeldSink → SinkView
held_shows sink = record { written = told (held_of sink); stopped = false; faults = 0 }
