-- What the clock and the standard streams show: their states and their counts, but no content.
use Rattle.std.specs.Prelude.{ℕ, Bool, []}
use Rattle.edge_traits.specs.Told.{untold}
use Rattle.edge_traits.specs.Clocks.{ClockView}
use Rattle.edge_traits.specs.Sources.{SourceView}
use Rattle.edge_traits.specs.Sinks.{SinkView}
use Rattle.edge_streams.specs.declared.clock.WallClock.{WallClock}
use Rattle.edge_streams.specs.declared.stream.StdSource.{StdSource}
use Rattle.edge_streams.specs.declared.stream.StdSink.{StdSink}

-- a clock doesn't record what moments it gave
abbrev pub clock_view : {R : Type 0} → WallClock R → ClockView
clock_view clock = record { moments = untold [] }

-- what it asks for the time
abbrev pub runtime_of : {R : Type 0} → WallClock R → R
runtime_of clock = clock.rt

abbrev pub counted_source : Bool → ℕ → SourceView
counted_source ended faults = record { read = untold []; left = untold []; ended = ended; faults = faults }

abbrev pub source_view : {R : Type 0} → StdSource R → SourceView
source_view source = counted_source source.ended source.faults

abbrev pub counted_sink : Bool → ℕ → SinkView
counted_sink stopped faults = record { written = untold []; stopped = stopped; faults = faults }

abbrev pub sink_view : {W : Type 0} → StdSink W → SinkView
sink_view sink = counted_sink sink.stopped sink.faults

-- what a source reads
abbrev pub reader_of : {R : Type 0} → StdSource R → R
reader_of source = source.reader

-- what a sink writes
abbrev pub writer_of : {W : Type 0} → StdSink W → W
writer_of sink = sink.writer
