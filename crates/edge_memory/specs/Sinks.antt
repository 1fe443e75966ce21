-- What a sink that keeps what is written is in, and what a write does to it.
use Rattle.std.specs.Prelude.{ℕ, ◌||◌, Bool, List, ◌++◌, Result}
use Rattle.edge_traits.specs.declared.faults.EdgeFault.{EdgeFault}
use Rattle.edge_traits.specs.Told.{told}
use Rattle.edge_traits.specs.Links.{moved, moved_none}
use Rattle.edge_traits.specs.Sinks.{SinkView}
use Rattle.edge_memory.specs.declared.script.Moves.{Moves}
use Rattle.edge_memory.specs.declared.sink.MemSink.{MemSink}
use Rattle.edge_traits.specs.Calls.{one_more, failed_calls}

-- the script, how many calls there were, counted up to the greatest u64, what was written, and whether a write took nothing
pub record SinkState : Type 0 where
  pub moves : Moves
  pub made : ℕ
  pub written : List ℕ
  pub stopped : Bool

abbrev pub sink_state : MemSink → SinkState
sink_state sink = record {
  moves = record { fails = sink.calls.fails; zeros = sink.zeros; most = sink.most };
  made = sink.calls.made;
  written = sink.written;
  stopped = sink.stopped;
}

-- what it shows
abbrev pub sink_shows : SinkState → SinkView
sink_shows sink = record { written = told sink.written; stopped = sink.stopped; faults = failed_calls sink.moves.fails sink.made }

abbrev pub after_write : SinkState → List ℕ → Result ℕ EdgeFault → SinkState
after_write sink piece result =
    record sink { made = one_more sink.made; written = sink.written ++ moved result piece; stopped = sink.stopped || moved_none result }
