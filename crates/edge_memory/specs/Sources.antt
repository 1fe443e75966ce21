-- What a source that gives a text is in, and what a read does to it.
use Rattle.std.specs.Prelude.{ℕ, ◌+◌, ◌||◌, Bool, List, take, drop, length, min, Result, Ok, Err, if◌then◌else◌}
use Rattle.edge_traits.specs.declared.faults.EdgeFault.{EdgeFault}
use Rattle.edge_traits.specs.declared.faults.EdgeFault.TheVariants.{Failed}
use Rattle.edge_traits.specs.Told.{told}
use Rattle.edge_traits.specs.Links.{moved_none}
use Rattle.edge_traits.specs.Sources.{SourceView}
use Rattle.edge_memory.specs.declared.source.MemSource.{MemSource}
use Rattle.edge_traits.specs.Calls.{names_next, one_more, failed_calls}
use Rattle.edge_memory.specs.Moving.{count_of}

-- the script, how many calls there were, counted up to the greatest u64, how many bytes were given, and whether the end was
pub record SourceState : Type 0 where
  pub text : List ℕ
  pub fails : List ℕ
  pub most : ℕ
  pub made : ℕ
  pub given : ℕ
  pub ended : Bool

abbrev pub source_state : MemSource → SourceState
source_state source = record {
  text = source.text;
  fails = source.calls.fails;
  most = source.most;
  made = source.calls.made;
  given = source.at;
  ended = source.ended;
}

-- the bytes that are still to be given
abbrev pub left_of : SourceState → List ℕ
left_of source = drop source.given source.text

-- what it shows
abbrev pub source_shows : SourceState → SourceView
source_shows source = record {
  read = told (take source.given source.text);
  left = told (left_of source);
  ended = source.ended;
  faults = failed_calls source.fails source.made;
}

-- what the next read returns, into a room of this many bytes
abbrev pub read_answer : SourceState → ℕ → Result ℕ EdgeFault
read_answer source limit =
    if names_next source.fails source.made then Err Failed else Ok (min (min limit (length (left_of source))) source.most)

abbrev pub after_read : SourceState → Result ℕ EdgeFault → SourceState
after_read source result =
    record source { made = one_more source.made; given = source.given + count_of result; ended = source.ended || moved_none result }
