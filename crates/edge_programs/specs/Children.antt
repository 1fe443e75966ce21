-- What a run that failed may answer, and which files are those of its words.
use Rattle.std.specs.Prelude.{◌≡◌, ℕ, ◌<◌, List, [], Option, None, Some, Result, Ok, Err, if◌then◌else◌}
use Rattle.std.specs.Option.{option_map}
use Rattle.farm_types.specs.declared.placed.Word.{Word}
use Rattle.edge_traits.specs.declared.faults.Bounds.{Bounds}
use Rattle.edge_traits.specs.declared.faults.Stream.{Stream}
use Rattle.edge_traits.specs.declared.faults.StationFault.{StationFault}
use Rattle.edge_traits.specs.declared.faults.StationFault.TheVariants.{Failed, TooMuch, Memory}
use Rattle.edge_traits.specs.declared.faults.FetchFault.{FetchFault}
use Rattle.edge_traits.specs.declared.faults.FetchFault.TheVariants as fetch
use Rattle.edge_traits.specs.Stations.{bound_of, has_output}
use Rattle.edge_streams.specs.declared.reading.Reading.{Reading}
use Rattle.edge_streams.specs.declared.reading.Reading.TheVariants as reading
use Rattle.edge_runs.specs.Commands.{first_input, source_text, object_text}
use Rattle.edge_runs.specs.RunFolders.{file_in}

-- a stream that is named is above its bound
abbrev pub IsRunFault : Bounds → StationFault → Type 0
IsRunFault bounds Failed = Unit {0}
IsRunFault bounds (TooMuch stream bytes) = bound_of bounds stream < bytes
IsRunFault bounds Memory = Unit {0}

-- if a stream is named, it is this one, above this bound
abbrev pub IsStreamFault : Stream → ℕ → StationFault → Type 0
IsStreamFault one bound Failed = Unit {0}
IsStreamFault one bound (TooMuch stream bytes) = (stream ≡ one) × (bound < bytes)
IsStreamFault one bound Memory = Unit {0}

-- what is taken of a stream, by what its reading gave
abbrev pub taken_of : Stream → Reading → Result (List ℕ) StationFault
taken_of stream (reading.Whole bytes) = Ok bytes
taken_of stream (reading.Over bytes) = Err (TooMuch stream bytes)
taken_of stream reading.Failed = Err Failed

-- what a program left in a file, by the load of it: one that isn't there holds nothing
abbrev pub left_by : Stream → Result (List ℕ) FetchFault → Result (List ℕ) StationFault
left_by stream (Ok bytes) = Ok bytes
left_by stream (Err fetch.Absent) = Ok []
left_by stream (Err (fetch.TooMuch bytes)) = Err (TooMuch stream bytes)
left_by stream (Err fetch.Failed) = Err Failed
left_by stream (Err fetch.Memory) = Err Memory

-- the path of the input in this folder, if one of the words is `Input`
abbrev pub input_path : List ℕ → List Word → Option (List ℕ)
input_path folder words = option_map (λ ext. file_in folder (source_text ext)) (first_input words)

-- the path of the object in this folder, if one of the words is `Output`
abbrev pub output_path : List ℕ → List Word → Option (List ℕ)
output_path folder words = if has_output words then Some (file_in folder object_text) else None
