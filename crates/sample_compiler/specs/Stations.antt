-- What a run of the compiler leaves at a station.
use Rattle.std.specs.Prelude.{ℕ, ◌≡◌, ◌∷◌, List, [], Bool, false, length, map, codes, ◌&&◌, if◌then◌else◌, Option, Some, None, Result, IfErr}
use Rattle.std.specs.FinMap.{insert}
use Rattle.std.specs.Str.{bytes_eq}
use Rattle.farm_types.specs.declared.ran.Ran.{Ran}
use Rattle.farm_types.specs.declared.placed.Word.{Word}
use Rattle.farm_types.specs.declared.placed.Word.TheVariants.{Text, Input, Output}
use Rattle.edge_traits.specs.declared.faults.Stream.{Stream}
use Rattle.edge_traits.specs.declared.faults.Stream.TheVariants as stream
use Rattle.edge_traits.specs.declared.faults.StationFault.{StationFault}
use Rattle.edge_traits.specs.declared.faults.StationFault.TheVariants as fault
use Rattle.edge_traits.specs.Told.{told}
use Rattle.edge_traits.specs.Stations.{StationView, has_output, overruns_after_run}
use Rattle.file_map.specs.FileMaps.{Files}
use Rattle.sample_compiler.specs.declared.station.SampleStation.{SampleStation}
use Rattle.sample_compiler.specs.declared.task.Product.{Product}
use Rattle.sample_compiler.specs.declared.task.Product.TheVariants as product
use Rattle.sample_compiler.specs.declared.task.Task.{Task}
use Rattle.sample_compiler.specs.Tasks.{task_of}
use Rattle.sample_compiler.specs.Samples.{LeavesAsked}

-- the name of the file that holds the input, with 0 as its first byte
abbrev pub own_input : List ℕ
own_input = 0 ∷ codes ".i"

-- the name that means the object
abbrev pub own_output : List ℕ
own_output = 0 ∷ codes ".object"

abbrev pub with_input : Files → List ℕ → Files
with_input files input = insert files own_input input

abbrev pub own_word : Word → List ℕ
own_word (Text text) = text
own_word (Input ext) = own_input
own_word Output = own_output

abbrev pub is_own_output : Product → Bool
is_own_output product.Text = false
is_own_output (product.Object output) = bytes_eq output own_output

-- the operand of `-o` means the object
abbrev pub is_output_named : Option Task → Bool
is_output_named (Some task) = is_own_output task.product
is_output_named None = false

abbrev pub without_object : Ran → Ran
without_object ran = record { status = ran.status; out = ran.out; err = ran.err; object = [] }

-- an object is left only if a word means it, as the operand of `-o`
abbrev pub as_left : List Word → Option Task → Ran → Ran
as_left words asked ran = if has_output words && is_output_named asked then ran else without_object ran

-- what these words ask for
abbrev pub asked_by : List Word → Option Task
asked_by words = task_of (map own_word words)

-- what a run by these words on this input may leave over these files: what the compiler leaves
pub record StationRan (files : Files) (words : List Word) (input : List ℕ) (ran : Ran) : Type 0 where
  pub whole : Ran
  pub leaves : LeavesAsked (with_input files input) (asked_by words) whole
  pub left : ran ≡ as_left words (asked_by words) whole

abbrev pub stream_of : Ran → Stream → List ℕ
stream_of ran stream.Out = ran.out
stream_of ran stream.Err = ran.err
stream_of ran stream.Object = ran.object

-- Why a run fails: what the compiler leaves has a stream of that many bytes, or memory runs out. None fails.
abbrev pub RunStops : Files → List Word → List ℕ → StationFault → Type 0
RunStops files words input fault.Failed = ⊥
RunStops files words input (fault.TooMuch stream bytes) = (ran : Ran) × StationRan files words input ran
    × (bytes ≡ length (stream_of ran stream))
RunStops files words input fault.Memory = Unit {0}

-- ---- the station

abbrev pub station_files : SampleStation → Files
station_files s = s.files

-- it shows its runs, and no call of it fails
abbrev pub station_shows : SampleStation → StationView
station_shows s = record { runs = told s.runs; faults = 0; overruns = s.overruns }

abbrev pub fresh_shows : StationView
fresh_shows = record { runs = told []; faults = 0; overruns = 0 }

-- When a run by these words on this input gives too much, and what that counts.
pub record OverrunsAre (old new : SampleStation) (words : List Word) (input : List ℕ) (result : Result Ran StationFault) : Type 0 where
  -- A run that gives too much is one that the compiler leaves, with a stream of exactly that many bytes.
  pub stops : IfErr result (RunStops (station_files new) words input)
  -- A run that gives too much counts once, and no other counts.
  pub count : (station_shows new).overruns ≡ overruns_after_run (station_shows old).overruns result
