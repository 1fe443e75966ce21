-- Which names are looked up, in order.
use Rattle.std.specs.Prelude.{ℕ, zero, suc, ◌≡◌, ◌+◌, ◌==◌, ◌||◌, List, [], ◌∷◌, ◌++◌, codes, if◌then◌else◌, Bool, Option, Some, None}
use Rattle.std.specs.Prelude.{is_some, Result, Ok, Err}
use Rattle.std.specs.FinMap.{get}
use Rattle.farm_types.specs.Bytes.{hash}
use Rattle.file_map.specs.FileMaps.{Files}
use Rattle.sample_compiler.specs.declared.defines.Define.{Define}
use Rattle.sample_compiler.specs.declared.stops.ExpandStop.{ExpandStop}
use Rattle.sample_compiler.specs.declared.stops.ExpandStop.TheVariants.{Fault, Unknown, Memory}
use Rattle.sample_compiler.specs.declared.task.Task.{Task}
use Rattle.sample_compiler.specs.Directives.{include_of}
use Rattle.sample_compiler.specs.Expanding.{ExpandResult, Includes, expand_line, include, includes_max, find_file}
use Rattle.sample_compiler.specs.Lines.{source_lines}
use Rattle.sample_compiler.specs.Lookups.{is_listed}
use Rattle.sample_compiler.specs.Samples.{is_ready}
use Rattle.sample_compiler.specs.Words.{begins}

-- ---- an included file

-- nothing more is looked up if the file is there
abbrev pub until_there : Option (List ℕ) → List (List ℕ) → List (List ℕ)
until_there None more = more
until_there (Some content) more = []

-- `DIR/F` for each folder in order, up to the first that is there
abbrev pub sought_in : Files → List (List ℕ) → List ℕ → List (List ℕ)
sought_in files [] name = []
sought_in files (dir ∷ dirs) name =
    (dir ++ codes "/" ++ name) ∷ until_there (get files (dir ++ codes "/" ++ name)) (sought_in files dirs name)

-- `F`, and then in the folders
abbrev pub sought : Files → List (List ℕ) → List ℕ → List (List ℕ)
sought files dirs name = name ∷ until_there (get files name) (sought_in files dirs name)

-- ---- a text

-- what an included file has looked up: by the defined names and the file's name
abbrev pub Seeks : Type 0
Seeks = List Define → List ℕ → List (List ℕ)

abbrev pub by_directive : Seeks → List Define → Option (List ℕ) → List (List ℕ)
by_directive seeks defines (Some name) = seeks defines name
by_directive seeks defines None = []

-- one line
abbrev pub by_line : Seeks → List Define → List ℕ → List (List ℕ)
by_line seeks defines bytes = if begins (λ c. c == hash) bytes then by_directive seeks defines (include_of bytes) else []

-- after a line with a fault nothing is looked up
abbrev pub after_line : ExpandResult → (List Define → List (List ℕ)) → List (List ℕ)
after_line (Ok made) more = more made.defines
after_line (Err fault) more = []

-- the lines from this number on, in order
abbrev pub by_lines : Includes → Seeks → ℕ → List Define → List (List ℕ) → List (List ℕ)
by_lines includes seeks line defines [] = []
by_lines includes seeks line defines (l ∷ ls) =
    by_line seeks defines l ++ after_line (expand_line includes line defines l) (λ more. by_lines includes seeks (line + 1) more ls)

abbrev pub by_content : (List (List ℕ) → List (List ℕ)) → Option (List ℕ) → List (List ℕ)
by_content seek None = []
by_content seek (Some content) = seek (source_lines content)

-- an included file, if that many may still be open at once
unfoldable pub by_include : Files → List (List ℕ) → ℕ → Seeks
by_include files dirs zero defines name = []
by_include files dirs (suc room) defines name =
    sought files dirs name ++ by_content (by_lines (include files dirs room) (by_include files dirs room) 1 defines)
    (find_file files dirs name)

-- ---- a task

-- what a text of these words has looked up
abbrev pub by_text : Files → Task → List ℕ → List (List ℕ)
by_text files task content = by_lines (include files task.dirs includes_max) (by_include files task.dirs includes_max) 1 task.defines (source_lines content)

-- what the input has looked up, if it is there
abbrev pub by_input : Files → Task → Option (List ℕ) → List (List ℕ)
by_input files task None = []
by_input files task (Some content) = if is_ready task.product task.input then [] else by_text files task content

-- the input, and what it has looked up
abbrev pub task_names : Files → Task → List (List ℕ)
task_names files task = task.input ∷ by_input files task (get files task.input)

abbrev pub asked_names : Files → Option Task → List (List ℕ)
asked_names files (Some task) = task_names files task
asked_names files None = []

-- ---- the first of some names that isn't known

-- a file of the map, or a name that is known to be none
abbrev pub is_known : Files → List (List ℕ) → List ℕ → Bool
is_known known absent name = is_some (get known name) || is_listed absent name

abbrev pub first_unknown : Files → List (List ℕ) → List (List ℕ) → Option (List ℕ)
first_unknown known absent [] = None
first_unknown known absent (name ∷ names) = if is_known known absent name then first_unknown known absent names else Some name

-- a name that isn't known stopped the lookups, or a fault after names that are known, or out of memory
abbrev pub StoppedAt : Option (List ℕ) → ExpandStop → Type 0
StoppedAt next (Fault line fault) = next ≡ None
StoppedAt next (Unknown path) = next ≡ Some path
StoppedAt next Memory = Unit {0}

-- the names were looked up until one that isn't known, unless memory ran out
abbrev pub Walked : {T : Type 0} → Option (List ℕ) → Result T ExpandStop → Type 0
Walked next (Ok value) = next ≡ None
Walked next (Err stop) = StoppedAt next stop

-- ---- names, each once

-- the names that aren't listed before, each at its first place
abbrev pub firsts_after : List (List ℕ) → List (List ℕ) → List (List ℕ)
firsts_after before [] = []
firsts_after before (name ∷ names) =
    if is_listed before name then firsts_after before names else name ∷ firsts_after (before ++ name ∷ []) names
