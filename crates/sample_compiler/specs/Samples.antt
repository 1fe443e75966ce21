-- What the compiler leaves: the one run that a command's words ask for, over files.
use Rattle.std.specs.Prelude.{ℕ, ◌≡◌, ◌++◌, ◌⊎◌, List, [], codes, Bool, true, false, if◌then◌else◌, Option, Some, None, Result, Ok, Err}
use Rattle.std.specs.Prelude.{nat_eq, ◌||◌}
use Rattle.std.specs.List.{ends_with}
use Rattle.std.specs.Option.{option_map}
use Rattle.std.specs.FinMap.{get}
use Rattle.std.specs.Fmt.{decimal}
use Rattle.farm_types.specs.declared.ran.Ran.{Ran}
use Rattle.sample_lang.specs.declared.program.Item.{Item}
use Rattle.sample_lang.specs.Sources.{SourceOf, FaultStands}
use Rattle.sample_compiler.specs.declared.task.Product.{Product}
use Rattle.sample_compiler.specs.declared.task.Product.TheVariants.{Text, Object}
use Rattle.sample_compiler.specs.declared.task.Task.{Task}
use Rattle.sample_compiler.specs.declared.stops.ExpandFault.{ExpandFault}
use Rattle.sample_compiler.specs.declared.stops.ExpandFault.TheVariants.{BadDirective, NoFile, TooDeep}
use Rattle.sample_compiler.specs.Objects.{items_text}
use Rattle.file_map.specs.FileMaps.{Files}
use Rattle.sample_compiler.specs.Expanding.{ExpandResult, expanded}
use Rattle.sample_compiler.specs.Tasks.{task_of}

abbrev pub expand_message : ExpandFault → List ℕ
expand_message BadDirective = codes "bad directive"
expand_message (NoFile name) = codes "no file " ++ name
expand_message TooDeep = codes "includes too deep"

-- a message with the line that it is about
abbrev pub line_text : ℕ → List ℕ → List ℕ
line_text line message = codes "line " ++ decimal line ++ codes ": " ++ message ++ codes "\n"

-- a fault: status 256, and its message
abbrev pub failed : ℕ → List ℕ → Ran
failed line message = record { status = 256; out = []; err = line_text line message; object = [] }

-- a text on standard output
abbrev pub printed : List ℕ → Ran
printed text = record { status = 0; out = text; err = []; object = [] }

-- an object
abbrev pub made : List Item → Ran
made items = record { status = 0; out = []; err = []; object = items_text items }

-- the source, or its fault with the line, compiled
abbrev pub CompilesTo : List ℕ → Ran → Type 0
CompilesTo text ran =
    ((items : List Item) × SourceOf text items × (ran ≡ made items))
    ⊎ ((line : ℕ) × (message : List ℕ) × FaultStands text line message × (ran ≡ failed line message))

-- ---- the text that is compiled or printed

-- the text of an outcome
abbrev pub text_of : ExpandResult → Result (List ℕ) (ℕ × ExpandFault)
text_of (Ok done) = Ok done.text
text_of (Err fault) = Err fault

-- such a name is that of a preprocessed source
abbrev pub is_preprocessed_name : List ℕ → Bool
is_preprocessed_name name = ends_with nat_eq name (codes ".i") || ends_with nat_eq name (codes ".ii")

-- the input is compiled as it is
abbrev pub is_ready : Product → List ℕ → Bool
is_ready Text input = false
is_ready (Object output) input = is_preprocessed_name input

-- the input preprocessed
abbrev pub expanded_text : Files → Task → List ℕ → Result (List ℕ) (ℕ × ExpandFault)
expanded_text files task content = text_of (expanded files task.dirs task.defines content)

-- an input that isn't found is a fault on line 0
abbrev pub content_text : Files → Task → Option (List ℕ) → Result (List ℕ) (ℕ × ExpandFault)
content_text files task None = Err (0, NoFile task.input)
content_text files task (Some content) = if is_ready task.product task.input then Ok content else expanded_text files task content

abbrev pub task_text : Files → Task → Result (List ℕ) (ℕ × ExpandFault)
task_text files task = content_text files task (get files task.input)

-- ---- the run

-- the wait status of exit code 2: words that the compiler doesn't take
abbrev pub bad_words_wait_status : ℕ
bad_words_wait_status = 512

-- what the compiler leaves of them
abbrev pub bad_words : Ran
bad_words = record { status = bad_words_wait_status; out = []; err = codes "scc: bad words\n"; object = [] }

-- the text is printed or compiled
abbrev pub MadeOf : Product → List ℕ → Ran → Type 0
MadeOf Text text ran = ran ≡ printed text
MadeOf (Object output) text ran = CompilesTo text ran

abbrev pub LeftBy : Product → Result (List ℕ) (ℕ × ExpandFault) → Ran → Type 0
LeftBy product (Ok text) ran = MadeOf product text ran
LeftBy product (Err fault) ran = ran ≡ failed fault.0 (expand_message fault.1)

abbrev pub LeavesAsked : Files → Option Task → Ran → Type 0
LeavesAsked files (Some task) ran = LeftBy task.product (task_text files task) ran
LeavesAsked files None ran = ran ≡ bad_words

-- what the compiler leaves, run by these words over these files
abbrev pub SampleOf : Files → List (List ℕ) → Ran → Type 0
SampleOf files words ran = LeavesAsked files (task_of words) ran

-- ---- the preprocessed text only

-- the same task, except for what is made
abbrev pub as_text : Task → Task
as_text task = record { product = Text; input = task.input; dirs = task.dirs; defines = task.defines }

-- what the compiler leaves by the same words with `-E` as their command
abbrev pub PreprocessedOf : Files → List (List ℕ) → Ran → Type 0
PreprocessedOf files words ran = LeavesAsked files (option_map as_text (task_of words)) ran

-- the words ask for the preprocessed text, or for nothing that the compiler does
abbrev pub asks_for_text : List (List ℕ) → Bool
asks_for_text words = of_task (task_of words)
  where
    of_product : Product → Bool
    of_product Text = true
    of_product (Object output) = false

    of_task : Option Task → Bool
    of_task (Some task) = of_product task.product
    of_task None = true
