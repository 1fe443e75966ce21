-- What `scc --link` and `scc --run` do.
use Rattle.std.specs.Prelude.{ℕ, zero, suc, ◌≡◌, ◌⊎◌, List, [], ◌∷◌, ◌++◌, codes, get_or, Option, None, Some, Result, Ok, Err}
use Rattle.std.specs.List.{flat_map}
use Rattle.std.specs.Fmt.{decimal}
use Rattle.farm_types.specs.Bytes.{space}
use Rattle.farm_types.specs.declared.ran.Ran.{Ran}
use Rattle.farm_types.specs.Exits.{exit_code_of, fault_status}
use Rattle.edge_traits.specs.declared.entries.Put.{Put}
use Rattle.edge_traits.specs.Told.{Grew}
use Rattle.edge_traits.specs.Causes.{Still}
use Rattle.edge_traits.specs.Keepers.{KeeperView}
use Rattle.stream_print.specs.Prints.{SinksView}
use Rattle.stream_print.specs.Printing.{Printing, WantOf}
use Rattle.sample_compiler.specs.Samples.{printed, bad_words}
use Rattle.sample_linker.specs.declared.faults.LinkFault.{LinkFault}
use Rattle.sample_linker.specs.declared.faults.LinkFault.TheVariants.{BadObject, Doubled, Unresolved, Circular}
use Rattle.sample_linker.specs.declared.faults.Linked.{Linked}
use Rattle.sample_linker.specs.declared.faults.Linked.TheVariants as linked
use Rattle.sample_linker.specs.declared.running.RunFault.{RunFault}
use Rattle.sample_linker.specs.declared.running.RunFault.TheVariants.{BadImage, NoMain}
use Rattle.sample_linker.specs.declared.running.Value.{Value}
use Rattle.sample_linker.specs.declared.running.Value.TheVariants as values
use Rattle.sample_linker.specs.Links.{LinkTo}
use Rattle.sample_linker.specs.Values.{HasValue}
use Rattle.sample_program.specs.declared.fetching.FetchStop.{FetchStop}
use Rattle.sample_program.specs.declared.fetching.FetchStop.TheVariants as fetches
use Rattle.sample_program.specs.declared.running.RunStop.{RunStop}
use Rattle.sample_program.specs.declared.running.RunStop.TheVariants.{File, Memory}
use Rattle.sample_program.specs.Fetches.{files_max, entries_with, Took, TookAll, Missed, MissedOne}
use Rattle.sample_program.specs.Puts.{PutBy, PutStop, NoneFetched, no_memory_text, file_fault_text, printed_by}
use Rattle.stream_print.specs.Printing.{complaint}

-- ---- what is printed

-- a message, with the status of a fault
abbrev pub refused : List ℕ → Ran
refused text = record { status = 256; out = []; err = text; object = [] }

-- each name after a blank
abbrev pub listed : List (List ℕ) → List ℕ
listed names = flat_map (λ name. space ∷ name) names

-- the name of the file with this number, counted from 1
abbrev pub file_name : List (List ℕ) → ℕ → List ℕ
file_name files zero = []
file_name files (suc at) = get_or files at []

abbrev pub object_text : List ℕ → ℕ → List ℕ
object_text name line = codes "link: bad object " ++ name ++ codes " at line " ++ decimal line ++ codes "\n"

abbrev pub fault_text : List (List ℕ) → LinkFault → List ℕ
fault_text files (BadObject file line) = object_text (file_name files file) line
fault_text files (Doubled name) = codes "link: doubled " ++ name ++ codes "\n"
fault_text files (Unresolved name) = codes "link: unresolved " ++ name ++ codes "\n"
fault_text files (Circular names) = codes "link: circular" ++ listed names ++ codes "\n"

abbrev pub run_text : RunFault → List ℕ
run_text (BadImage line) = codes "run: bad image at line " ++ decimal line ++ codes "\n"
run_text NoMain = codes "run: no main\n"

-- what linking these files prints; out of memory is no run
abbrev pub IsLinkRan : List (List ℕ) → Linked → Ran → Type 0
IsLinkRan files (linked.Image image) ran = ran ≡ printed []
IsLinkRan files (linked.Fault fault) ran = ran ≡ refused (fault_text files fault)
IsLinkRan files linked.Memory ran = ⊥

-- what running an image prints; out of memory is no run
abbrev pub IsValueRan : Value → Ran → Type 0
IsValueRan (values.Number n) ran = ran ≡ printed (decimal n ++ codes "\n")
IsValueRan (values.Fault fault) ran = ran ≡ refused (run_text fault)
IsValueRan values.Memory ran = ⊥

-- the image, under its name
abbrev pub link_puts : List ℕ → Linked → List Put
link_puts name (linked.Image image) = record { path = name; bytes = image } ∷ []
link_puts name (linked.Fault fault) = []
link_puts name linked.Memory = []

-- what is printed if a file is missing or too large; the other stops are no run
abbrev pub MissedRan : FetchStop → Ran → Type 0
MissedRan (fetches.Missing name) ran = ran ≡ refused (codes "no file " ++ name ++ codes "\n")
MissedRan fetches.TooLarge ran = ran ≡ refused (codes "too large\n")
MissedRan fetches.File ran = ⊥
MissedRan fetches.Memory ran = ⊥

-- which stop of fetching stops the run so
abbrev pub MissedStop : FetchStop → RunStop → Type 0
MissedStop (fetches.Missing name) File = ⊥
MissedStop (fetches.Missing name) Memory = Unit {0}
MissedStop fetches.TooLarge File = ⊥
MissedStop fetches.TooLarge Memory = Unit {0}
MissedStop fetches.File File = Unit {0}
MissedStop fetches.File Memory = ⊥
MissedStop fetches.Memory File = ⊥
MissedStop fetches.Memory Memory = Unit {0}

-- the image was put, or the fault is printed and nothing was put
pub record DidPut (files : List (List ℕ)) (image : List ℕ) (answer : Linked) (old new : KeeperView) (ran : Ran) : Type 0 where
  pub put : PutBy (link_puts image answer) old new
  pub none : NoneFetched old new
  pub calm : Still old.faults new.faults
  pub ran_so : IsLinkRan files answer ran

-- nothing was put
pub record StoppedPut (old new : KeeperView) (stop : RunStop) : Type 0 where
  pub put : PutBy [] old new
  pub none : NoneFetched old new
  pub cause : PutStop old new stop

-- ---- linking

-- The files were fetched and linked, and the image was put under its name, and nothing else; or a file is missing, or they are
-- too large, and nothing was put.
pub data DidLink (files : List (List ℕ)) (image : List ℕ) (old new : KeeperView) (ran : Ran) : Type 0 where
  linked_so : (objects : List (List ℕ)) (answer : Linked) → TookAll files old new objects → LinkTo objects answer
      → PutBy (link_puts image answer) old new
      → IsLinkRan files answer ran → DidLink files image old new ran
  missed_so : (stop : FetchStop) → MissedOne files old new stop → PutBy [] old new → MissedRan stop ran → DidLink files image old new ran

-- The keeper failed, or memory ran out. Some first files were fetched, and nothing was put.
pub record Stopped (files : List (List ℕ)) (old new : KeeperView) (stop : RunStop) : Type 0 where
  pub put : PutBy [] old new
  pub contents : List (List ℕ)
  pub fetched : Grew old.fetches new.fetches (entries_with files contents)
  pub cause : PutStop old new stop

-- ---- running

-- The image was fetched and run; or it is missing or too large. Nothing was put.
pub data DidRunImage (image : List ℕ) (old new : KeeperView) (ran : Ran) : Type 0 where
  run_so : (content : List ℕ) (answer : Value) → Took image files_max old new content → HasValue content answer → PutBy [] old new
      → IsValueRan answer ran → DidRunImage image old new ran
  unread_so : (stop : FetchStop) → Missed image files_max old new stop → PutBy [] old new → MissedRan stop ran
      → DidRunImage image old new ran

-- ---- the program

-- what a run left was printed; or what there is to print if there was none
abbrev pub PrintsRan : Result Ran RunStop → SinksView → SinksView → ℕ → Type 0
PrintsRan (Ok ran) sinks sinks_now answer = Printing no_memory_text (printed_by ran) (exit_code_of ran.status) sinks sinks_now answer
PrintsRan (Err File) sinks sinks_now answer = Printing no_memory_text (complaint file_fault_text ∷ []) fault_status sinks sinks_now answer
PrintsRan (Err Memory) sinks sinks_now answer = WantOf no_memory_text [] sinks sinks_now answer

-- the message for words that aren't right, unless memory ran out
abbrev pub RefusedWords : SinksView → SinksView → ℕ → Type 0
RefusedWords sinks sinks_now answer = PrintsRan (Ok bad_words) sinks sinks_now answer ⊎ PrintsRan (Err Memory) sinks sinks_now answer

-- there was a run, or a stop, which was printed
abbrev pub CameTo : (Ran → Type 0) → (RunStop → Type 0) → Result Ran RunStop → Type 0
CameTo did halted (Ok ran) = did ran
CameTo did halted (Err stop) = halted stop

pub record Prints (did : Ran → Type 0) (halted : RunStop → Type 0) (sinks sinks_now : SinksView) (answer : ℕ) : Type 0 where
  pub result : Result Ran RunStop
  pub came : CameTo did halted result
  pub printed_so : PrintsRan result sinks sinks_now answer

-- what is done by the words after `--link`
abbrev pub DoesLink : Option (List (List ℕ) × List ℕ) → KeeperView → KeeperView → SinksView → SinksView → ℕ → Type 0
DoesLink (Some form) old new sinks sinks_now answer = Prints (DidLink form.0 form.1 old new) (Stopped form.0 old new) sinks sinks_now answer
DoesLink None old new sinks sinks_now answer = (new ≡ old) × RefusedWords sinks sinks_now answer

-- what is done by the words after `--run`
abbrev pub DoesRun : Option (List ℕ) → KeeperView → KeeperView → SinksView → SinksView → ℕ → Type 0
DoesRun (Some image) old new sinks sinks_now answer = Prints (DidRunImage image old new)
    (Stopped (image ∷ []) old new) sinks sinks_now answer
DoesRun None old new sinks sinks_now answer = (new ≡ old) × RefusedWords sinks sinks_now answer
