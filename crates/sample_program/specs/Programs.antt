-- What `scc` does.
use Rattle.std.specs.Prelude.{ℕ, ◌≡◌, ◌⊎◌, List, [], ◌∷◌, codes, Option, None, Some, IsTrue, MatchBool, bytes_eq}
use Rattle.farm_types.specs.declared.ran.Ran.{Ran}
use Rattle.farm_types.specs.Exits.{exit_code_of, fault_status}
use Rattle.edge_traits.specs.declared.entries.Fetch.{Fetch}
use Rattle.edge_traits.specs.Told.{Grew}
use Rattle.edge_traits.specs.Causes.{Rose, Still, IsRemoval}
use Rattle.file_map.specs.FileMaps.{Files}
use Rattle.edge_traits.specs.Keepers.{KeeperView}
use Rattle.stream_print.specs.Prints.{SinksView}
use Rattle.stream_print.specs.Printing.{Printing, WantOf, complaint}
use Rattle.sample_compiler.specs.Tasks.{task_of}
use Rattle.sample_compiler.specs.Samples.{SampleOf}
use Rattle.sample_compiler.specs.Loads.{unstaged, entries_at, names_for, FetchedFront, HasAbsent, LongNamed, WasTooLong}
use Rattle.sample_compiler.specs.Seeking.{asked_names}
use Rattle.sample_compiler.specs.declared.loading.LoadFault.TheVariants.{TooMuch}
use Rattle.sample_program.specs.declared.running.RunStop.{RunStop}
use Rattle.sample_program.specs.declared.running.RunStop.TheVariants.{File, Memory}
use Rattle.sample_program.specs.Helps.{told_text}
use Rattle.sample_program.specs.Forms.{link_form, run_form}
use Rattle.sample_program.specs.Links.{DoesLink, DoesRun}
use Rattle.sample_program.specs.Puts.{PutBy, puts_of, no_memory_text, file_fault_text, printed_by, output}

-- ---- a run

-- the compiler's name, and then the words
abbrev pub named : List (List ℕ) → List (List ℕ)
named words = codes "scc" ∷ words

-- the names that the words look up over these files, in order, if one that ends in `.farm~` is no file
abbrev pub looked_up : Files → List (List ℕ) → List (List ℕ)
looked_up files words = asked_names (unstaged files) (task_of (named words))

-- the same, each at its first place
abbrev pub firsts_looked_up : Files → List (List ℕ) → List (List ℕ)
firsts_looked_up files words = names_for (unstaged files) (named words)

-- the files of these names, fetched in order, each once
abbrev pub fetches_of : Files → List (List ℕ) → List Fetch
fetches_of files words = entries_at (unstaged files) (firsts_looked_up files words)

-- If the files are told, no overrun rose, unless a name that the words look up is no file.
abbrev pub OverrunsStandBy : List (List ℕ) → KeeperView → KeeperView → Type 0
OverrunsStandBy words old new = IsTrue new.files.known
    → Still old.overruns new.overruns ⊎ HasAbsent old.files.value (looked_up old.files.value words)

-- The run is that of the compiler over some files: those of the keeper, if they are told, except names that end in
-- `.farm~`. The object of one that ended well was put, and nothing else. Each file that the words look up was fetched once,
-- and no other, and no fault rose.
pub record DidRun (words : List (List ℕ)) (old new : KeeperView) (ran : Ran) : Type 0 where
  pub files : Files
  pub leaves : SampleOf files (named words) ran
  pub told : IsTrue new.files.known → SampleOf (unstaged old.files.value) (named words) ran
  pub put : PutBy (puts_of (task_of (named words)) ran) old new
  pub fetched : IsTrue new.files.known → Grew old.fetches new.fetches (fetches_of old.files.value words)
  pub calm : Still old.faults new.faults
  pub overruns : OverrunsStandBy words old new

-- a file that the words look up was above the bound of what is fetched
pub record HasLong (words : List (List ℕ)) (old new : KeeperView) : Type 0 where
  pub bytes : ℕ
  pub long : WasTooLong old new bytes
  pub among : LongNamed new (looked_up new.files.value words) (TooMuch bytes)

-- the keeper's faults rose, or a file was too long
abbrev pub FileCause : List (List ℕ) → KeeperView → KeeperView → Type 0
FileCause words old new = Rose old.faults new.faults ⊎ HasLong words old new

-- Memory ran out only if nothing failed but the removal of what was being written, and it hides no file that was too long.
pub record WantCause (words : List (List ℕ)) (old new : KeeperView) : Type 0 where
  pub removal : IsRemoval old.faults new.faults
  pub overruns : OverrunsStandBy words old new

abbrev pub StopCause : List (List ℕ) → KeeperView → KeeperView → RunStop → Type 0
StopCause words old new File = FileCause words old new
StopCause words old new Memory = WantCause words old new

-- nothing was put, and of the files that the words look up some first ones were fetched, each once, and no others
pub record StoppedRun (words : List (List ℕ)) (old new : KeeperView) (stop : RunStop) : Type 0 where
  pub put : PutBy [] old new
  pub fetched : IsTrue new.files.known
      → FetchedFront (unstaged old.files.value) (firsts_looked_up old.files.value words) old.fetches new.fetches
  pub cause : StopCause words old new stop

-- ---- the program

-- The compiler ran, and what it left was printed; or the files failed; or memory ran out before anything was put or printed.
pub data Compiled (words : List (List ℕ)) (old new : KeeperView) (sinks sinks_now : SinksView) (answer : ℕ) : Type 0 where
  ran_so : (ran : Ran) → DidRun words old new ran
      → Printing no_memory_text (printed_by ran) (exit_code_of ran.status) sinks sinks_now answer
      → Compiled words old new sinks sinks_now answer
  files_failed : StoppedRun words old new File
      → Printing no_memory_text (complaint file_fault_text ∷ []) fault_status sinks sinks_now answer
      → Compiled words old new sinks sinks_now answer
  memory_wanted : StoppedRun words old new Memory → WantOf no_memory_text [] sinks sinks_now answer
      → Compiled words old new sinks sinks_now answer

-- the text was printed, or memory ran out before
abbrev pub Told : List ℕ → SinksView → SinksView → ℕ → Type 0
Told text sinks sinks_now answer = Printing no_memory_text (output text ∷ []) 0 sinks sinks_now answer
    ⊎ WantOf no_memory_text [] sinks sinks_now answer

-- what is done by the words; the first may name another form
abbrev pub DoesWords : List (List ℕ) → KeeperView → KeeperView → SinksView → SinksView → ℕ → Type 0
DoesWords [] old new sinks sinks_now answer = Compiled [] old new sinks sinks_now answer
DoesWords (first ∷ words) old new sinks sinks_now answer =
    MatchBool (bytes_eq first (codes "--link"))
    (DoesLink (link_form words) old new sinks sinks_now answer)
    (MatchBool (bytes_eq first (codes "--run"))
    (DoesRun (run_form words) old new sinks sinks_now answer)
    (Compiled (first ∷ words) old new sinks sinks_now answer))

abbrev pub DoesBy : Option (List ℕ) → List (List ℕ) → KeeperView → KeeperView → SinksView → SinksView → ℕ → Type 0
DoesBy (Some text) words old new sinks sinks_now answer = (new ≡ old) × Told text sinks sinks_now answer
DoesBy None words old new sinks sinks_now answer = DoesWords words old new sinks sinks_now answer

-- what is done by these words
abbrev pub Does : List (List ℕ) → KeeperView → KeeperView → SinksView → SinksView → ℕ → Type 0
Does words old new sinks sinks_now answer = DoesBy (told_text words) words old new sinks sinks_now answer
