-- What a load and then a put leave.
use Rattle.std.proofs.Common.{◌≡◌, ℕ, List, [], ◌++◌, refl, ap, sym, ◌∙◌, subst, append_assoc, ⊎_elim, inl, inr, arith}
use Rattle.std.specs.Prelude.{◌⊎◌, Option, IsTrue, Result, Ok, Err, IfOk, IfErr}
use Rattle.stream_print.specs.Prints.{SinksView}
use Rattle.sample_program.specs.Links.{PrintsRan}
use Rattle.std.proofs.lemmas.List.{append-nil}
use Rattle.farm_types.specs.declared.ran.Ran.{Ran}
use Rattle.edge_traits.specs.declared.entries.Put.{Put}
use Rattle.edge_traits.specs.declared.entries.Fetch.{Fetch}
use Rattle.edge_traits.specs.Told.{Told, Grew}
use Rattle.edge_traits.specs.Causes.{Rose, Still, IsRemoval}
use Rattle.file_map.specs.FileMaps.{Files}
use Rattle.edge_traits.specs.Keepers.{KeeperView, IsIdle}
use Rattle.sample_compiler.specs.declared.task.Task.{Task}
use Rattle.sample_compiler.specs.declared.loading.LoadFault.TheVariants.{TooMuch}
use Rattle.sample_compiler.specs.Tasks.{task_of}
use Rattle.sample_compiler.specs.Samples.{SampleOf}
use Rattle.sample_compiler.specs.Seeking.{asked_names}
use Rattle.sample_compiler.specs.Loads.{unstaged, entries_at, names_for, FetchedFront, HasAbsent, LongNamed, OverrunsStand, OnlyFetched}
use Rattle.sample_compiler.specs.Loads.{SameRuns, WasTooLong}
use Rattle.sample_program.specs.declared.running.RunStop.{RunStop}
use Rattle.sample_program.specs.declared.running.RunStop.TheVariants.{File, Memory}
use Rattle.sample_program.specs.Programs.{named, firsts_looked_up, fetches_of, OverrunsStandBy, DidRun, StopCause, StoppedRun, Compiled}
use Rattle.sample_program.specs.Programs.{ran_so, files_failed, memory_wanted}
use Rattle.sample_program.specs.Puts.{PutBy, PutStop, NoneFetched, files_with, puts_of}

-- ---- lists that are told

pub grew_nothing : {T : Type 0} (a : Told (List T)) → Grew a a []
grew_nothing a = record { known = λ told. told; grew = λ told. sym (append-nil a.value) }

pub grew_then : {T : Type 0} (a b c : Told (List T)) (more : List T) → Grew a b more → Grew b c [] → Grew a c more
grew_then a b c more one none = record {
  known = λ told. one.known (none.known told);
  grew = λ told. none.grew told ∙ append-nil b.value ∙ one.grew (none.known told);
}

-- ---- nothing was done

pub put_none : (view : KeeperView) → IsIdle view → PutBy [] view view
put_none view idle = record {
  puts_more = grew_nothing view.puts;
  files = record { known = λ told. told; became = λ told. refl };
  idle = idle;
}

pub fetched_none : (view : KeeperView) → NoneFetched view view
fetched_none view = record { fetches = grew_nothing view.fetches; overruns = refl }

pub stopped_first : (words : List (List ℕ)) (view : KeeperView) → IsIdle view → StoppedRun words view view Memory
stopped_first words view idle = record {
  put = put_none view idle;
  fetched = λ told. record { front = []; rest = firsts_looked_up view.files.value words; parts = refl; grew = grew_nothing view.fetches };
  cause = record { removal = omega arith; overruns = λ told. inl refl };
}

-- ---- a load

-- files were fetched, and then these put
pub fetched_put : (puts : List Put) (old mid new : KeeperView) → OnlyFetched old mid → PutBy puts mid new → PutBy puts old new
fetched_put puts old mid new only put = record {
  puts_more = record {
    known = λ told. only.puts.known (put.puts_more.known told);
    grew = λ told. put.puts_more.grew told ∙ ap (λ x. x ++ puts) (only.puts.grew (put.puts_more.known told))
        ∙ append_assoc old.puts.value [] puts;
  };
  files = record {
    known = λ told. only.files.known (put.files.known told);
    became = λ told. put.files.became told ∙ ap (λ files. files_with files puts) (only.files.became (put.files.known told));
  };
  idle = put.idle;
}

-- nothing was put where files were fetched alone
pub only_fetched : (old mid : KeeperView) → OnlyFetched old mid → PutBy [] old mid
only_fetched old mid only = fetched_put [] old mid mid only (put_none mid only.idle)

-- what a load that went well leaves, said of the files before it
pub record Loaded (words : List (List ℕ)) (old mid : KeeperView) : Type 0 where
  pub only : OnlyFetched old mid
  pub calm : Still old.faults mid.faults
  pub fetched : IsTrue mid.files.known → Grew old.fetches mid.fetches (fetches_of old.files.value words)
  pub overruns : OverrunsStandBy words old mid

stands_before : (words all : List (List ℕ)) (old mid : KeeperView) → all ≡ named words → OnlyFetched old mid
    → OverrunsStand old mid (asked_names (unstaged mid.files.value) (task_of all)) → OverrunsStandBy words old mid
stands_before words all old mid is only stands told =
    subst (λ (ws : List (List ℕ)). Still old.overruns mid.overruns
    ⊎ HasAbsent old.files.value (asked_names (unstaged old.files.value) (task_of ws))) is
    (subst (λ (files : Files). Still old.overruns mid.overruns ⊎ HasAbsent files (asked_names (unstaged files) (task_of all)))
    (only.files.became told) (stands told))

pub loaded : (words all : List (List ℕ)) (old mid : KeeperView) → all ≡ named words → OnlyFetched old mid → Still old.faults mid.faults
    → (IsTrue mid.files.known
    → Grew old.fetches mid.fetches (entries_at (unstaged mid.files.value) (names_for (unstaged mid.files.value) all)))
    → OverrunsStand old mid (asked_names (unstaged mid.files.value) (task_of all)) → Loaded words old mid
loaded words all old mid is only calm fetched stands = record {
  only = only;
  calm = calm;
  fetched = λ told.
      subst (λ (ws : List (List ℕ)). Grew old.fetches mid.fetches
      (entries_at (unstaged old.files.value) (names_for (unstaged old.files.value) ws))) is
      (subst (λ (files : Files). Grew old.fetches mid.fetches (entries_at (unstaged files) (names_for (unstaged files) all)))
      (only.files.became told) (fetched told));
  overruns = stands_before words all old mid is only stands;
}

-- a load that came to nothing
stopped_load : (words all : List (List ℕ)) (old mid : KeeperView) (stop : RunStop) → all ≡ named words → OnlyFetched old mid
    → (IsTrue mid.files.known → FetchedFront (unstaged mid.files.value) (names_for (unstaged mid.files.value) all) old.fetches mid.fetches)
    → StopCause words old mid stop → StoppedRun words old mid stop
stopped_load words all old mid stop is only tried cause = record {
  put = only_fetched old mid only;
  fetched = λ told.
      subst (λ (ws : List (List ℕ)). FetchedFront (unstaged old.files.value)
      (names_for (unstaged old.files.value) ws) old.fetches mid.fetches) is
      (subst (λ (files : Files). FetchedFront (unstaged files) (names_for (unstaged files) all) old.fetches mid.fetches)
      (only.files.became told) (tried told));
  cause = cause;
}

pub load_failed : (words all : List (List ℕ)) (old mid : KeeperView) → all ≡ named words → OnlyFetched old mid
    → (IsTrue mid.files.known → FetchedFront (unstaged mid.files.value) (names_for (unstaged mid.files.value) all) old.fetches mid.fetches)
    → Rose old.faults mid.faults → StoppedRun words old mid File
load_failed words all old mid is only tried rose = stopped_load words all old mid File is only tried (inl rose)

pub load_too_long : (words all : List (List ℕ)) (old mid : KeeperView) (bytes : ℕ) → all ≡ named words → OnlyFetched old mid
    → (IsTrue mid.files.known → FetchedFront (unstaged mid.files.value) (names_for (unstaged mid.files.value) all) old.fetches mid.fetches)
    → WasTooLong old mid bytes → LongNamed mid (asked_names (unstaged mid.files.value) (task_of all)) (TooMuch bytes)
    → StoppedRun words old mid File
load_too_long words all old mid bytes is only tried long among = stopped_load words all old mid File is only tried
    (inr (record {
      bytes = bytes;
      long = long;
      among = subst (λ (ws : List (List ℕ)). LongNamed mid (asked_names (unstaged mid.files.value) (task_of ws)) (TooMuch bytes)) is among;
    }))

pub load_wanted : (words all : List (List ℕ)) (old mid : KeeperView) → all ≡ named words → OnlyFetched old mid
    → (IsTrue mid.files.known → FetchedFront (unstaged mid.files.value) (names_for (unstaged mid.files.value) all) old.fetches mid.fetches)
    → Still old.faults mid.faults → OverrunsStand old mid (asked_names (unstaged mid.files.value) (task_of all))
    → StoppedRun words old mid Memory
load_wanted words all old mid is only tried calm stands = stopped_load words all old mid Memory is only tried
    (record { removal = omega (arith, calm); overruns = stands_before words all old mid is only stands })

-- ---- behind a load

all_fetched : (files : Files) (names : List (List ℕ)) (old mid : Told (List Fetch)) → Grew old mid (entries_at files names)
    → FetchedFront files names old mid
all_fetched files names old mid grew = record { front = names; rest = []; parts = sym (append-nil names); grew = grew }

pub stopped_loaded : (words : List (List ℕ)) (old mid : KeeperView) → Loaded words old mid → StoppedRun words old mid Memory
stopped_loaded words old mid loaded = record {
  put = only_fetched old mid loaded.only;
  fetched = λ told. all_fetched (unstaged old.files.value) (firsts_looked_up old.files.value words) old.fetches mid.fetches
      (loaded.fetched told);
  cause = record { removal = omega (arith, loaded.calm); overruns = loaded.overruns };
}

fetched_then : (words : List (List ℕ)) (old mid new : KeeperView) (puts : List Put) → Loaded words old mid → PutBy puts mid new
    → NoneFetched mid new
    → IsTrue new.files.known → Grew old.fetches new.fetches (fetches_of old.files.value words)
fetched_then words old mid new puts loaded put none told =
    grew_then old.fetches mid.fetches new.fetches (fetches_of old.files.value words) (loaded.fetched (put.files.known told)) none.fetches

overruns_then : (words : List (List ℕ)) (old mid new : KeeperView) (puts : List Put) → Loaded words old mid → PutBy puts mid new
    → NoneFetched mid new → OverrunsStandBy words old new
overruns_then words old mid new puts loaded put none told =
    ⊎_elim (λ still. inl (none.overruns ∙ still)) (λ gone. inr gone) (loaded.overruns (put.files.known told))

pub rose_then : (a b c : ℕ) → Still a b → Rose b c → Rose a c
rose_then a b c calm rose = omega (arith, calm, rose)

pub removal_then : (a b c : ℕ) → Still a b → IsRemoval b c → IsRemoval a c
removal_then a b c calm removal = omega (arith, calm, removal)

cause_then : (words : List (List ℕ)) (old mid new : KeeperView) (stop : RunStop) → Loaded words old mid → PutBy [] mid new
    → NoneFetched mid new → PutStop mid new stop → StopCause words old new stop
cause_then words old mid new File loaded put none cause = inl (rose_then old.faults mid.faults new.faults loaded.calm cause)
cause_then words old mid new Memory loaded put none cause = record {
  removal = removal_then old.faults mid.faults new.faults loaded.calm cause;
  overruns = overruns_then words old mid new [] loaded put none;
}

pub stopped_put : (words : List (List ℕ)) (old mid new : KeeperView) (stop : RunStop) → Loaded words old mid → PutBy [] mid new
    → NoneFetched mid new → PutStop mid new stop → StoppedRun words old new stop
stopped_put words old mid new stop loaded put none cause = record {
  put = fetched_put [] old mid new loaded.only put;
  fetched = λ told. all_fetched (unstaged old.files.value) (firsts_looked_up old.files.value words) old.fetches new.fetches
      (fetched_then words old mid new [] loaded put none told);
  cause = cause_then words old mid new stop loaded put none cause;
}

pub did_run : (words all : List (List ℕ)) (old mid new : KeeperView) (files : Files) (ran : Ran) (asked : Option Task) → all ≡ named words
    → Loaded words old mid
    → (IsTrue mid.files.known → SameRuns all (unstaged mid.files.value) files) → SampleOf files all ran → asked ≡ task_of all
    → PutBy (puts_of asked ran) mid new → NoneFetched mid new → Still mid.faults new.faults → DidRun words old new ran
did_run words all old mid new files ran asked is loaded same leaves by put none calm =
    let later = fetched_put (puts_of asked ran) old mid new loaded.only put in
    record {
      files = files;
      leaves = subst (λ ws. SampleOf files ws ran) is leaves;
      told = λ told.
          let known = put.files.known told in
          subst (λ ws. SampleOf (unstaged old.files.value) ws ran) is
          (subst (λ fs. SampleOf (unstaged fs) all ran) (loaded.only.files.became known) ((same known).back ran leaves));
      put = subst (λ ws. PutBy (puts_of (task_of ws) ran) old new) is (subst (λ a. PutBy (puts_of a ran) old new) by later);
      fetched = fetched_then words old mid new (puts_of asked ran) loaded put none;
      calm = calm ∙ loaded.calm;
      overruns = overruns_then words old mid new (puts_of asked ran) loaded put none;
    }

-- ---- what is printed

-- a run of the compiler, or its stop, was printed
pub compiled_as : (words : List (List ℕ)) (old new : KeeperView) (sinks sinks_now : SinksView) (answer : ℕ) (result : Result Ran RunStop)
    → IfOk result (DidRun words old new) → IfErr result (StoppedRun words old new)
    → PrintsRan result sinks sinks_now answer → Compiled words old new sinks sinks_now answer
compiled_as words old new sinks sinks_now answer (Ok ran) did stop p = ran_so ran did p
compiled_as words old new sinks sinks_now answer (Err File) did stop p = files_failed stop p
compiled_as words old new sinks sinks_now answer (Err Memory) did stop p = memory_wanted stop p
