-- What linking and running leave of a keeper.
use Rattle.std.proofs.Common.{◌≡◌, ◌<◌, ◌≤◌, ℕ, Bool, true, false, List, [], ◌∷◌, length, get_or, map, string_bytes, Global, codes, refl}
use Rattle.std.proofs.Common.{ap, sym, ◌∙◌, subst, inl, inr, arith}
use Rattle.std.specs.Cmp.Lexicographic.{same_text}
use Rattle.std.specs.Prelude.{Result, Ok, Err, IfOk, IfErr, MatchBool, String, bytes_eq}
use Rattle.sample_program.specs.Programs.{Compiled, DoesWords}
use Rattle.stream_print.specs.Prints.{SinksView}
use Rattle.sample_compiler.specs.Samples.{bad_words}
use Rattle.edge_traits.specs.Told.{Grew}
use Rattle.edge_traits.specs.Causes.{Still, IsRemoval}
use Rattle.edge_traits.specs.Keepers.{KeeperView, IsIdle}
use Rattle.farm_types.specs.declared.ran.Ran.{Ran}
use Rattle.edge_traits.specs.declared.entries.Put.{Put}
use Rattle.sample_compiler.specs.Loads.{OnlyFetched}
use Rattle.sample_linker.specs.declared.faults.Linked.{Linked}
use Rattle.sample_linker.specs.declared.faults.Linked.TheVariants as linked
use Rattle.sample_linker.specs.Links.{LinkTo, IsLinked}
use Rattle.sample_program.specs.declared.fetching.FetchStop.{FetchStop}
use Rattle.sample_program.specs.declared.fetching.FetchStop.TheVariants as fetches
use Rattle.sample_program.specs.declared.running.RunStop.{RunStop}
use Rattle.sample_program.specs.declared.running.RunStop.TheVariants.{File, Memory}
use Rattle.sample_linker.specs.declared.running.Value.{Value}
use Rattle.sample_linker.specs.declared.running.Value.TheVariants as values
use Rattle.sample_linker.specs.Values.{HasValue, IsValue}
use Rattle.sample_program.specs.Fetches.{files_max, entries_with, Took, TookAll, FetchCause, Missed, MissedOne}
use Rattle.sample_program.specs.Links.{IsLinkRan, IsValueRan, DidPut, StoppedPut, DidLink, DidRunImage, Stopped, MissedRan, MissedStop}
use Rattle.sample_program.specs.Links.{PrintsRan, RefusedWords, linked_so, missed_so, run_so, unread_so, link_puts}
use Rattle.sample_program.specs.Puts.{PutBy, PutStop, NoneFetched}
use Rattle.sample_program.proofs.FetchLemmas.{no_entries}
use Rattle.sample_program.proofs.RunLemmas.{grew_nothing, grew_then, fetched_put, only_fetched, put_none, rose_then, removal_then}

-- ---- linking

link_came : (files objects : List (List ℕ)) (answer : Linked) (ran : Ran) → IsLinked objects answer → IsLinkRan files answer ran
    → LinkTo objects answer
link_came files objects (linked.Image image) ran h r = h
link_came files objects (linked.Fault fault) ran h r = h
link_came files objects linked.Memory ran h r = absurd r

took_then : (files objects : List (List ℕ)) (puts : List Put) (old mid new : KeeperView) → TookAll files old mid objects
    → PutBy puts mid new → NoneFetched mid new → Still mid.faults new.faults
    → TookAll files old new objects
took_then files objects puts old mid new took put none calm = record {
  told = λ told. took.told (put.files.known told);
  count = took.count;
  within = took.within;
  fetched = grew_then old.fetches mid.fetches new.fetches (entries_with files objects) took.fetched none.fetches;
  calm = record { faults = calm ∙ took.calm.faults; overruns = none.overruns ∙ took.calm.overruns };
}

pub did_link : (files objects : List (List ℕ)) (image : List ℕ) (answer : Linked) (old mid new : KeeperView) (ran : Ran)
    → OnlyFetched old mid → TookAll files old mid objects → IsLinked objects answer
    → DidPut files image answer mid new ran → DidLink files image old new ran
did_link files objects image answer old mid new ran only took link did =
    linked_so objects answer (took_then files objects (link_puts image answer) old mid new took did.put did.none did.calm)
    (link_came files objects answer ran link did.ran_so)
    (fetched_put (link_puts image answer) old mid new only did.put) did.ran_so

pub missed_link : (files : List (List ℕ)) (image : List ℕ) (old mid : KeeperView) (stop : FetchStop) (ran : Ran) → OnlyFetched old mid
    → MissedOne files old mid stop → MissedRan stop ran
    → DidLink files image old mid ran
missed_link files image old mid stop ran only missed h = missed_so stop missed (only_fetched old mid only) h

-- ---- stops

cause_then : (old mid new : KeeperView) (stop : RunStop) → Still old.faults mid.faults → PutStop mid new stop → PutStop old new stop
cause_then old mid new File calm h = rose_then old.faults mid.faults new.faults calm h
cause_then old mid new Memory calm h = removal_then old.faults mid.faults new.faults calm h

pub stopped_link : (files objects : List (List ℕ)) (old mid new : KeeperView) (stop : RunStop) → OnlyFetched old mid
    → TookAll files old mid objects → StoppedPut mid new stop → Stopped files old new stop
stopped_link files objects old mid new stop only took stopped = record {
  put = fetched_put [] old mid new only stopped.put;
  contents = objects;
  fetched = grew_then old.fetches mid.fetches new.fetches (entries_with files objects) took.fetched stopped.none.fetches;
  cause = cause_then old mid new stop took.calm.faults stopped.cause;
}

still_removal : (a b : ℕ) → Still a b → IsRemoval a b
still_removal a b h = omega (arith, h)

missed_cause : (old mid : KeeperView) (missed : FetchStop) (stop : RunStop) → FetchCause old mid missed → MissedStop missed stop
    → PutStop old mid stop
missed_cause old mid (fetches.Missing name) File h m = absurd m
missed_cause old mid (fetches.Missing name) Memory h m = still_removal old.faults mid.faults h.0
missed_cause old mid fetches.TooLarge File h m = absurd m
missed_cause old mid fetches.TooLarge Memory h m = still_removal old.faults mid.faults h.0
missed_cause old mid fetches.File File h m = h
missed_cause old mid fetches.File Memory h m = absurd m
missed_cause old mid fetches.Memory File h m = absurd m
missed_cause old mid fetches.Memory Memory h m = still_removal old.faults mid.faults h

pub missed_stopped : (files : List (List ℕ)) (old mid : KeeperView) (missed : FetchStop) (stop : RunStop) → OnlyFetched old mid
    → MissedOne files old mid missed → MissedStop missed stop → Stopped files old mid stop
missed_stopped files old mid missed stop only one m = record {
  put = only_fetched old mid only;
  contents = one.contents;
  fetched = one.fetched;
  cause = missed_cause old mid missed stop one.cause m;
}

pub stopped_none : (files : List (List ℕ)) (view : KeeperView) → IsIdle view → Stopped files view view Memory
stopped_none files view idle = record {
  put = put_none view idle;
  contents = [];
  fetched = subst (Grew view.fetches view.fetches) (sym (no_entries files)) (grew_nothing view.fetches);
  cause = still_removal view.faults view.faults refl;
}

-- ---- an image

value_came : (content : List ℕ) (answer : Value) (ran : Ran) → IsValue content answer → IsValueRan answer ran → HasValue content answer
value_came content (values.Number n) ran h r = h
value_came content (values.Fault fault) ran h r = h
value_came content values.Memory ran h r = absurd r

pub did_run_image : (image content : List ℕ) (answer : Value) (old mid : KeeperView) (ran : Ran) → OnlyFetched old mid
    → Took image files_max old mid content → IsValue content answer → IsValueRan answer ran
    → DidRunImage image old mid ran
did_run_image image content answer old mid ran only took value r = run_so content answer took (value_came content answer ran value r)
    (only_fetched old mid only) r

pub missed_image : (image : List ℕ) (old mid : KeeperView) (stop : FetchStop) (ran : Ran) → OnlyFetched old mid
    → Missed image files_max old mid stop → MissedRan stop ran → DidRunImage image old mid ran
missed_image image old mid stop ran only missed h = unread_so stop missed (only_fetched old mid only) h

pub image_stopped : (image content : List ℕ) (old mid : KeeperView) → OnlyFetched old mid → Took image files_max old mid content
    → Stopped (image ∷ []) old mid Memory
image_stopped image content old mid only took = record {
  put = only_fetched old mid only;
  contents = content ∷ [];
  fetched = took.fetched;
  cause = still_removal old.faults mid.faults took.calm.faults;
}

pub image_missed : (image : List ℕ) (old mid : KeeperView) (missed : FetchStop) (stop : RunStop) → OnlyFetched old mid
    → Missed image files_max old mid missed → MissedStop missed stop
    → Stopped (image ∷ []) old mid stop
image_missed image old mid missed stop only one m = record {
  put = only_fetched old mid only;
  contents = [];
  fetched = one.fetched;
  cause = missed_cause old mid missed stop one.cause m;
}

-- ---- words that aren't right

pub refused_so : (sinks sinks_now : SinksView) (answer : ℕ) (result : Result Ran RunStop) → IfOk result (λ ran. ran ≡ bad_words)
    → IfErr result (λ stop. stop ≡ Memory)
    → PrintsRan result sinks sinks_now answer → RefusedWords sinks sinks_now answer
refused_so sinks sinks_now answer (Ok ran) is stop p = inl (subst (λ r. PrintsRan (Ok r) sinks sinks_now answer) is p)
refused_so sinks sinks_now answer (Err stop) is s p = inr (subst (λ e. PrintsRan (Err e) sinks sinks_now answer) s p)

-- ---- the results of calls

pub put_came : (files objects : List (List ℕ)) (image : List ℕ) (answer : Linked) (old mid new : KeeperView) (result : Result Ran RunStop)
    → OnlyFetched old mid → TookAll files old mid objects
    → IsLinked objects answer → IfOk result (DidPut files image answer mid new) → IfOk result (DidLink files image old new)
put_came files objects image answer old mid new
    (Ok ran) only took link did = did_link files objects image answer old mid new ran only took link did
put_came files objects image answer old mid new (Err stop) only took link did = tt

pub missed_came : (files : List (List ℕ)) (image : List ℕ) (old mid : KeeperView) (stop : FetchStop) (result : Result Ran RunStop)
    → OnlyFetched old mid → MissedOne files old mid stop
    → IfOk result (MissedRan stop) → IfOk result (DidLink files image old mid)
missed_came files image old mid stop (Ok ran) only missed h = missed_link files image old mid stop ran only missed h
missed_came files image old mid stop (Err e) only missed h = tt

pub image_came : (image : List ℕ) (old mid : KeeperView) (stop : FetchStop) (result : Result Ran RunStop) → OnlyFetched old mid
    → Missed image files_max old mid stop
    → IfOk result (MissedRan stop) → IfOk result (DidRunImage image old mid)
image_came image old mid stop (Ok ran) only missed h = missed_image image old mid stop ran only missed h
image_came image old mid stop (Err e) only missed h = tt

-- ---- the first word

pub does_empty : (words : List (String Global)) (old new : KeeperView) (sinks sinks_now : SinksView) (answer : ℕ) → length words < 1
    → Compiled (map (string_bytes {Z = Global}) words) old new sinks sinks_now answer
    → DoesWords (map (string_bytes {Z = Global}) words) old new sinks sinks_now answer
does_empty [] old new sinks sinks_now answer lt h = h
does_empty (word ∷ words) old new sinks sinks_now answer lt h = absurd (omega (arith, lt))

apart_by : (a b : List ℕ) (t : Bool) → bytes_eq a b ≡ t → (a ≡ b → ⊥) → t ≡ false
apart_by a b true e h = absurd (h (same_text a b (sym e)))
apart_by a b false e h = refl

chosen : (A B C : Type 0) (a b : Bool) → a ≡ false → b ≡ false → C → MatchBool a A (MatchBool b B C)
chosen A B C true b h k c = cc
chosen A B C false true h k c = cc
chosen A B C false false h k c = c

pub does_other : (words : List (String Global)) (first : String Global) (old new : KeeperView) (sinks sinks_now : SinksView) (answer : ℕ)
    → 1 ≤ length words → first ≡ get_or words 0 first
    → (string_bytes first ≡ codes "--link" → ⊥) → (string_bytes first ≡ codes "--run" → ⊥)
    → Compiled (map (string_bytes {Z = Global}) words) old new sinks sinks_now answer
    → DoesWords (map (string_bytes {Z = Global}) words) old new sinks sinks_now answer
does_other [] first old new sinks sinks_now answer le is link run h = absurd (omega (arith, le))
does_other (word ∷ words) first old new sinks sinks_now answer le is link run h =
    chosen _ _ _ (bytes_eq (string_bytes word) (codes "--link")) (bytes_eq (string_bytes word) (codes "--run"))
    (apart_by (string_bytes word) (codes "--link") (bytes_eq (string_bytes word) (codes "--link")) refl
    (λ e. link (ap string_bytes is ∙ e)))
    (apart_by (string_bytes word) (codes "--run") (bytes_eq (string_bytes word) (codes "--run")) refl (λ e. run (ap string_bytes is ∙ e))) h
