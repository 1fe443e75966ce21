-- Files that are fetched one after another.
use Rattle.std.proofs.Common.{◌≡◌, ℕ, zero, suc, ◌+◌, ◌-◌, ◌<◌, ◌≤◌, List, [], ◌∷◌, ◌++◌, length, drop, get_or, None, Result, Ok, refl, ap}
use Rattle.std.proofs.Common.{sym, ◌∙◌, subst, append_assoc, inl, inr, ⊎_elim, map, string_bytes, Global, arith}
use Rattle.std.specs.Prelude.{IsTrue, String}
use Rattle.std.specs.List.{flat_map}
use Rattle.std.proofs.lemmas.List.{append-nil, drop_more, drop_all, length-append}
use Rattle.std.proofs.lemmas.List.Concat.{flat_map-cons}
use Rattle.std.proofs.lemmas.Grind.{flat_map-append}
use Rattle.edge_traits.specs.Told.{Told, Grew}
use Rattle.edge_traits.specs.Causes.{Rose}
use Rattle.edge_traits.specs.Keepers.{KeeperView, KeeperStill}
use Rattle.file_map.specs.FileMaps.{Files}
use Rattle.sample_compiler.specs.Loads.{OnlyFetched}
use Rattle.sample_program.specs.declared.fetching.FetchStop.{FetchStop}
use Rattle.sample_program.specs.declared.fetching.FetchStop.TheVariants.{Missing, TooLarge, File, Memory}
use Rattle.sample_program.proofs.RunLemmas.{grew_nothing}
use Rattle.sample_program.specs.Fetches.{files_max, outcome_of, then_object, objects_from, objects_of, entries_with, Took, TookAll}
use Rattle.sample_program.specs.Fetches.{FetchCause, StopsSo, Missed, MissedOne}

abbrev pub total : List (List ℕ) → ℕ
total contents = length (flat_map (λ content. content) contents)

-- how far files were fetched
pub record FetchesTo (names : List (List ℕ)) (i left : ℕ) (contents : List (List ℕ)) (old now : KeeperView) : Type 0 where
  pub only : OnlyFetched old now
  pub told : IsTrue now.files.known → objects_of old.files.value names ≡ objects_from old.files.value contents left (drop i names)
  pub count : length contents ≡ i
  pub room : left + total contents ≡ files_max
  pub fetched : Grew old.fetches now.fetches (entries_with names contents)
  pub calm : KeeperStill old now

pub grew_both : {T : Type 0} (a b c : Told (List T)) (more rest : List T) → Grew a b more → Grew b c rest → Grew a c (more ++ rest)
grew_both a b c more rest one two = record {
  known = λ told. one.known (two.known told);
  grew = λ told. two.grew told ∙ ap (λ v. v ++ rest) (one.grew (two.known told)) ∙ append_assoc a.value more rest;
}

pub no_entries : (names : List (List ℕ)) → entries_with names [] ≡ []
no_entries [] = refl
no_entries (name ∷ names) = refl

pub fetched_first : (view : KeeperView) → OnlyFetched view view → (names : List (List ℕ)) → FetchesTo names 0 files_max [] view view
fetched_first view only names = record {
  only = only;
  told = λ told. refl;
  count = refl;
  room = omega arith;
  fetched = subst (Grew view.fetches view.fetches) (sym (no_entries names)) (grew_nothing view.fetches);
  calm = record { faults = refl; overruns = refl };
}

pub only_none : (view : KeeperView) → view.pending ≡ None → OnlyFetched view view
only_none view idle = record {
  files = record { known = λ told. told; became = λ told. refl };
  puts = grew_nothing view.puts;
  idle = idle;
  faults = omega arith;
  overruns = omega arith;
}

pub only_then : (old mid new : KeeperView) → OnlyFetched old mid → OnlyFetched mid new → OnlyFetched old new
only_then old mid new one two = record {
  files = record {
    known = λ told. one.files.known (two.files.known told);
    became = λ told. two.files.became told ∙ one.files.became (two.files.known told);
  };
  puts = grew_both old.puts mid.puts new.puts [] [] one.puts two.puts;
  idle = two.idle;
  faults = omega (arith, one.faults, two.faults);
  overruns = omega (arith, one.overruns, two.overruns);
}

entries_first : (names : List (List ℕ)) (other : List ℕ) (content name : List ℕ) → name ≡ other
    → entries_with (other ∷ names) (content ∷ []) ≡ record { path = name; bytes = content } ∷ []
entries_first names other content name is = ap (λ es. record { path = other; bytes = content } ∷ es) (no_entries names)
    ∙ ap (λ n. record { path = n; bytes = content } ∷ []) (sym is)

entries_more : (names contents : List (List ℕ)) (content name : List ℕ) → length contents < length names
    → name ≡ get_or names (length contents) name
    → entries_with names (contents ++ content ∷ []) ≡ entries_with names contents ++ record { path = name; bytes = content } ∷ []
entries_more [] contents content name lt is = absurd (omega (arith, lt))
entries_more (other ∷ names) [] content name lt is = entries_first names other content name is
entries_more (other ∷ names) (first ∷ contents) content name lt is =
    ap (λ es. record { path = other; bytes = first } ∷ es) (entries_more names contents content name (omega (arith, lt)) is)

total_more : (contents : List (List ℕ)) (content : List ℕ) → total (contents ++ content ∷ []) ≡ total contents + length content
total_more contents content =
    ap length (flat_map-append (λ c. c) contents (content ∷ [])
    ∙ ap (λ cs. flat_map (λ c. c) contents ++ cs) (flat_map-cons (λ c. c) content [] ∙ append-nil content))
    ∙ length-append (flat_map (λ c. c) contents) content

here_is : (files : Files) (names contents : List (List ℕ)) (i left : ℕ) (name : List ℕ) → i < length names → name ≡ get_or names i name
    → objects_from files contents left (drop i names) ≡ then_object (outcome_of files left name)
    (λ c. objects_from files (contents ++ c ∷ []) (left - length c) (drop (i + 1) names))
here_is files names contents i left name lt is = ap (objects_from files contents left)
    (drop_more names i name lt ∙ ap (λ n. n ∷ drop (i + 1) names) (sym is))

-- one file more
pub fetched_more : (names : List (List ℕ)) (i left : ℕ) (contents : List (List ℕ)) (old mid new : KeeperView) (name content : List ℕ)
    → i < length names → name ≡ get_or names i name
    → FetchesTo names i left contents old mid → OnlyFetched mid new → Took name left mid new content
    → FetchesTo names (i + 1) (left - length content) (contents ++ content ∷ []) old new
fetched_more names i left contents old mid new name content lt is f only took = record {
  only = only_then old mid new f.only only;
  told = λ told.
      let known = only.files.known told in
      f.told known ∙ here_is old.files.value names contents i left name lt is
      ∙ ap (λ r. then_object r (λ c. objects_from old.files.value (contents ++ c ∷ []) (left - length c) (drop (i + 1) names)))
      (subst (λ files. outcome_of files left name ≡ Ok content) (f.only.files.became known) (took.told told));
  count = length-append contents (content ∷ []) ∙ ap (λ n. n + 1) f.count;
  room = omega (arith, f.room, took.within, total_more contents content);
  fetched = subst (Grew old.fetches new.fetches)
      (sym (entries_more names contents content name (subst (λ n. n < length names) (sym f.count) lt)
      (subst (λ n. name ≡ get_or names n name) (sym f.count) is)))
      (grew_both old.fetches mid.fetches new.fetches (entries_with names contents)
      (record { path = name; bytes = content } ∷ []) f.fetched took.fetched);
  calm = record { faults = took.calm.faults ∙ f.calm.faults; overruns = took.calm.overruns ∙ f.calm.overruns };
}

pub fetched_all : (names : List (List ℕ)) (i left : ℕ) (contents : List (List ℕ)) (old now : KeeperView) → i ≡ length names
    → FetchesTo names i left contents old now → TookAll names old now contents
fetched_all names i left contents old now is f = record {
  told = λ told. f.told told ∙ ap (objects_from old.files.value contents left) (drop_all i names (omega (arith, is)));
  count = f.count ∙ is;
  within = omega (arith, f.room);
  fetched = f.fetched;
  calm = f.calm;
}

-- ---- a file that wasn't fetched

stops_then : (outcome : Result (List ℕ) FetchStop) (more : List ℕ → Result (List (List ℕ)) FetchStop) (stop : FetchStop)
    → StopsSo outcome stop → StopsSo (then_object outcome more) stop
stops_then outcome more (Missing name) h = ap (λ r. then_object r more) h
stops_then outcome more TooLarge h = ap (λ r. then_object r more) h
stops_then outcome more File h = tt
stops_then outcome more Memory h = tt

rose_from : (a b c : ℕ) → b ≡ a → Rose b c → Rose a c
rose_from a b c e h = subst (λ n. Rose n c) e h

cause_from : (old mid new : KeeperView) (stop : FetchStop) → KeeperStill old mid → FetchCause mid new stop → FetchCause old new stop
cause_from old mid new (Missing name) calm h = (
  h.0 ∙ calm.faults,
  ⊎_elim (λ rose. inl (rose_from old.overruns mid.overruns new.overruns calm.overruns rose))
      (λ reserved. inr reserved) h.1,
)
cause_from old mid new TooLarge calm h = (h.0 ∙ calm.faults, rose_from old.overruns mid.overruns new.overruns calm.overruns h.1)
cause_from old mid new File calm h = rose_from old.faults mid.faults new.faults calm.faults h
cause_from old mid new Memory calm h = h ∙ calm.faults

pub missed_then : (names : List (List ℕ)) (i left : ℕ) (contents : List (List ℕ)) (old mid new : KeeperView) (name : List ℕ)
    (stop : FetchStop) → i < length names → name ≡ get_or names i name
    → FetchesTo names i left contents old mid → OnlyFetched mid new → Missed name left mid new stop → MissedOne names old new stop
missed_then names i left contents old mid new name stop lt is f only missed = record {
  contents = contents;
  few = omega (arith, f.count, lt);
  told = λ told.
      let known = only.files.known told in
      subst (λ r. StopsSo r stop) (sym (f.told known ∙ here_is old.files.value names contents i left name lt is))
      (stops_then (outcome_of old.files.value left name)
      (λ c. objects_from old.files.value (contents ++ c ∷ []) (left - length c) (drop (i + 1) names)) stop
      (subst (λ files. StopsSo (outcome_of files left name) stop) (f.only.files.became known) (missed.told told)));
  fetched = subst (Grew old.fetches new.fetches) (append-nil (entries_with names contents))
      (grew_both old.fetches mid.fetches new.fetches (entries_with names contents) [] f.fetched missed.fetched);
  cause = cause_from old mid new stop f.calm missed.cause;
}

pub missed_for_memory : (names : List (List ℕ)) (i left : ℕ) (contents : List (List ℕ)) (old now : KeeperView) → i ≤ length names
    → FetchesTo names i left contents old now → MissedOne names old now Memory
missed_for_memory names i left contents old now le f = record {
  contents = contents;
  few = omega (arith, f.count, le);
  told = λ told. tt;
  fetched = f.fetched;
  cause = f.calm.faults;
}

-- a name among those of words
pub name_at : (words : List (String Global)) (i : ℕ) (word : String Global) (name : List ℕ) → i < length words → word ≡ get_or words i word
    → name ≡ string_bytes word
    → (i < length (map (string_bytes {Z = Global}) words)) × (name ≡ get_or (map (string_bytes {Z = Global}) words) i name)
name_at [] i word name lt is e = absurd (omega (arith, lt))
name_at (first ∷ words) zero word name lt is e = (omega arith, e ∙ ap string_bytes is)
name_at (first ∷ words) (suc i) word name lt is e =
    let r = name_at words i word name (omega (arith, lt)) is e in
    (omega (arith, r.0), r.1)
