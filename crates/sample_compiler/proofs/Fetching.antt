-- What fetches, one after another, leave.
use Rattle.std.proofs.Common.{ℕ, ◌≤◌, List, [], ◌++◌, refl, ap, sym, ◌∙◌, subst, append_assoc, arith}
use Rattle.std.specs.Prelude.{false, IsTrue}
use Rattle.std.proofs.lemmas.List.{append-nil}
use Rattle.edge_traits.specs.Told.{Told, Grew}
use Rattle.edge_traits.specs.Causes.{Rose, Still}
use Rattle.edge_traits.specs.Keepers.{KeeperView, IsIdle}
use Rattle.file_map.specs.FileMaps.{Files}
use Rattle.sample_compiler.specs.declared.loading.LoadFault.{LoadFault}
use Rattle.sample_compiler.specs.declared.loading.LoadFault.TheVariants.{Failed, TooMuch, Memory}
use Rattle.sample_compiler.specs.Lookups.{Agrees}
use Rattle.sample_compiler.specs.Loads.{unstaged, OnlyFetched, LoadCause}

pub only_none : (view : KeeperView) → IsIdle view → OnlyFetched view view
only_none view idle = record {
  files = record { known = λ told. told; became = λ told. refl };
  puts = record { known = λ told. told; grew = λ told. sym (append-nil view.puts.value) };
  idle = idle;
  faults = omega arith;
  overruns = omega arith;
}

grew_none : {T : Type 0} (a b c : Told (List T)) → Grew a b [] → Grew b c [] → Grew a c []
grew_none a b c one two = record {
  known = λ told. one.known (two.known told);
  grew = λ told. two.grew told ∙ ap (λ x. x ++ []) (one.grew (two.known told)) ∙ append_assoc a.value [] [];
}

pub only_then : (a b c : KeeperView) → OnlyFetched a b → OnlyFetched b c → OnlyFetched a c
only_then a b c one two = record {
  files = record {
    known = λ told. one.files.known (two.files.known told);
    became = λ told. two.files.became told
        ∙ one.files.became (two.files.known told);
  };
  puts = grew_none a.puts b.puts c.puts one.puts two.puts;
  idle = two.idle;
  faults = omega (arith, one.faults, two.faults);
  overruns = omega (arith, one.overruns, two.overruns);
}

rose_then : (a b c : ℕ) → a ≤ b → Rose b c → Rose a c
rose_then a b c le rose = omega arith

-- a cause in a later call, before which none had failed, is one in all of them
pub cause_then : (a b c : KeeperView) (fault : LoadFault) → OnlyFetched a b → Still a.faults b.faults → LoadCause b c fault
    → LoadCause a c fault
cause_then a b c Failed one calm cause = rose_then a.faults b.faults c.faults one.faults cause
cause_then a b c (TooMuch bytes) one calm cause =
    record { rose = rose_then a.overruns b.overruns c.overruns one.overruns cause.rose; above = cause.above; long = cause.long }
cause_then a b c Memory one calm cause = cause ∙ calm

-- what is known agrees with the files after a fetch, since they are the same
pub agrees_on : (b c : KeeperView) (known : Files) (absent : List (List ℕ)) → OnlyFetched b c → IsTrue c.files.known
    → Agrees known absent false (unstaged b.files.value) → Agrees known absent false (unstaged c.files.value)
agrees_on b c known absent only told agrees =
    subst (λ files. Agrees known absent false (unstaged files)) (sym (only.files.became told)) agrees

-- what agreed with the files agrees with them after a fetch
pub agrees_then : (b c : KeeperView) (known more : Files) (absent names : List (List ℕ)) → OnlyFetched b c
    → (IsTrue b.files.known → Agrees known absent false (unstaged b.files.value))
    → (IsTrue c.files.known → Agrees known absent false (unstaged c.files.value) → Agrees more names false (unstaged c.files.value))
    → IsTrue c.files.known → Agrees more names false (unstaged c.files.value)
agrees_then b c known more absent names only before learned told =
    learned told (subst (λ files. Agrees known absent false (unstaged files)) (sym (only.files.became told))
    (before (only.files.known told)))
