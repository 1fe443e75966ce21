-- A put in steps.
use Rattle.std.proofs.Common.{◌≡◌, ℕ, List, [], ◌++◌, sym, ap, subst, ◌∙◌, rules}
use Rattle.std.proofs.lemmas.List.{append-nil}
use Rattle.std.specs.Prelude.{Result, Option, Some, None, IsSome}
use Rattle.edge_traits.specs.declared.entries.Put.{Put}
use Rattle.edge_traits.specs.Told.{Told, Grew, Became}
use Rattle.file_map.specs.FileMaps.{Files}
use Rattle.edge_traits.specs.FileMaps.{files_after}
use Rattle.edge_traits.specs.Keepers.{PendingPut, KeeperView, IsPutOf, HasPending, IsPending, put_entries}

some_put : (path bytes : List ℕ) (put : Option PendingPut) → IsPutOf path bytes put → IsSome put
some_put path bytes (Some put) h = search rules
some_put path bytes None h = absurd h

-- a put of these bytes is pending
pub is-there : (view : KeeperView) (path bytes : List ℕ) → HasPending view path bytes → IsPending view
is-there view path bytes h = some_put path bytes view.pending h

-- The put of these bytes is pending, and nothing else was done.
pub record Prepared (old now : KeeperView) (path bytes : List ℕ) : Type 0 where
  pub pending : HasPending now path bytes
  pub files : Became old.files now.files old.files.value
  pub puts : Grew old.puts now.puts []

same-files : {A : Type 0} (old mid new : Told A) → Became old mid old.value → Became mid new mid.value → Became old new old.value
same-files old mid new before then =
    record { known = λ k. before.known (then.known k); became = λ k. then.became k ∙ before.became (then.known k) }

no-more : {T : Type 0} (old mid new : Told (List T)) → Grew old mid [] → Grew mid new [] → Grew old new []
no-more {T} old mid new before then = record {
  known = λ k. before.known (then.known k);
  grew = λ k. then.grew k ∙ append-nil mid.value ∙ before.grew (then.known k);
}

pub prepared-more : (old mid now : KeeperView) (path piece : List ℕ) → Prepared old mid path [] → HasPending now path ([] ++ piece)
    → Became mid.files now.files mid.files.value → Grew mid.puts now.puts [] → Prepared old now path piece
prepared-more old mid now path piece p pending files puts = record {
  pending = pending;
  files = same-files old.files mid.files now.files p.files files;
  puts = no-more old.puts mid.puts now.puts p.puts puts;
}

pub prepared-none : (old now : KeeperView) (path bytes : List ℕ) → bytes ≡ [] → HasPending now path []
    → Became old.files now.files old.files.value → Grew old.puts now.puts [] → Prepared old now path bytes
prepared-none old now path bytes none pending files puts = record {
  pending = subst (λ (x : List ℕ). HasPending now path x) (sym none) pending;
  files = files;
  puts = puts;
}

pub committed-files : {T E : Type 0} (old mid new : KeeperView) (path bytes : List ℕ) (result : Result T E)
    → Prepared old mid path bytes → Became mid.files new.files (files_after mid.files.value path bytes result)
    → Became old.files new.files (files_after old.files.value path bytes result)
committed-files old mid new path bytes result p done = record {
  known = λ k. p.files.known (done.known k);
  became = λ k. done.became k ∙ ap (λ (files : Files). files_after files path bytes result) (p.files.became (done.known k));
}

pub committed-puts : {T E : Type 0} (old mid new : KeeperView) (path bytes : List ℕ) (result : Result T E)
    → Prepared old mid path bytes → Grew mid.puts new.puts (put_entries path bytes result)
    → Grew old.puts new.puts (put_entries path bytes result)
committed-puts old mid new path bytes result p done = record {
  known = λ k. p.puts.known (done.known k);
  grew = λ k. done.grew k ∙ ap (λ (puts : List Put). puts ++ put_entries path bytes result)
      (p.puts.grew (done.known k) ∙ append-nil old.puts.value);
}
