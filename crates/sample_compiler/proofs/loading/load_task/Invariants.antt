use Rattle.std.proofs.Common.{false, IsTrue}
use Rattle.sample_compiler.specs.Lookups.{Agrees}
use Rattle.sample_compiler.specs.Loads.{unstaged, AreShort, LoadWent, OnlyFetched}
use Rattle.sample_compiler.specs.Seeking.{task_names}
use Rattle.sample_compiler.proofs.KnownLemmas.{Loading}
use Rattle.sample_compiler.proofs.loading.load_task.Given as goal

abbrev pub invariant-loop-turn : goal.invariant-loop-turn
invariant-loop-turn g l = record {
  only : OnlyFetched (g.K.Keeper.shows l.fn.keeper) (g.K.Keeper.shows l.keeper);
  agrees : IsTrue (g.K.Keeper.shows l.keeper).files.known
      → Agrees l.known.files l.known.absent false (unstaged (g.K.Keeper.shows l.keeper).files.value);
  short : AreShort l.known.files;
  went : LoadWent (g.K.Keeper.shows l.fn.keeper) (g.K.Keeper.shows l.keeper)
      (task_names (unstaged (g.K.Keeper.shows l.keeper).files.value) l.task);
  loading : IsTrue (g.K.Keeper.shows l.keeper).files.known
      → Loading (unstaged (g.K.Keeper.shows l.keeper).files.value) l.known.files l.known.absent
      (task_names (unstaged (g.K.Keeper.shows l.keeper).files.value) l.task) (g.K.Keeper.shows l.fn.keeper).fetches
      (g.K.Keeper.shows l.keeper).fetches;
}
