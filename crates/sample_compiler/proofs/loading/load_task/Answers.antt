use Rattle.std.proofs.Common.{◌≡◌, ◌∙◌, inl, refl, true, IsTrue}
use Rattle.std.proofs.lemmas.Result.{err_from_is_err_and}
use Rattle.sample_compiler.specs.Lookups.{is_listed}
use Rattle.sample_compiler.specs.Seeking.{task_names}
use Rattle.sample_compiler.specs.Loads.{unstaged}
use Rattle.sample_compiler.proofs.LoadLemmas.{nothing_agrees, none_short}
use Rattle.sample_compiler.proofs.Fetching.{only_none, only_then, agrees_on, agrees_then}
use Rattle.sample_compiler.proofs.KnownLemmas.{nothing_loaded, loading_on, loading_more, loading_done, loading_failed}
use Rattle.sample_compiler.proofs.KnownLemmas.{next_listed, stands_then, failed_then}
use Rattle.sample_compiler.proofs.loading.load_task.Goals as goal

pub loop-turn-init : goal.loop-turn-init
loop-turn-init g c = record {
  only = only_none (g.K.Keeper.shows c.args.keeper.now) c.requires;
  went = record { calm = refl; missed = λ told. inl refl };
  agrees = λ told. nothing_agrees c.new.result (unstaged (g.K.Keeper.shows c.args.keeper.now).files.value) c.new-2.result
      c.new.ensures c.new-2.ensures;
  short = none_short c.new.result c.new.ensures;
  loading = λ told. nothing_loaded (unstaged (g.K.Keeper.shows c.args.keeper.now).files.value) c.new.result c.new-2.result
      (task_names (unstaged (g.K.Keeper.shows c.args.keeper.now).files.value) c.args.task.now)
      (g.K.Keeper.shows c.args.keeper.now).fetches c.new.ensures c.new-2.ensures;
}

pub returns-in_err-learn-in-Some-clause-only : goal.returns-in_err-learn-in-Some-clause-only
returns-in_err-learn-in-Some-clause-only g c =
    only_then (g.K.Keeper.shows c.args.keeper.now) (g.K.Keeper.shows c.loop-turn.keeper) (g.K.Keeper.shows c.learn.new.keeper)
    c.loop-turn.invariant.only c.learn.ensures.only

pub returns-in-None-clause-same : goal.returns-in-None-clause-same
returns-in-None-clause-same g c told =
    (rw c.in-None.is at c.in_ok-path.ensures.same) (unstaged (g.K.Keeper.shows c.loop-turn.keeper).files.value)
    (c.loop-turn.invariant.agrees told)

pub returns-in-None-clause-fetched : goal.returns-in-None-clause-fetched
returns-in-None-clause-fetched g c told =
    let now = g.K.Keeper.shows c.loop-turn.keeper in
    let files = unstaged now.files.value in
    let first = rw c.in-None.is at (c.in_ok-path.ensures.first files (c.loop-turn.invariant.agrees told)) in
    loading_done files c.loop-turn.known.files c.loop-turn.known.absent (task_names files c.args.task.now)
    (g.K.Keeper.shows c.args.keeper.now).fetches now.fetches (c.loop-turn.invariant.loading told) first

pub returns-in_err-learn-in-Some-clause-tried : goal.returns-in_err-learn-in-Some-clause-tried
returns-in_err-learn-in-Some-clause-tried g c =
    let p = err_from_is_err_and c.from_residual-in_err-learn-in-Some.result c.from_residual-in_err-learn-in-Some.ensures.1 in
    rw p.1 (λ told.
    let start = g.K.Keeper.shows c.args.keeper.now in
    let before = g.K.Keeper.shows c.loop-turn.keeper in
    let after = g.K.Keeper.shows c.learn.new.keeper in
    let files = unstaged after.files.value in
    let earlier = c.learn.ensures.only.files.known told in
    let agrees = agrees_on before after c.loop-turn.known.files c.loop-turn.known.absent c.learn.ensures.only told
    (c.loop-turn.invariant.agrees earlier) in
    let loading = loading_on before after c.loop-turn.known.files c.loop-turn.known.absent c.args.task.now start.fetches
    before.fetches c.learn.ensures.only told (c.loop-turn.invariant.loading earlier) in
    let first = rw c.in-Some.is at (c.in_ok-path.ensures.first files agrees) in
    loading_failed files c.loop-turn.known.files c.loop-turn.known.absent (task_names files c.args.task.now) c.in-Some.path
    start.fetches before.fetches after.fetches loading first (c.in_err-learn-in-Some.ensures.tried told))

pub returns-in_err-learn-in-Some-clause-failed : goal.returns-in_err-learn-in-Some-clause-failed
returns-in_err-learn-in-Some-clause-failed g c =
    let p = err_from_is_err_and c.from_residual-in_err-learn-in-Some.result c.from_residual-in_err-learn-in-Some.ensures.1 in
    let start = g.K.Keeper.shows c.args.keeper.now in
    let before = g.K.Keeper.shows c.loop-turn.keeper in
    let after = g.K.Keeper.shows c.learn.new.keeper in
    let files = unstaged after.files.value in
    let listed : IsTrue after.files.known → is_listed (task_names files c.args.task.now) c.in-Some.path ≡ true = λ told.
    let agrees = agrees_on before after c.loop-turn.known.files c.loop-turn.known.absent c.learn.ensures.only told
    (c.loop-turn.invariant.agrees (c.learn.ensures.only.files.known told)) in
    next_listed c.loop-turn.known.files c.loop-turn.known.absent (task_names files c.args.task.now) c.in-Some.path
    (rw c.in-Some.is at (c.in_ok-path.ensures.first files agrees)) in
    rw (p.1, p.2) (failed_then start before after c.args.task.now c.in-Some.path c.in_err-learn-in-Some.field-0.0
    c.learn.ensures.only listed c.loop-turn.invariant.only c.loop-turn.invariant.went c.in_err-learn-in-Some.ensures.failed)

pub loop-turn-preserved : goal.loop-turn-preserved
loop-turn-preserved g c =
    let start = g.K.Keeper.shows c.args.keeper.now in
    let before = g.K.Keeper.shows c.loop-turn.keeper in
    let after = g.K.Keeper.shows c.learn.new.keeper in
    record {
      only = only_then start before after c.loop-turn.invariant.only c.learn.ensures.only;
      agrees = agrees_then before after c.loop-turn.known.files c.learn.new.known.files c.loop-turn.known.absent
          c.learn.new.known.absent c.learn.ensures.only c.loop-turn.invariant.agrees c.in_ok-learn-in-Some.ensures.learned.agrees;
      short = c.in_ok-learn-in-Some.ensures.learned.short c.loop-turn.invariant.short;
      went = record {
        calm = c.in_ok-learn-in-Some.ensures.went.calm ∙ c.loop-turn.invariant.went.calm;
        missed = stands_then start before after c.args.task.now c.in-Some.path c.learn.ensures.only
            (λ told.
            let files = unstaged after.files.value in
            let agrees = agrees_on before after c.loop-turn.known.files c.loop-turn.known.absent c.learn.ensures.only told
            (c.loop-turn.invariant.agrees (c.learn.ensures.only.files.known told)) in
            next_listed c.loop-turn.known.files c.loop-turn.known.absent (task_names files c.args.task.now) c.in-Some.path
            (rw c.in-Some.is at (c.in_ok-path.ensures.first files agrees)))
            c.loop-turn.invariant.went.missed c.in_ok-learn-in-Some.ensures.went.missed;
      };
      loading = λ told.
          let files = unstaged after.files.value in
          let earlier = c.learn.ensures.only.files.known told in
          let agrees = agrees_on before after c.loop-turn.known.files c.loop-turn.known.absent c.learn.ensures.only told
          (c.loop-turn.invariant.agrees earlier) in
          let loading = loading_on before after c.loop-turn.known.files c.loop-turn.known.absent c.args.task.now start.fetches
          before.fetches c.learn.ensures.only told (c.loop-turn.invariant.loading earlier) in
          let first = rw c.in-Some.is at (c.in_ok-path.ensures.first files agrees) in
          loading_more files c.loop-turn.known.files c.learn.new.known.files c.loop-turn.known.absent c.learn.new.known.absent
          (task_names files c.args.task.now) c.in-Some.path start.fetches before.fetches after.fetches loading first
          c.in_ok-learn-in-Some.ensures.learned.knows (c.in_ok-learn-in-Some.ensures.fetched told);
    }
