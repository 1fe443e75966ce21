use Rattle.std.proofs.Common.{List, ℕ, refl, sym, subst}
use Rattle.job_run.proofs.Composing.{on-then, on-ended}
use Rattle.job_run.proofs.Keeping.{can-deliver}
use Rattle.job_run.specs.Stages.{HasObject}
use Rattle.job_run.proofs.job.run_remote.Goals as goal

pub returns-in-Over-clause-ended : goal.returns-in-Over-clause-ended
returns-in-Over-clause-ended g c =
    c.in-Over.ensures.prepared _ (g.G.Grants.limits c.args.grants.now) (g.G.Grants.caller_number c.args.grants.now) c.args.task.now.number
    (g.G.Grants.mine c.args.grants.now)

pub returns-in-Err-clause-ended : goal.returns-in-Err-clause-ended
returns-in-Err-clause-ended g c =
    on-ended refl refl
    (c.in-Ready.ensures.prepared _ (g.G.Grants.limits c.args.grants.now) (g.G.Grants.caller_number c.args.grants.now) c.args.task.now.number
    (g.G.Grants.mine c.args.grants.now))
    (c.in-Err.ensures.compiled c.in-Ready.note)

pub returns-in-Ok-clause-ended : goal.returns-in-Ok-clause-ended
returns-in-Ok-clause-ended g c =
    let task = c.args.task.now in
    let keeper = g.K.Keeper.shows c.compile_source.new.kit.keeper in
    let made = c.in-Ok.ensures.compiled c.in-Ready.note in
    let held = subst (λ (name : List ℕ). HasObject c.in-Ok.compiled name made.0 keeper) (sym task.named) made.2 in
    on-ended refl refl
    (on-then refl refl
    (c.in-Ready.ensures.prepared _ (g.G.Grants.limits c.args.grants.now) (g.G.Grants.caller_number c.args.grants.now) task.number
    (g.G.Grants.mine c.args.grants.now))
    made.1)
    (c.deliver.ensures.ended _ (g.G.Grants.limits c.args.grants.now) (g.G.Grants.caller_number c.args.grants.now) task.number
    (g.G.Grants.mine c.compile_source.new.grants) made.0 held)

pub deliver-requires-clause-object : goal.deliver-requires-clause-object
deliver-requires-clause-object g c =
    let made = c.in-Ok.ensures.compiled c.in-Ready.note in
    can-deliver c.in-Ok.compiled _ made.0 _ made.2
