use Rattle.std.proofs.Common.{◌≡◌, ◌∙◌, Some, ap, sym, subst}
use Rattle.std.specs.Prelude.{IfErr, OnOk}
use Rattle.sample_compiler.specs.Loads.{unstaged, LoadWent, LoadFailed}
use Rattle.sample_compiler.specs.Seeking.{asked_names}
use Rattle.sample_compiler.specs.Tasks.{task_of}
use Rattle.sample_compiler.proofs.LoadLemmas.{none_short}
use Rattle.sample_compiler.proofs.loading.load.Goals as goal

pub returns-in-Some-clause-went : goal.returns-in-Some-clause-went
returns-in-Some-clause-went g c =
    let before = g.K.Keeper.shows c.args.keeper.now in
    let after = g.K.Keeper.shows c.load_task.new.keeper in
    let asked : task_of c.args.words.now ≡ Some c.in-Some.task = ap task_of (sym c.as_slice.ensures) ∙ sym c.in_ok-task.ensures.task
    ∙ c.in-Some.is in
    subst (λ o. OnOk c.load_task.result (LoadWent before after (asked_names (unstaged after.files.value) o))) (sym asked)
    c.load_task.ensures.went

pub returns-in-Some-clause-failed : goal.returns-in-Some-clause-failed
returns-in-Some-clause-failed g c =
    let before = g.K.Keeper.shows c.args.keeper.now in
    let after = g.K.Keeper.shows c.load_task.new.keeper in
    let asked : task_of c.args.words.now ≡ Some c.in-Some.task = ap task_of (sym c.as_slice.ensures) ∙ sym c.in_ok-task.ensures.task
    ∙ c.in-Some.is in
    subst (λ o. IfErr c.load_task.result (LoadFailed before after (asked_names (unstaged after.files.value) o))) (sym asked)
    c.load_task.ensures.failed

pub returns-in-None-clause-short : goal.returns-in-None-clause-short
returns-in-None-clause-short g c = none_short c.new.result c.new.ensures
