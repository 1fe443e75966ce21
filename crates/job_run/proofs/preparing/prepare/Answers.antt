use Rattle.std.proofs.Common.{ℕ, ◌<◌, List, length, sym, ap, ◌∙◌, subst}
use Rattle.edge_traits.specs.FileMaps.{IsStaged}
use Rattle.arg_scan.specs.Roles.{word_at}
use Rattle.job_run.specs.Seen.{job_in}
use Rattle.job_run.proofs.Names.{source_within, source_not_staged}
use Rattle.job_run.proofs.preparing.prepare.Goals as goal

pub name_at-name-requires : goal.name_at-name-requires
name_at-name-requires g c =
    subst (λ (n : ℕ). n < length c.args.task.now.words.now) (sym c.args.task.now.source.place)
    (source_within c.args.task.now.words.now (sym c.args.task.now.source.ending ∙ c.if-task.true))

pub fetch_source-requires-clause-name : goal.fetch_source-requires-clause-name
fetch_source-requires-clause-name g c =
    subst (λ (name : List ℕ). ¬ (IsStaged name)) (sym (c.name_at-name.ensures ∙ ap (word_at c.args.task.now.words.now) c.args.task.now.source.place))
    (source_not_staged c.args.task.now.words.now (sym c.args.task.now.source.ending ∙ c.if-task.true))

pub returns-then-task-clause-prepared : goal.returns-then-task-clause-prepared
returns-then-task-clause-prepared g c = λ h l caller number mine.
    c.fetch_source.ensures.prepared h l caller number mine (job_in c.args.task.now) c.args.task.now.remote
    (sym c.args.task.now.source.ending ∙ c.if-task.true)
    (sym (c.name_at-name.ensures ∙ ap (word_at c.args.task.now.words.now) c.args.task.now.source.place))

pub returns-clause-prepared : goal.returns-clause-prepared
returns-clause-prepared g c = λ h l caller number mine.
    c.preprocess_source.ensures.prepared h l caller number mine c.args.task.now.config.now
