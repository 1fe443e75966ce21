use Rattle.std.proofs.Common.{subst}
use Rattle.job_list.specs.Jobs.{JobsOf}
use Rattle.compile_database.proofs.LineLemmas.{same_jobs}
use Rattle.compile_database.proofs.listing.list_of.Goals as goal

pub returns-in-Ok-clause-list : goal.returns-in-Ok-clause-list
returns-in-Ok-clause-list c =
    same_jobs c.in_ok-list.list c.args.jobs.now c.in-Ok.field-0 c.in_ok-list.ensures
    (subst (λ text. JobsOf text c.in-Ok.field-0) c.as_slice.ensures c.in-Ok.ensures.list)
