use Rattle.serde_json.specs.View.{view}
use Rattle.std.proofs.Common.{map}
use Rattle.std.proofs.lemmas.Result.{err_from_is_err_and}
use Rattle.compile_database.proofs.EntryLemmas.{next_entry, bad_at, error_map}
use Rattle.compile_database.proofs.jobs.jobs_at.Goals as goal

pub each-preserved : goal.each-preserved
each-preserved c = next_entry (map view c.args.entries.now) c.args.places.now c.each.jobs c.try_push.new.self c.each.place-index 0
    c.in_ok-job.job c.each-test.true c.each.invariant c.in_ok-job.ensures.words c.in_ok-try_push.ensures.ok

pub returns-in_err-job-clause-fault : goal.returns-in_err-job-clause-fault
returns-in_err-job-clause-fault c =
    let fault = err_from_is_err_and c.from_residual.result c.from_residual.ensures.1 in
    rw (fault.1, fault.2) (error_map (λ fault wrong. bad_at (map view c.args.entries.now) c.args.places.now c.each.jobs c.each.place-index 0
    c.each-test.true c.each.invariant wrong) _ c.in_err-job.ensures.fault)
