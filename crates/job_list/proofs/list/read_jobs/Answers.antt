use Rattle.std.proofs.Common.{◌≡◌, length, true, sym, ◌∙◌, arith}
use Rattle.std.specs.Prelude.{◌==◌}
use Rattle.std.proofs.lemmas.Bool.{eqb-true}
use Rattle.std.proofs.lemmas.Result.{err_from_is_err_and}
use Rattle.job_list.proofs.Listing.{text_error, text_empty}
use Rattle.job_list.proofs.list.read_jobs.Goals as goal

pub returns-in_err-listed-clause-fault : goal.returns-in_err-listed-clause-fault
returns-in_err-listed-clause-fault c =
    let p = err_from_is_err_and c.from_residual.result c.from_residual.ensures.1 in
    rw (p.1, p.2) (text_error c.in_err-listed.field-0.0 c.args.text.now (omega arith) c.in_err-listed.ensures.fault)

pub returns-then-is_empty-clause-fault : goal.returns-then-is_empty-clause-fault
returns-then-is_empty-clause-fault c =
    text_empty c.args.text.now c.in_ok-listed.listed.jobs (omega arith) c.in_ok-listed.ensures.jobs
    (let e : (length c.in_ok-listed.listed.jobs == 0) ≡ true = sym c.is_empty.ensures ∙ c.if-is_empty.true in
    eqb-true (length c.in_ok-listed.listed.jobs) 0 e)
