use Rattle.std.proofs.Common.{List, ℕ, inr, subst}
use Rattle.std.proofs.lemmas.Result.{err_from_is_err_and}
use Rattle.job_list.specs.Jobs.{JobFaultStands}
use Rattle.farm_program.specs.Builds.{whole_text}
use Rattle.farm_program.proofs.Inputs.{stands_as, list_too_long}
use Rattle.farm_program.proofs.input.read_jobs.Goals as goal

pub returns-in_err-text-clause-fault : goal.returns-in_err-text-clause-fault
returns-in_err-text-clause-fault g c =
    let fault = err_from_is_err_and c.from_residual.result c.from_residual.ensures.1 in
    rw (fault.1, fault.2) (stands_as (g.R.Source.shows c.args.input.now) (g.R.Source.shows c.read_text.new.input)
    list_too_long _ c.in_err-text.ensures.fault)

pub returns-in-Err-Fault-clause-fault : goal.returns-in-Err-Fault-clause-fault
returns-in-Err-Fault-clause-fault g c =
    let stands : JobFaultStands c.as_slice.result.now c.in-Err-Fault.line c.in-Err-Fault.fault =
    rw c.in-Err-Fault.field-0-is at c.in-Err-Fault.ensures.fault in (
      whole_text c.in_ok-text.ensures.text
          (subst (λ (t : List ℕ). JobFaultStands t c.in-Err-Fault.line c.in-Err-Fault.fault) c.as_slice.ensures stands),
      inr c.in_ok-text.ensures.text,
    )
