use Rattle.std.proofs.Common.{List, ℕ, inr, subst}
use Rattle.std.proofs.lemmas.Result.{err_from_is_err_and}
use Rattle.job_graph.specs.Lines.{cut_text}
use Rattle.job_list.specs.Jobs.{JobFaultStands}
use Rattle.farm_program.specs.Builds.{whole_text}
use Rattle.farm_program.proofs.Inputs.{graph_stands}
use Rattle.farm_program.proofs.input.read_graph.Goals as goal

pub returns-in_err-text-clause-fault : goal.returns-in_err-text-clause-fault
returns-in_err-text-clause-fault g c =
    let fault = err_from_is_err_and c.from_residual.result c.from_residual.ensures.1 in
    rw (fault.1, fault.2) (graph_stands (g.R.Source.shows c.args.input.now) (g.R.Source.shows c.read_text.new.input) _
    c.in_err-text.ensures.fault)

pub returns-in-Err-Jobs-clause-fault : goal.returns-in-Err-Jobs-clause-fault
returns-in-Err-Jobs-clause-fault g c =
    let stands : JobFaultStands (cut_text c.as_slice.result.now) c.in-Err-Jobs.line c.in-Err-Jobs.fault =
    rw c.in-Err-Jobs.field-0-is at c.in-Err-Jobs.ensures.error in (
      whole_text c.in_ok-text.ensures.text
          (subst (λ (t : List ℕ). JobFaultStands (cut_text t) c.in-Err-Jobs.line c.in-Err-Jobs.fault) c.as_slice.ensures stands),
      inr c.in_ok-text.ensures.text,
    )
