use Rattle.std.proofs.Common.{◌∙◌}
use Rattle.job_list.specs.Outputs.{outputs_of}
use Rattle.job_list.proofs.Pairs.{none_answer}
use Rattle.job_list.proofs.outputs.shared_output.Goals as goal

pub returns-clause-none : goal.returns-clause-none
returns-clause-none c = let a = c.deref.ensures.value in let b = c.in_ok-outputs.ensures in
    none_answer c.least_pair.result c.deref.result.now (outputs_of c.args.jobs.now) (a ∙ b) c.least_pair.ensures.none
