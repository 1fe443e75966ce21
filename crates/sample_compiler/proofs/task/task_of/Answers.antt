use Rattle.sample_compiler.proofs.OutputLemmas.{plain_result}
use Rattle.sample_compiler.proofs.task.task_of.Goals as goal

pub returns-clause-output : goal.returns-clause-output
returns-clause-output c = plain_result c.in_ok-gathered.gathered c.asked.result c.asked.ensures
