use Rattle.sample_compiler.proofs.LoadLemmas.{same_fault}
use Rattle.sample_compiler.proofs.loading.next_unknown.Goals as goal

pub returns-in-Err-Fault-clause-same : goal.returns-in-Err-Fault-clause-same
returns-in-Err-Fault-clause-same c =
    λ files a. same_fault c.args.known.now.files files c.args.known.now.absent c.as_slice.result.now c.args.task.now
    c.in-Err-Fault.field-0-0 c.in-Err-Fault.field-0-1 c.in-Err-Fault.field-0 c.as_slice.ensures c.in-Err-Fault.field-0-is
    (λ fs b. c.in-Err-Fault.ensures.came fs b) a
