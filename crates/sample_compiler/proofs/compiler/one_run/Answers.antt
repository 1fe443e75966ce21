use Rattle.sample_compiler.specs.Tasks.{task_of}
use Rattle.sample_compiler.proofs.RunLemmas.{OneReading, some_run, one_run}
use Rattle.sample_compiler.proofs.compiler.one_run.Goals as goal

pub returns-clause-some : goal.returns-clause-some
returns-clause-some c =
    let law : OneReading = record {
      some = c.one_reading.ensures.some;
      source = c.one_reading.ensures.source;
      apart = c.one_reading.ensures.apart;
      fault = c.one_reading.ensures.fault;
    } in
    λ files words. some_run law files (task_of words)

pub returns-clause-one : goal.returns-clause-one
returns-clause-one c =
    let law : OneReading = record {
      some = c.one_reading.ensures.some;
      source = c.one_reading.ensures.source;
      apart = c.one_reading.ensures.apart;
      fault = c.one_reading.ensures.fault;
    } in
    λ files words ran other. one_run law files (task_of words) ran other
