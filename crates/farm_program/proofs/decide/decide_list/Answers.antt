use Rattle.std.proofs.Common.{arith}
use Rattle.std.proofs.lemmas.Result.{err_from_is_err_and}
use Rattle.farm_program.specs.Works.{to_list, by_config, by_list, of_list, of_build}
use Rattle.farm_program.proofs.decide.decide_list.Goals as goal

pub returns-in_err-config : goal.returns-in_err-config
returns-in_err-config g c =
    let fault = err_from_is_err_and c.from_residual.result c.from_residual.ensures.1 in
    rw (fault.1, fault.2) (by_config (of_list of_build) c.in_err-config.ensures.fault)

pub returns-in_err-jobs : goal.returns-in_err-jobs
returns-in_err-jobs g c =
    let fault = err_from_is_err_and c.from_residual-in_err-jobs.result c.from_residual-in_err-jobs.ensures.1 in
    rw (fault.1, fault.2) (by_list of_build c.in_ok-config.ensures.made c.read_jobs.ensures.some c.in_err-jobs.ensures.fault)

pub returns : goal.returns
returns g c = (
  to_list (record {
    config = c.in_ok-config.ensures.made;
    workers = c.worker_count.ensures;
    has = c.in_ok-jobs.ensures.jobs;
    some = c.read_jobs.ensures.some;
  }),
  record {
    usable = c.in_ok-config.ensures.usable;
    doable = c.in_ok-jobs.ensures.doable;
    workers = let e = c.worker_count.ensures in let w = c.requires.within.some_workers in omega (arith, e, w);
  },
)
