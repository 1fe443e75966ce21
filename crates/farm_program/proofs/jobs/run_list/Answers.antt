use Rattle.std.proofs.Common.{◌≡◌, sym, arith}
use Rattle.std.proofs.lemmas.Grind.{common_steps}
use Rattle.farm_program.specs.Builds.{worker_number}
use Rattle.farm_program.proofs.jobs.run_list.Goals as goal

pub returns-clause-done : goal.returns-clause-done
returns-clause-done g c =
    let number : c.min-workers.result ≡ worker_number c.args.list.now.most c.args.kits.now.items c.args.list.now.jobs =
    let a = c.len.ensures in let b = c.min.ensures in let d = c.len-2.ensures in let e = c.min-workers.ensures in
    let k = c.args.kits.now.ok in omega (arith, a, b, d, e, k) in
    rw (sym number) (record {
      one = c.in_ok-one.one;
      only = grind (arith, common_steps);
      of_hosts = c.in_ok-one.ensures.built.slots.hosts;
      of_jobs = c.in_ok-one.ensures.built.slots.number;
      ran = c.in_ok-one.ensures.built.ran;
    })
