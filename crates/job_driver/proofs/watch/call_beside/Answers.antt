use Rattle.std.proofs.Common.{rules}
use Rattle.job_driver.specs.Watching.{CalledEach}
use Rattle.job_driver.proofs.watch.call_beside.Goals as goal

pub returns-clause-each : goal.returns-clause-each
returns-clause-each g c =
    let called : CalledEach g.F.Fn c.args.f.now c.args.pairs.now.items _ = search rules in
    called.each
