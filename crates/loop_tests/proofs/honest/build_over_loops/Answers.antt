use Rattle.farm_cell.specs.Passes.{seen_of}
use Rattle.farm_machine.specs.Usable.{job_at}
use Rattle.loop_tests.proofs.honest.build_over_loops.Goals as goal

pub returns : goal.returns
returns g c = λ config jobs workers done enough.
    c.loops_answer_as_the_compiler.ensures done.one.last.limits (job_at jobs config) config.period workers done.one.reports
    (seen_of done.one.pass) done.one.last.state c.args.kits.now.items c.farm.new.kits.items c.requires.loops enough done.ran
