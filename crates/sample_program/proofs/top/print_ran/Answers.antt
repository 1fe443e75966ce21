use Rattle.sample_program.proofs.top.print_ran.Goals as goal

pub returns-in-Ok : goal.returns-in-Ok
returns-in-Ok g c = rw c.in-Ok.is c.print_run.ensures
