use Rattle.sample_program.proofs.top.print_stop.Goals as goal

pub returns-in-File : goal.returns-in-File
returns-in-File g c = rw c.in-File.is c.complain.ensures
