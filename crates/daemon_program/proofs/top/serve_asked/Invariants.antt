use Rattle.daemon_program.specs.Sharing.{first_ran}
use Rattle.daemon_program.proofs.top.serve_asked.Given as goal

-- what the first station's programs may leave, and the bound
abbrev pub ghosts-serve_beside_shared : goal.ghosts-serve_beside_shared
ghosts-serve_beside_shared g a = record { ran = first_ran g.S.Station.ran a.doors.now.items; bound = a.bound }
