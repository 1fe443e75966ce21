use Rattle.daemon_program.proofs.Alike.{alike_always}
use Rattle.farmd.proofs.main.Goals as goal

pub farmd-requires-clause-alike : goal.farmd-requires-clause-alike
farmd-requires-clause-alike g c κs within = alike_always (λ words input left. Unit {0}) _
