use Rattle.edge_gates.specs.Gates.{leaves_nothing}
use Rattle.daemon_program.proofs.Alike.{alike_always}
use Rattle.daemon_tests.proofs.beside.two_doors_at_one_time.Goals as goal

pub expect-requires-clause-alike : goal.expect-requires-clause-alike
expect-requires-clause-alike g c κs = alike_always leaves_nothing _
