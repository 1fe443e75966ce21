use Rattle.daemon_program.proofs.Alike.{alike_always}
use Rattle.daemon_tests.proofs.programs.expect_in_memory.Goals as goal

pub expect-requires-clause-alike : goal.expect-requires-clause-alike
expect-requires-clause-alike g c κs within = alike_always (λ words input left. Unit {0}) c.args.doors.now.items
