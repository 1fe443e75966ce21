use Rattle.std.proofs.Common.{rules}
use Rattle.edge_gates.proofs.MarkSteps.{starts, admits}
use Rattle.edge_gates.proofs.mark.Mark.pair.Goals as goal

pub ruled-requires : goal.ruled-requires
ruled-requires g c = (search rules, (search rules, starts))

pub pass-their_pass-requires : goal.pass-their_pass-requires
pass-their_pass-requires g c = (search rules, (search rules, admits))
