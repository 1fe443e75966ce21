use Rattle.std.proofs.Common.{rules}
use Rattle.edge_gates.proofs.GateSteps.{starts}
use Rattle.edge_gates.proofs.gate.Gate.pair.Goals as goal

pub ruled-requires : goal.ruled-requires
ruled-requires g c = (search rules, (search rules, starts))
