use Rattle.std.proofs.Common.{rules}
use Rattle.edge_gates.proofs.GateSteps.{admits}
use Rattle.edge_gates.proofs.gate.Gate.share.Goals as goal

pub pass-pass-requires : goal.pass-pass-requires
pass-pass-requires g c = (search rules, (search rules, admits))
