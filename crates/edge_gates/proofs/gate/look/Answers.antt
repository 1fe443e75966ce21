use Rattle.std.proofs.Common.{rules}
use Rattle.crossbeam_utils.specs.Seq.{cell_view}
use Rattle.edge_gates.proofs.GateSteps.{looks-turn}
use Rattle.edge_gates.proofs.gate.look.Goals as goal

pub load_as-requires : goal.load_as-requires
load_as-requires g c = (search rules, (search rules, (c.requires.cell, looks-turn c.args.pass.now.id (cell_view c.args.pass.now))))
