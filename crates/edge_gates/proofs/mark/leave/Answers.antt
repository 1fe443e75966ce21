use Rattle.std.proofs.Common.{rules}
use Rattle.crossbeam_utils.specs.Seq.{cell_view}
use Rattle.edge_gates.proofs.MarkSteps.{leaves-turn}
use Rattle.edge_gates.proofs.mark.leave.Goals as goal

pub swap_as-found-requires : goal.swap_as-found-requires
swap_as-found-requires g c =
    (search rules, (search rules, (c.requires.cell, leaves-turn c.args.pass.now.id (cell_view c.args.pass.now) c.requires.inside)))
