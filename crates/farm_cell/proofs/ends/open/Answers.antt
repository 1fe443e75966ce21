use Rattle.std.proofs.Common.{rules}
use Rattle.crossbeam_utils.specs.Seq.{cell_view}
use Rattle.farm_cell.proofs.Moves.{opens-turn}
use Rattle.farm_cell.proofs.ends.open.Goals as goal

pub load_as-current-requires : goal.load_as-current-requires
load_as-current-requires g c = (
  search rules,
  (
    search rules,
    (c.requires.cell, opens-turn {h = 16} c.args.seat.now.id (cell_view c.args.seat.now) g.C.Tell.limits c.requires.fresh),
  ),
)
