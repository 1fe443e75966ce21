use Rattle.std.proofs.Common.{rules}
use Rattle.crossbeam_utils.specs.Seq.{cell_view}
use Rattle.farm_cell.proofs.Moves.{looks-turn}
use Rattle.farm_cell.proofs.exchanges.look.Goals as goal

pub load_as-requires : goal.load_as-requires
load_as-requires g c = (
  search rules,
  (
    search rules,
    (
      c.requires.cell,
      looks-turn {h = 16} c.args.seat.now.id (cell_view c.args.seat.now) c.args.limits.now
          c.requires.limits,
    ),
  ),
)
