use Rattle.std.proofs.Common.{rules, refl}
use denote.Enum.Bare.{sameb}
use Rattle.crossbeam_utils.specs.Seq.{cell_view}
use Rattle.edge_gates.specs.contracts.marked.Marked.{the_type}
use Rattle.edge_gates.specs.declared.marked.Marked.TheVariants.{Clear}
use Rattle.edge_gates.proofs.MarkSteps.{enters-turn}
use Rattle.edge_gates.proofs.mark.enter.Goals as goal

pub compare_exchange_as-requires : goal.compare_exchange_as-requires
compare_exchange_as-requires g c = (
  search rules,
  (
    search rules,
    (
      c.requires.cell,
      enters-turn (λ x. sameb the_type x Clear) refl refl c.args.pass.now.id (cell_view c.args.pass.now)
          c.requires.outside,
    ),
  ),
)
