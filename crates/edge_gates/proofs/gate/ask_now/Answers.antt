use Rattle.std.proofs.Common.{rules, refl, ◌∙◌}
use denote.Enum.Bare.{sameb}
use Rattle.crossbeam_utils.specs.Seq.{cell_view}
use Rattle.edge_gates.specs.contracts.asked.Asked.{the_type}
use Rattle.edge_gates.specs.declared.asked.Asked.TheVariants.{Nobody}
use Rattle.edge_gates.proofs.GateSteps.{asks-first-turn, asks-later-turn, SawSomebody, saw-somebody}
use Rattle.edge_gates.proofs.gate.ask_now.Goals as goal

pub compare_exchange_as-requires : goal.compare_exchange_as-requires
compare_exchange_as-requires g c = (
  search rules,
  (
    search rules,
    (
      c.requires.cell,
      asks-first-turn (λ x. sameb the_type x Nobody) refl refl refl c.args.pass.now.id
          (cell_view c.args.pass.now) c.requires.fresh,
    ),
  ),
)

pub swap_as-found-requires : goal.swap_as-found-requires
swap_as-found-requires g c =
    let e = c.in-Err.ensures in
    let v = cell_view c.args.pass.now in
    let w = cell_view c.compare_exchange_as.new.pass in
    let saw : SawSomebody v w = saw-somebody (λ x. sameb the_type x Nobody) refl v c.in-Err.field-0 w e.rule.0 e.rule.1 in (
      search rules,
      (
        search rules,
        (e.cell.0 ∙ c.requires.cell, asks-later-turn c.compare_exchange_as.new.pass.id w (saw.place ∙ c.requires.fresh) saw.somebody),
      ),
    )
