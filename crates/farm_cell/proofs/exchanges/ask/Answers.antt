use Rattle.std.proofs.Common.{rules, if◌then◌else◌, sym, subst}
use Rattle.crossbeam_utils.specs.Seq.{cell_view}
use Rattle.crossbeam_utils.specs.Register.{Turns}
use Rattle.slot_table.specs.declared.state.SlotState.{SlotState}
use Rattle.farm_cell.specs.Rule.{KeptAt, CallsAt}
use Rattle.farm_cell.proofs.Moves.{calls-turn, same_state, wrap}
use Rattle.farm_cell.proofs.exchanges.ask.Goals as goal

pub compare_exchange_as-requires : goal.compare_exchange_as-requires
compare_exchange_as-requires g c =
    let v = cell_view c.args.seat.now in
    let turn = calls-turn {h = 16} c.args.seat.now.id v c.args.limits.now c.args.change.now.current c.args.change.now.new g.C.Ask.call
    c.requires.limits c.requires.single c.requires.may c.requires.new in (
      search rules,
      (
        search rules,
        (
          c.requires.cell,
          subst (λ (k : SlotState 16). Turns KeptAt c.args.seat.now.id v
              (λ x. if same_state x.state c.args.change.now.current then wrap c.args.change.now.new else x) (CallsAt k g.C.Ask.call))
              (sym c.requires.current) turn,
        ),
      ),
    )
