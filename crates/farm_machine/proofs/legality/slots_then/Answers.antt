use Rattle.std.proofs.Common.{sym, subst, ◌∙◌, arith}
use Rattle.slot_table.specs.Step.{CanStep}
use Rattle.slot_table.proofs.Permits.{can-step}
use Rattle.farm_machine.proofs.legality.slots_then.Goals as goal

pub step-requires : goal.step-requires
step-requires c =
    let l = c.args.slots.now.limits in (
      omega arith,
      subst (λ s. CanStep l s c.args.entry.now.call) (sym c.requires.state)
          (can-step l c.args.before.now c.args.entry.now.caller c.args.entry.now.call c.args.slots.now.valid.entries
          c.requires.legal (sym c.may_call.ensures ∙ c.if-not-may_call.false)),
    )
