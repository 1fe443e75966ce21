use Rattle.std.proofs.Common.{arith, rules}
use Rattle.slot_table.specs.declared.calls.SlotCall.TheVariants.{GiveLocal}
use Rattle.slot_table.specs.declared.calls.SlotReply.TheVariants.{Given}
use Rattle.slot_table.proofs.Keeping.{kept-more, kept-can, stored}
use Rattle.slot_table.proofs.one_thread.OneThreadGrants.give_local.Goals as goal

pub give_local-requires : goal.give_local-requires
give_local-requires g c = (
  search rules,
  kept-can _ _ _ (GiveLocal c.args.grant.job) c.self.inside.slots.valid c.self.invariant.0
      (stored c.self.inside.slots.limits 0 (GiveLocal c.args.grant.job) _ _ c.self.view_is c.requires.out),
)

pub invariant_of-self : goal.invariant_of-self
invariant_of-self g c = (
  kept-more _ _ _ _ _ _ (GiveLocal c.args.grant.job) Given c.self.invariant.0
      (stored c.self.inside.slots.limits 0 (GiveLocal c.args.grant.job) _ _ c.self.view_is c.requires.out)
      c.give_local.ensures.limits c.give_local.ensures.step c.note.ensures.calls,
  omega arith,
)
