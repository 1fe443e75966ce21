use Rattle.std.proofs.Common.{arith, rules}
use Rattle.slot_table.specs.declared.calls.SlotCall.TheVariants.{GiveBad}
use Rattle.slot_table.specs.declared.calls.SlotReply.TheVariants.{Given}
use Rattle.slot_table.proofs.Keeping.{kept-more, kept-can, stored-bad}
use Rattle.slot_table.proofs.one_thread.OneThreadGrants.give_bad.Goals as goal

pub give_bad-requires : goal.give_bad-requires
give_bad-requires g c = (
  search rules,
  kept-can _ _ _ (GiveBad c.args.grant.host c.args.grant.job c.args.until) c.self.inside.slots.valid
      c.self.invariant.0 (stored-bad c.args.grant.host c.args.grant.job c.args.until _ _ c.self.view_is c.requires.out c.requires.remote),
)

pub invariant_of-self : goal.invariant_of-self
invariant_of-self g c = (
  kept-more _ _ _ _ _ _ (GiveBad c.args.grant.host c.args.grant.job c.args.until) Given c.self.invariant.0
      (stored-bad c.args.grant.host c.args.grant.job c.args.until _ _ c.self.view_is c.requires.out c.requires.remote)
      c.give_bad.ensures.limits c.give_bad.ensures.step c.note.ensures.calls,
  omega arith,
)
