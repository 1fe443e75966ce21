use Rattle.std.proofs.Common.{refl, arith}
use Rattle.slot_table.specs.declared.calls.SlotCall.TheVariants.{Draw}
use Rattle.slot_table.specs.declared.calls.SlotReply.TheVariants.{Drawn}
use Rattle.slot_table.proofs.Keeping.{kept-more}
use Rattle.slot_table.proofs.Later.{kept-later}
use Rattle.slot_table.proofs.one_thread.OneThreadGrants.draw.Goals as goal

pub invariant_of-self : goal.invariant_of-self
invariant_of-self g c = (
  kept-more _ _ _ _ _ _ Draw (Drawn c.draw-drawn.result) c.self.invariant.0 refl c.draw-drawn.ensures.limits
      c.draw-drawn.ensures.step c.note.ensures.calls,
  omega arith,
)

pub returns-clause-later : goal.returns-clause-later
returns-clause-later g c = kept-later _ _ _ _ c.draw-drawn.result _ _ c.self.view_is refl c.self.invariant.0 c.draw-drawn.ensures.step
