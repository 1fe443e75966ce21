use Rattle.std.proofs.Common.{arith}
use Rattle.slot_desk.proofs.Keeping.{kept-asked}
use Rattle.slot_desk.proofs.desk.Desk.ask.Goals as goal

pub invariant_of-self : goal.invariant_of-self
invariant_of-self g c = (
  kept-asked (record { limits = c.self.inside.slots.limits; period = c.self.inside.period; most = c.self.inside.most })
      c.self.inside.slots.state c.self.inside.waiting.items c.take_in.new.waiting.items c.self.inside.lent.items
      c.as_slice-lent.result.now c.args.waiter c.self.invariant.0 c.as_slice-lent.ensures.value c.take_in.ensures.items,
  omega (arith, c.take_in.ensures.within, c.as_slice-lent.ensures.len),
  omega (arith, c.self.invariant.2, c.take_in.ensures.capacity),
  omega (arith, c.self.invariant.3),
)
