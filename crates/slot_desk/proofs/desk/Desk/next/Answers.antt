use Rattle.std.proofs.Common.{arith}
use Rattle.slot_desk.proofs.Keeping.{kept-served, fewer-served}
use Rattle.slot_desk.proofs.desk.Desk.next.Goals as goal

pub invariant_of-self : goal.invariant_of-self
invariant_of-self g c =
    let few = fewer-served c.self.inside.slots.limits c.args.now c.self.inside.slots.state c.found_in-found.new.slots.state
    c.self.inside.waiting.items c.as_slice.result.now c.lend.new.waiting.items c.found_in-found.result c.in-Some.loan
    c.as_slice.ensures.value c.found_in-found.ensures.found c.in-Some.is c.lend.ensures.waiting in (
      kept-served c.self.inside.slots.limits c.found_in-found.new.slots.limits c.self.inside.period c.self.inside.most c.args.now
          c.self.inside.slots.state c.found_in-found.new.slots.state c.self.inside.waiting.items c.as_slice.result.now
          c.lend.new.waiting.items c.self.inside.lent.items c.lend.new.lent.items c.found_in-found.result c.in-Some.loan
          c.self.invariant.0 c.found_in-found.ensures.limits c.as_slice.ensures.value c.found_in-found.ensures.found c.in-Some.is
          c.lend.ensures.waiting c.lend.ensures.lent,
      omega (arith, c.self.invariant.1, few, c.lend.new.waiting.ok.0, c.self.inside.waiting.ok.0, c.lend.ensures.lent_len),
      omega (arith, c.self.invariant.2, c.lend.ensures.capacity),
      omega (arith, c.self.invariant.3, c.lend.ensures.lent_capacity),
    )
