use Rattle.std.proofs.Common.{sym, ◌∙◌, ap}
use Rattle.use_order.specs.Orders.{sizes}
use Rattle.use_order.proofs.Trimming.{used_bytes}
use Rattle.use_order.proofs.order.UseOrder.touch.Goals as goal

pub invariant_of-self : goal.invariant_of-self
invariant_of-self g c =
    let is = c.promote.ensures.entries in (
      c.self.invariant.0 ∙ sym (ap (λ k. sizes g.V.Weighed.bytes k.entries) is ∙ used_bytes g.V.Weighed.bytes _ c.self.inside.cache.entries),
      c.self.invariant.1,
      c.self.invariant.2,
      ap (λ k. k.cap) is ∙ c.self.invariant.3,
    )
