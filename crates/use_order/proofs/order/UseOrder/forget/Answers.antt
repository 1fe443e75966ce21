use Rattle.std.proofs.Common.{◌∙◌, ap, sym, subst, arith}
use Rattle.use_order.specs.Orders.{sizes, size_in, same_name}
use Rattle.use_order.proofs.Trimming.{forgotten}
use Rattle.use_order.proofs.order.UseOrder.forget.Goals as goal

pub overflow_sub-self : goal.overflow_sub-self
overflow_sub-self g c =
    let left = forgotten g.V.Weighed.bytes (same_name c.args.name.now) c.self.inside.cache.entries in
    omega (arith, left, c.self.invariant.0, c.size_in.ensures, ap (size_in g.V.Weighed.bytes) c.pop-forgotten.ensures.value)

pub invariant_of-self : goal.invariant_of-self
invariant_of-self g c =
    let is = c.pop-forgotten.ensures.entries in
    let left = forgotten g.V.Weighed.bytes (same_name c.args.name.now) c.self.inside.cache.entries in
    let less = c.size_in.ensures ∙ ap (size_in g.V.Weighed.bytes) c.pop-forgotten.ensures.value in (
      omega (arith, left, less, c.self.invariant.0, ap (λ k. sizes g.V.Weighed.bytes k.entries) is),
      omega (arith, left, less, c.self.invariant.0, c.self.invariant.1),
      c.self.invariant.2,
      ap (λ k. k.cap) is ∙ c.self.invariant.3,
    )
