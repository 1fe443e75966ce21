use Rattle.std.proofs.Common.{ℕ, ◌-◌, ◌<◌, length, sym, ◌∙◌, ap, arith}
use Rattle.use_order.specs.Orders.{sizes, front_within}
use Rattle.use_order.proofs.Trimming.{whole, last_dropped, last_bytes, some_items}
use Rattle.use_order.proofs.order.UseOrder.trim.Goals as goal

pub overflow_sub-left : goal.overflow_sub-left
overflow_sub-left g c =
    let items = c.dropping.cache.entries in
    let above : c.args.bound < sizes g.V.Weighed.bytes items = omega (arith, c.dropping-test.true, c.dropping.invariant.bytes) in
    let some = some_items g.V.Weighed.bytes c.args.bound items above in
    let sum = last_bytes g.V.Weighed.bytes (length items - 1) items (c.in-Some.field-0-0, c.in-Some.last) (omega (arith, some)) (sym c.in-Some.ensures.value) in
    omega (arith, sum, c.dropping.invariant.bytes)

pub dropping-preserved : goal.dropping-preserved
dropping-preserved g c =
    let items = c.dropping.cache.entries in
    let above : c.args.bound < sizes g.V.Weighed.bytes items = omega (arith, c.dropping-test.true, c.dropping.invariant.bytes) in
    let some = some_items g.V.Weighed.bytes c.args.bound items above in
    let sum = last_bytes g.V.Weighed.bytes (length items - 1) items (c.in-Some.field-0-0, c.in-Some.last) (omega (arith, some)) (sym c.in-Some.ensures.value) in
    let is = c.pop_lru.ensures.entries in
    record {
      items = ap (λ k. front_within g.V.Weighed.bytes c.args.bound k.entries) is
          ∙ last_dropped g.V.Weighed.bytes (length items - 1) c.args.bound items (omega (arith, some)) above ∙ c.dropping.invariant.items;
      bytes = omega (arith, sum, c.dropping.invariant.bytes, ap (λ k. sizes g.V.Weighed.bytes k.entries) is);
      cap = ap (λ k. k.cap) is ∙ c.dropping.invariant.cap;
    }

pub returns-clause-items : goal.returns-clause-items
returns-clause-items g c =
    sym (whole g.V.Weighed.bytes c.args.bound c.dropping.cache.entries (omega (arith, c.dropping-test.false, c.dropping.invariant.bytes)))
    ∙ c.dropping.invariant.items
