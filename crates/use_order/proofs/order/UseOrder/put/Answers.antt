use Rattle.std.proofs.Common.{◌≡◌, ℕ, ◌≤◌, ◌+◌, ◌-◌, length, sym, ◌∙◌, ap, subst, arith}
use Rattle.use_order.specs.Orders.{sizes, size_in, front_within, put_front, same_name}
use Rattle.use_order.proofs.Trimming.{few_bytes, put_bytes, put_all}
use Rattle.use_order.proofs.order.UseOrder.put.Goals as goal

pub overflow_sub-bytes : goal.overflow_sub-bytes
overflow_sub-bytes g c =
    let few = few_bytes g.V.Weighed.bytes (same_name c.args.name) c.self.inside.cache.entries in
    omega (arith, few, c.self.invariant.0, c.size_in-less.ensures, ap (size_in g.V.Weighed.bytes) c.in-Ok.ensures.old)

pub trim-requires : goal.trim-requires
trim-requires g c =
    let items = c.self.inside.cache.entries in
    let few : length items ≤ c.self.inside.cache.cap - 1 =
    omega (arith, c.len-count.ensures.fits, c.len-count.ensures.len, c.self.invariant.3) in
    let sum = put_bytes g.V.Weighed.bytes (same_name c.args.name) c.args.name c.args.item (c.self.inside.cache.cap - 1) items few in
    let new = ap (λ k. sizes g.V.Weighed.bytes k.entries) c.in-Ok.ensures.entries in
    let less = few_bytes g.V.Weighed.bytes (same_name c.args.name) items in
    omega (arith, sum, new, less, c.self.invariant.0, c.size_in-less.ensures, ap (size_in g.V.Weighed.bytes) c.in-Ok.ensures.old)

pub returns-in-Ok : goal.returns-in-Ok
returns-in-Ok g c =
    let items = c.self.inside.cache.entries in
    let few : length items ≤ c.self.inside.cache.cap - 1 =
    omega (arith, c.len-count.ensures.fits, c.len-count.ensures.len, c.self.invariant.3) in
    let all = ap (λ k. k.entries) c.in-Ok.ensures.entries ∙ put_all g.V.Weighed.bytes (same_name c.args.name) c.args.name c.args.item (c.self.inside.cache.cap - 1) items few in
    subst (λ s. record { bound = c.self.inside.bound; items = c.trim.new.cache.entries }
    ≡ record { bound = s.bound; items = front_within g.V.Weighed.bytes s.bound (put_front same_name c.args.name c.args.item s.items) }) c.self.view_is
    (ap (λ l. record { bound = c.self.inside.bound; items = l }) (c.trim.ensures.items ∙ ap (front_within g.V.Weighed.bytes c.self.inside.bound) all))
