use Rattle.std.proofs.Common.{◌≡◌, length}
use Rattle.use_order.specs.Orders.{sizes, front_within}
use Rattle.use_order.proofs.order.UseOrder.trim.Given as goal

abbrev pub invariant-dropping : goal.invariant-dropping
invariant-dropping g l = record {
  items : front_within g.V.Weighed.bytes l.bound l.cache.entries ≡ front_within g.V.Weighed.bytes l.bound l.fn.cache.entries;
  bytes : l.left ≡ sizes g.V.Weighed.bytes l.cache.entries;
  cap : l.cache.cap ≡ l.fn.cache.cap;
}

abbrev pub decreases-dropping : goal.decreases-dropping
decreases-dropping g l = length l.cache.entries
