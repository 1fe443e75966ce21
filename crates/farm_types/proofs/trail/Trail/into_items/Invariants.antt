use Rattle.std.proofs.Common.{◌≡◌, ◌++◌, length, reverse}
use Rattle.farm_types.proofs.trail.Trail.into_items.Given as goal

abbrev pub invariant-loop-value : goal.invariant-loop-value
invariant-loop-value g l = l.self ++ reverse l.values.items ≡ l.fn.self

abbrev pub decreases-loop-value : goal.decreases-loop-value
decreases-loop-value g l = length l.self
