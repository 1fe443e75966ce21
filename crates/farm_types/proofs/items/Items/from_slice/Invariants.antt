use Rattle.std.proofs.Common.{◌≡◌, take}
use Rattle.farm_types.proofs.items.Items.from_slice.Given as goal

abbrev pub invariant-loop-value : goal.invariant-loop-value
invariant-loop-value g l = l.stored.items ≡ take l.value-index l.values
