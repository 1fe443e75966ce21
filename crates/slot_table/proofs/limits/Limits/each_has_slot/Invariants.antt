use Rattle.std.proofs.Common.{ℕ, ◌<◌}
use Rattle.std.specs.Prelude.{slice_index}
use Rattle.slot_table.proofs.limits.Limits.each_has_slot.Given as goal

abbrev pub invariant-loop-host : goal.invariant-loop-host
invariant-loop-host g l = (i : ℕ) → i < l.host → 0 < slice_index l.self.limit i
