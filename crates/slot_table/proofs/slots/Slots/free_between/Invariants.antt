use Rattle.std.proofs.Common.{◌≡◌, ◌-◌}
use Rattle.std.specs.Prelude.{find}
use Rattle.std.specs.List.{range_with_len}
use Rattle.slot_table.specs.Step.{is_free}
use Rattle.slot_table.proofs.slots.Slots.free_between.Given as goal

abbrev pub invariant-loop-host : goal.invariant-loop-host
invariant-loop-host g l = find (is_free l.self.limits l.self.state l.mask l.now) (range_with_len l.from (l.to - l.from))
    ≡ find (is_free l.self.limits l.self.state l.mask l.now) (range_with_len l.host (l.to - l.host))
