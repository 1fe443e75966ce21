use Rattle.std.proofs.Common.{◌≡◌, ◌-◌}
use Rattle.std.specs.List.{range_with_len, list_all}
use Rattle.slot_table.specs.Step.{is_down, is_ruled_out}
use Rattle.slot_table.proofs.slots.Slots.is_down.Given as goal

abbrev pub invariant-loop-host : goal.invariant-loop-host
invariant-loop-host g l = is_down l.self.limits l.self.state l.mask l.now ≡ list_all (is_ruled_out l.self.state l.mask l.now)
    (range_with_len l.host (l.self.limits.count - l.host))
