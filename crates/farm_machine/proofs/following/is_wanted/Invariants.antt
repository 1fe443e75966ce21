use Rattle.std.proofs.Common.{◌≡◌, ◌-◌}
use Rattle.std.specs.List.{range_with_len, list_all}
use Rattle.farm_machine.specs.Farm.{wanted, is_as_wanted}
use Rattle.farm_machine.specs.Weave.{Reports, no_progress, last_progress}
use Rattle.farm_machine.proofs.following.is_wanted.Given as goal

abbrev pub invariant-loop-host : goal.invariant-loop-host
invariant-loop-host l = (r : Reports) → wanted l.limits ((last_progress (no_progress r) l.before).past l.job) l.mask
    ≡ list_all (is_as_wanted ((last_progress (no_progress r) l.before).past l.job) l.mask) (range_with_len l.host (l.limits.count - l.host))
