use Rattle.std.proofs.Common.{◌≡◌, ℕ, ◌<◌, length, get_or}
use Rattle.farm_machine.specs.Jobs.{no_host_entry}
use Rattle.farm_machine.proofs.limits.each_limit.Given as goal

abbrev pub invariant-loop-place : goal.invariant-loop-place
invariant-loop-place l = (length l.limit ≡ 16) × ((k : ℕ) → k < l.place → get_or l.limit k 0 ≡ (get_or l.list k no_host_entry).limit)
