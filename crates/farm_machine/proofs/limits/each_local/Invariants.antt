use Rattle.std.proofs.Common.{◌≡◌, ℕ, ◌<◌, false, length, get_or}
use Rattle.farm_machine.specs.Jobs.{no_host_entry}
use Rattle.farm_machine.proofs.limits.each_local.Given as goal

abbrev pub invariant-loop-place : goal.invariant-loop-place
invariant-loop-place l = (length l.local ≡ 16) × ((k : ℕ) → k < l.place → get_or l.local k false ≡ (get_or l.list k no_host_entry).local)
