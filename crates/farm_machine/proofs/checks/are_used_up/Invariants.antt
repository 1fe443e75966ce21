use Rattle.std.proofs.Common.{ℕ, ◌<◌}
use Rattle.farm_machine.specs.Reading.{unread}
use Rattle.farm_machine.specs.Weave.{no_progress, last_progress, IsUsedUp}
use Rattle.farm_machine.proofs.checks.are_used_up.Given as goal

abbrev pub invariant-loop-job : goal.invariant-loop-job
invariant-loop-job l = (j : ℕ) → j < l.job → IsUsedUp (last_progress (no_progress (unread l.reports)) l.calls) j
