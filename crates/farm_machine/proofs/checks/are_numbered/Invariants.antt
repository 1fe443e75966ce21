use Rattle.std.proofs.Common.{◌≡◌, ℕ, ◌<◌, Some}
use Rattle.std.specs.Prelude.{slice_get}
use Rattle.farm_machine.specs.declared.reports.Report.{Report}
use Rattle.farm_machine.proofs.checks.are_numbered.Given as goal

abbrev pub invariant-loop-place : goal.invariant-loop-place
invariant-loop-place l = (k : ℕ) (report : Report) → k < l.place → slice_get l.list k ≡ Some report → report.number ≡ k
