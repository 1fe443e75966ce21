use Rattle.std.proofs.Common.{take}
use Rattle.std.specs.Prelude.{All}
use Rattle.rehearsal.specs.Counts.{IsDone}
use Rattle.rehearsal.proofs.numbers.count_reports.Given as goal

-- no report so far is of a job that failed
abbrev pub invariant-loop-report : goal.invariant-loop-report
invariant-loop-report l = All (λ report. IsDone report.end) (take l.report-index l.reports)
