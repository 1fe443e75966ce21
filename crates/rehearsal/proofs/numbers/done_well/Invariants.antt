use Rattle.std.proofs.Common.{◌≡◌, ◌≤◌, take}
use Rattle.std.specs.Prelude.{count_by}
use Rattle.report_text.specs.Pieces as pieces
use Rattle.rehearsal.proofs.numbers.done_well.Given as goal

abbrev pub invariant-loop-report : goal.invariant-loop-report
invariant-loop-report l = record {
  count : l.done ≡ count_by (λ report. pieces.is_done_well report.end) (take l.report-index l.reports);
  most : l.done ≤ l.report-index;
}
