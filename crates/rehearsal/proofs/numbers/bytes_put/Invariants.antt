use Rattle.std.proofs.Common.{◌≡◌, ◌≤◌, ◌*◌, take}
use Rattle.std.specs.List.{sum_by}
use Rattle.farm_types.specs.Limits.{object_max}
use Rattle.rehearsal.specs.Counts as counts
use Rattle.rehearsal.specs.Counts.{puts_of}
use Rattle.rehearsal.proofs.numbers.bytes_put.Given as goal

abbrev pub invariant-loop-report : goal.invariant-loop-report
invariant-loop-report l = record {
  sum : l.bytes ≡ sum_by (counts.report_len (puts_of l.kits)) (take l.report-index l.reports);
  small : l.bytes ≤ object_max * l.report-index;
}
