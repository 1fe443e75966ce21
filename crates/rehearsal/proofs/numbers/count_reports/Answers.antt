use Rattle.std.proofs.Common.{◌≡◌, length, take, subst, sym, ap, ◌∙◌, arith}
use Rattle.std.specs.Prelude.{All}
use Rattle.std.proofs.Math.Seq.{take-length}
use Rattle.std.proofs.lemmas.List.Elements.{All-more}
use Rattle.farm_machine.specs.declared.reports.Report.{Report}
use Rattle.rehearsal.specs.Counts.{IsDone}
use Rattle.rehearsal.proofs.numbers.count_reports.Goals as goal

abbrev Ended : Report → Type 0
Ended report = IsDone report.end

pub loop-report-preserved : goal.loop-report-preserved
loop-report-preserved c =
    let item : Report = c.report-item.result in
    let done : Ended item = subst IsDone (sym c.in_default.is) tt in
    All-more Ended c.args.reports.now c.loop-report.report-index item c.loop-report-test.true c.loop-report.invariant
    (subst Ended c.report-item.is done)

pub returns : goal.returns
returns c =
    let reports = c.args.reports.now in
    let whole : take c.loop-report.report-index reports ≡ reports =
    ap (λ k. take k reports) (let end : c.loop-report.report-index ≡ length reports = omega arith in end) ∙ take-length reports in
    (subst (All Ended) whole c.loop-report.invariant, c.done_well.ensures.count, c.bytes_put.ensures)
