use Rattle.std.proofs.Common.{◌∙◌, arith}
use Rattle.host_list.proofs.Cutting.{comment_at}
use Rattle.host_list.proofs.text.skip_gap.Goals as goal

pub loop-at-preserved-then-text-at-eq35 : goal.loop-at-preserved-then-text-at-eq35
loop-at-preserved-then-text-at-eq35 c = record {
  low = omega arith;
  high = c.line_end-at.ensures.high;
  same = c.loop-at.invariant.same ∙ comment_at c.args.text.now c.loop-at.at c.line_end-at.result c.if-text-at-eq35.true
      (omega arith) c.line_end-at.ensures.high c.line_end-at.ensures.plain c.line_end-at.ensures.ends;
}
