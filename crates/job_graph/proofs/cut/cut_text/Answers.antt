use Rattle.std.proofs.Common.{◌≡◌, ℕ, ◌+◌, ◌-◌, List, [], ◌++◌, take, drop, ap, ◌∙◌, arith}
use Rattle.job_list.proofs.Listing.{next_line}
use Rattle.job_graph.specs.Lines.{cut_line}
use Rattle.job_graph.proofs.Cutting.{cut_begun, cut_more}
use Rattle.job_graph.proofs.cut.cut_text.Goals as goal

pub loop-at-init : goal.loop-at-init
loop-at-init c =
    let end = c.line_end-at in
    let next = next_line c.args.text.now 0 end.result end.ensures.low end.ensures.high end.ensures.plain end.ensures.ends in
    let whole : end.result ≡ end.result - 0 = omega arith in
    record {
      high = end.ensures.high;
      cuts = cut_begun c.args.text.now end.result (take (end.result - 0) (drop 0 c.args.text.now)) c.add_line.new.cut next
          (c.in_ok-add_line.ensures ∙ ap (λ (t : List ℕ). t ++ cut_line (take end.result c.args.text.now)) c.new-cut.ensures
          ∙ ap (λ n. [] ++ cut_line (take n c.args.text.now)) whole);
    }

pub loop-at-preserved : goal.loop-at-preserved
loop-at-preserved c =
    let end = c.line_end-end in
    let at = c.loop-at.at in
    let next = next_line c.args.text.now (at + 1) end.result end.ensures.low end.ensures.high end.ensures.plain end.ensures.ends in
    record {
      high = end.ensures.high;
      cuts = cut_more c.args.text.now at end.result (take (end.result - (at + 1)) (drop (at + 1) c.args.text.now)) c.loop-at.cut
          c.add_line-in-loop-at.new.cut c.loop-at-test.true c.loop-at.invariant.cuts next
          (c.in_ok-add_line-2.ensures ∙ ap (λ (t : List ℕ). t ++ cut_line
          (take (end.result - (at + 1)) (drop (at + 1) c.args.text.now))) c.in_ok-try_push.ensures.ok);
    }
