use Rattle.std.proofs.Common.{◌∙◌, arith}
use Rattle.host_list.proofs.Cutting.{word_at}
use Rattle.host_list.proofs.text.next_word.Goals as goal

pub returns-clause-some : goal.returns-clause-some
returns-clause-some c = c.skip_gap-at.ensures.same
    ∙ word_at c.args.text.now c.skip_gap-at.result c.word_end-end.result (c.skip_gap-at.ensures.stops (omega arith)) (omega arith)
    c.word_end-end.ensures.high c.word_end-end.ensures.plain c.word_end-end.ensures.ends
