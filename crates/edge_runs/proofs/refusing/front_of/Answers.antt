use Rattle.std.proofs.Common.{sym, arith}
use Rattle.std.proofs.lemmas.List.{length-take, take_all}
use Rattle.edge_runs.specs.Refusals.{shown_word_max}
use Rattle.edge_runs.proofs.refusing.front_of.Goals as goal

pub slice_bounds-result-end : goal.slice_bounds-result-end
slice_bounds-result-end c = omega (arith, length-take shown_word_max c.args.text.now, c.if-text-gt-SHOWN_WORD_MAX.true)

pub returns-else-text-gt-SHOWN_WORD_MAX : goal.returns-else-text-gt-SHOWN_WORD_MAX
returns-else-text-gt-SHOWN_WORD_MAX c = sym (take_all shown_word_max c.args.text.now c.if-text-gt-SHOWN_WORD_MAX.false)
