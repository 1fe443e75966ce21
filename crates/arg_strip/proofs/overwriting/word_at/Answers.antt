use Rattle.arg_scan.proofs.Firsts.{past_end}
use Rattle.arg_strip.proofs.overwriting.word_at.Goals as goal

pub returns-in-None : goal.returns-in-None
returns-in-None c = past_end c.args.words.now c.args.at c.in-None.ensures
