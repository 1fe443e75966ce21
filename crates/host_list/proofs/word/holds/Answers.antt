use Rattle.std.proofs.Common.{◌∙◌}
use Rattle.memchr.specs.Find.{is_byte}
use Rattle.host_list.proofs.AnyLemmas.{found_any}
use Rattle.host_list.proofs.word.holds.Goals as goal

pub returns : goal.returns
returns c = c.is_some.ensures ∙ found_any (is_byte c.args.byte) c.args.word.now c.memchr.result c.memchr.ensures
