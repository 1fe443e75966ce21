use Rattle.std.proofs.Common.{rules}
use Rattle.allowed_options.specs.Served.{before}
use Rattle.allowed_options.proofs.words.before.Goals as goal

pub returns : goal.returns
unfolding before
returns c = search rules
