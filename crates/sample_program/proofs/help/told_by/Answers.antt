use Rattle.std.proofs.Common.{ap}
use Rattle.sample_program.specs.Helps.{told_by}
use Rattle.sample_program.proofs.help.told_by.Goals as goal

pub returns-in-text : goal.returns-in-text
returns-in-text c = ap told_by c.in-text.is
