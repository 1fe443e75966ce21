use Rattle.std.proofs.Common.{arith}
use Rattle.std.proofs.lemmas.Grind.{common_steps}
use Rattle.object_kind.specs.Formats.{has_at}
use Rattle.object_kind.proofs.formats.has_at.Goals as goal

pub returns-then-at-object : goal.returns-then-at-object
unfolding has_at
returns-then-at-object c = grind (arith, common_steps)

pub returns-else-at-object : goal.returns-else-at-object
unfolding has_at
returns-else-at-object c = grind (arith, common_steps)
