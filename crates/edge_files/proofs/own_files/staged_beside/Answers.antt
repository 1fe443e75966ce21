use Rattle.std.proofs.Common.{inr, arith}
use Rattle.std.proofs.lemmas.Grind.{common_steps}
use Rattle.edge_files.proofs.own_files.staged_beside.Goals as goal

pub returns-in_ok-push_str-in-Some-2 : goal.returns-in_ok-push_str-in-Some-2
returns-in_ok-push_str-in-Some-2 c = inr (c.in-Some.ensures.cases.0, grind (arith, common_steps))
