use Rattle.farm_types.proofs.DecimalLemmas.{decimal_some, decimal_none}
use Rattle.job_graph.proofs.need.short_number.Goals as goal

pub returns-in-Some : goal.returns-in-Some
returns-in-Some c = decimal_some 3 0 999 c.args.word.now c.in-Some.number c.in-Some.ensures.found

pub returns-in-None : goal.returns-in-None
returns-in-None c = decimal_none 3 0 999 c.args.word.now c.in-None.ensures.none
