use Rattle.farm_types.specs.Limits.{jobs_max}
use Rattle.farm_types.proofs.DecimalLemmas.{plain_some, plain_none}
use Rattle.compile_database.proofs.options.count_of.Goals as goal

pub returns-in-Some : goal.returns-in-Some
returns-in-Some c = plain_some 3 1 jobs_max c.args.word.now c.in-Some.count c.in-Some.ensures.found

pub returns-in-None : goal.returns-in-None
returns-in-None c = plain_none 3 1 jobs_max c.args.word.now c.in-None.ensures.none
