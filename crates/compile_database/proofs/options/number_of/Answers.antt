use Rattle.farm_types.proofs.DecimalLemmas.{plain_some, plain_none}
use Rattle.compile_database.proofs.options.number_of.Goals as goal

pub returns-in-Some : goal.returns-in-Some
returns-in-Some c = plain_some 9 0 999999999 c.args.word.now c.in-Some.number c.in-Some.ensures.found

pub returns-in-None : goal.returns-in-None
returns-in-None c = plain_none 9 0 999999999 c.args.word.now c.in-None.ensures.none
