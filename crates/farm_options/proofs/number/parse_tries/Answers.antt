use Rattle.farm_types.proofs.DecimalLemmas.{decimal_some, decimal_none}
use Rattle.farm_options.specs.Limits.{tries_digits, tries_max}
use Rattle.farm_options.proofs.number.parse_tries.Goals as goal

pub returns-in-Some : goal.returns-in-Some
returns-in-Some c = decimal_some tries_digits 1 tries_max c.args.word.now c.in-Some.tries c.in-Some.ensures

pub returns-in-None : goal.returns-in-None
returns-in-None c = decimal_none tries_digits 1 tries_max c.args.word.now c.in-None.ensures
