use Rattle.farm_types.proofs.DecimalLemmas.{decimal_some, decimal_none}
use Rattle.farm_types.specs.Limits.{lines_max}
use Rattle.farm_options.specs.Limits.{count_digits}
use Rattle.farm_options.proofs.number.parse_lines.Goals as goal

pub returns-in-Some : goal.returns-in-Some
returns-in-Some c = decimal_some count_digits 1 lines_max c.args.word.now c.in-Some.lines c.in-Some.ensures

pub returns-in-None : goal.returns-in-None
returns-in-None c = decimal_none count_digits 1 lines_max c.args.word.now c.in-None.ensures
