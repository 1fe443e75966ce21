use Rattle.farm_options.proofs.Reading.{some_reading, one_meaning, no_both, one_place}
use Rattle.farm_options.proofs.laws.one_reading.Goals as goal

pub returns-clause-some : goal.returns-clause-some
returns-clause-some c = some_reading

pub returns-clause-meaning : goal.returns-clause-meaning
returns-clause-meaning c = one_meaning

pub returns-clause-apart : goal.returns-clause-apart
returns-clause-apart c = no_both

pub returns-clause-place : goal.returns-clause-place
returns-clause-place c = one_place
