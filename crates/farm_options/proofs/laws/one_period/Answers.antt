use Rattle.farm_options.proofs.Periods.{some_period, one_period, no_bad_period}
use Rattle.farm_options.proofs.laws.one_period.Goals as goal

pub returns-clause-some : goal.returns-clause-some
returns-clause-some c = some_period

pub returns-clause-period : goal.returns-clause-period
returns-clause-period c = one_period

pub returns-clause-apart : goal.returns-clause-apart
returns-clause-apart c = no_bad_period
