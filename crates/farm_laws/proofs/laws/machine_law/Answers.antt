use Rattle.farm_laws.proofs.KeptByAll.{kept-law, prefix-law, run-law}
use Rattle.farm_laws.proofs.laws.machine_law.Goals as goal

pub returns-clause-kept : goal.returns-clause-kept
returns-clause-kept c = kept-law

pub returns-clause-prefixes : goal.returns-clause-prefixes
returns-clause-prefixes c = prefix-law

pub returns-clause-run : goal.returns-clause-run
returns-clause-run c = run-law
