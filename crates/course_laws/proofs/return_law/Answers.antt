use Rattle.course_laws.proofs.Unbroken.{own-end-law, unbroken-law}
use Rattle.course_laws.proofs.return_law.Goals as goal

pub returns-clause-own : goal.returns-clause-own
returns-clause-own c = own-end-law

pub returns-clause-unbroken : goal.returns-clause-unbroken
returns-clause-unbroken c = unbroken-law
