use Rattle.course_laws.proofs.Compilers.{end-answer, fully-honest, put-answer, whole-answer}
use Rattle.course_laws.proofs.answer_law.Goals as goal

pub returns-clause-fully : goal.returns-clause-fully
returns-clause-fully g c = fully-honest _ _

pub returns-clause-whole : goal.returns-clause-whole
returns-clause-whole g c = whole-answer _ _

pub returns-clause-put : goal.returns-clause-put
returns-clause-put g c = put-answer _ _

pub returns-clause-end : goal.returns-clause-end
returns-clause-end g c = end-answer _ _
