use Rattle.course_laws.proofs.CutsByMemory.{memory-law}
use Rattle.course_laws.proofs.TablesBack.{table}
use Rattle.course_laws.proofs.table_law.Goals as goal

pub returns-clause-table : goal.returns-clause-table
returns-clause-table c = table

pub returns-clause-memory : goal.returns-clause-memory
returns-clause-memory c = memory-law
