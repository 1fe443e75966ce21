-- Every course is one of the table, where memory may have been wanting, and every one of the table is a course.
use Rattle.std.proofs.Common.{inl, inr, refl, sym, subst, List}
use Rattle.farm_machine.specs.declared.reports.End.{End}
use Rattle.farm_machine.specs.declared.reports.End.TheVariants.{Done, Failed}
use Rattle.farm_machine.specs.declared.reports.Why5.TheVariants.{Station, Put as NotPut, Fetch, Broke, NoHost, Memory}
use Rattle.farm_machine.specs.Acts.{Act}
use Rattle.farm_machine.specs.Course.{Course}
use Rattle.farm_machine.specs.Jobs.{Job}
use Rattle.farm_machine.specs.TableCourse.{IsOfTable}
use Rattle.course_laws.proofs.CutsByMemory.{memory-law}
use Rattle.course_laws.proofs.TablesBack.{back, table}

pub in-table : (j : Job) (acts : List Act) (end : End) → Course j acts end → IsOfTable j acts end
in-table j acts (Failed Memory) course = inr (refl, (memory-law j acts).0 course)
in-table j acts (Failed Station) course = inl ((table j acts (Failed Station) (λ e. cc)).0 course)
in-table j acts (Failed NotPut) course = inl ((table j acts (Failed NotPut) (λ e. cc)).0 course)
in-table j acts (Failed Fetch) course = inl ((table j acts (Failed Fetch) (λ e. cc)).0 course)
in-table j acts (Failed (Broke host cause)) course = inl ((table j acts (Failed (Broke host cause)) (λ e. cc)).0 course)
in-table j acts (Failed NoHost) course = inl ((table j acts (Failed NoHost) (λ e. cc)).0 course)
in-table j acts (Done status note err out by) course = inl ((table j acts (Done status note err out by) (λ e. cc)).0 course)

pub from-table : (j : Job) (acts : List Act) (end : End) → IsOfTable j acts end → Course j acts end
from-table j acts end (inl finished) = back j acts end finished
from-table j acts end (inr wanted) = subst (Course j acts) (sym wanted.0) ((memory-law j acts).1 wanted.1)
