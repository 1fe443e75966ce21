use Rattle.compile_database.specs.Programs.{printed_list}
use Rattle.compile_database.proofs.Listed.{refused_text}
use Rattle.compile_database.proofs.program.list.Goals as goal

pub returns-in-Ok : goal.returns-in-Ok
returns-in-Ok g c = printed_list c.in-Ok.made c.in-Ok.ensures.list c.tell.ensures

pub returns-in-Err-Fault : goal.returns-in-Err-Fault
returns-in-Err-Fault g c =
    refused_text c.in-Err-Fault.fault (rw c.in-Err-Fault.field-0-is at c.in-Err-Fault.ensures.fault) c.refuse_text.ensures
