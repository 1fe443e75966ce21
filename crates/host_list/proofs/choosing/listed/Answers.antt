use Rattle.std.proofs.Common.{ap, Some}
use Rattle.host_list.proofs.choosing.listed.Goals as goal

-- what is read is the only meaning of the text
pub returns-in-Ok-clause-listed : goal.returns-in-Ok-clause-listed
returns-in-Ok-clause-listed c hosts list = ap Some (c.in-Ok.ensures.only_list hosts list)

-- a list has no fault
pub returns-in-Ok-clause-faulty : goal.returns-in-Ok-clause-faulty
returns-in-Ok-clause-faulty c at fault stands = absurd (c.in-Ok.ensures.only_fault at fault stands)

-- and a text with a fault is no list
pub returns-in-Err-Fault-clause-listed : goal.returns-in-Err-Fault-clause-listed
returns-in-Err-Fault-clause-listed c hosts list = let other = c.in-Err-Fault.ensures.only_list hosts list in cc
