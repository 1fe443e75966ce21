use Rattle.option_table.proofs.Faulting.{table_from}
use Rattle.option_table.proofs.fault.fault_of.Goals as goal

pub returns-in-None-first_short : goal.returns-in-None-first_short
returns-in-None-first_short c = table_from c.args.rows.now c.in-None.ensures c.in-None-first_short.ensures.long
