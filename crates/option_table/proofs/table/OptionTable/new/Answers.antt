use Rattle.std.proofs.Common.{ap, Err}
use Rattle.option_table.proofs.Faulting.{table_has_none, one_fault}
use Rattle.option_table.proofs.table.OptionTable.new.Goals as goal

pub returns-in-Some-clause-right : goal.returns-in-Some-clause-right
returns-in-Some-clause-right g c =
    (λ e. cc, λ table. absurd (table_has_none c.args.rows c.in-Some.fault table c.in-Some.ensures))

pub returns-in-Some-clause-only : goal.returns-in-Some-clause-only
returns-in-Some-clause-only g c = λ fault stands. ap Err (one_fault c.args.rows c.in-Some.fault fault c.in-Some.ensures stands)

pub returns-in-None-clause-only : goal.returns-in-None-clause-only
returns-in-None-clause-only g c = λ fault stands. absurd (table_has_none c.args.rows fault c.in-None.ensures stands)
