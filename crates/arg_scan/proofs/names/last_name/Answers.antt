use Rattle.std.proofs.Common.{sym, ◌∙◌, arith}
use Rattle.option_table.proofs.Positions.{fails_by}
use Rattle.arg_scan.proofs.LastName.{last_name-none, last_name-at, whole_rest}
use Rattle.arg_scan.proofs.names.last_name.Goals as goal

pub returns-in-Some : goal.returns-in-Some
returns-in-Some c =
    let found = c.in-Some.ensures in
    whole_rest c.args.path.now c.in-Some.at
    ∙ sym (last_name-at c.args.path.now c.in-Some.at (omega (arith, found.0.high)) found.1
    (λ k l m. fails_by _ (found.0.after k (omega arith) m)))

pub returns-in-None : goal.returns-in-None
returns-in-None c = sym (last_name-none c.args.path.now (λ k within. fails_by _ (c.in-None.ensures k (omega arith) within)))
