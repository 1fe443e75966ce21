use Rattle.std.proofs.Common.{sym, ◌∙◌, arith}
use Rattle.option_table.proofs.Positions.{fails_by}
use Rattle.dependency_options.proofs.Stems.{stem-dot, stem-plain, stem-slash}
use Rattle.dependency_options.proofs.naming.stem.Goals as goal

pub returns-in-Some : goal.returns-in-Some
returns-in-Some c =
    let found = c.in-Some.ensures in
    sym (stem-dot c.args.name.now c.in-Some.at found.0.high found.1 c.if-name-at-eq46.true
    (λ k low high. fails_by _ (found.0.after k (omega arith) high)))

pub returns-in_default : goal.returns-in_default
returns-in_default c =
    let found = c.in-Some.ensures in
    sym (stem-slash c.args.name.now c.in-Some.at found.0.high found.1 c.if-name-at-eq46.false
    (λ k low high. fails_by _ (found.0.after k (omega arith) high)))

pub returns-in_default-2 : goal.returns-in_default-2
returns-in_default-2 c = sym (stem-plain c.args.name.now (λ k within. fails_by _ (c.in_default.ensures k (omega arith) within)))
