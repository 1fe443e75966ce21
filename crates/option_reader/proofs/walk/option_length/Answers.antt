use Rattle.std.proofs.Common.{string_bytes, Global, map, ap, sym, subst, ◌∙◌, ◌∷◌}
use Rattle.option_reader.specs.Items.{stands_in}
use Rattle.option_reader.specs.Tables.{Goes, has_value, may_stand}
use Rattle.option_reader.proofs.Steps.{goes_plain, goes_valued, not_true, not_false}
use Rattle.option_reader.proofs.walk.option_length.Goals as goal

pub returns-then-not-row-clause-read : goal.returns-then-not-row-clause-read
returns-then-not-row-clause-read g c = λ options right are.
    goes_plain (g.T.OptionTable.table c.args.table.now) options c.args.name.now (map (string_bytes {Z = Global}) c.args.after.now)
    (ap (λ row. may_stand row (stands_in c.args.name.now options)) (sym c.in-Some.ensures)
    ∙ sym (c.may_stand.ensures options right are) ∙ c.if-not-may_stand.false)
    (ap has_value (sym c.in-Some.ensures) ∙ not_true c.in-Some.row.takes_value c.if-not-row.true)

pub returns-then-fits-clause-read : goal.returns-then-fits-clause-read
returns-then-fits-clause-read g c = λ options right are.
    let table = g.T.OptionTable.table c.args.table.now in
    let value = string_bytes {Z = Global} c.in-Some-split_first.value.now in
    let fits = subst (λ before. table.Fits before c.args.name.now value) are
    (subst (λ v. table.Fits (map (string_bytes {Z = Global}) c.args.before.now) c.args.name.now v) c.as_str.ensures.value
    (c.fits.ensures.yes c.if-fits.true)) in
    subst (λ after. Goes table options (c.args.name.now ∷ map (string_bytes {Z = Global}) after) 2)
    (sym c.in-Some-split_first.ensures.cases.0)
    (goes_valued table options c.args.name.now (map (string_bytes {Z = Global}) c.in-Some-split_first.field-0-1.now) value
    (ap (λ row. may_stand row (stands_in c.args.name.now options)) (sym c.in-Some.ensures)
    ∙ sym (c.may_stand.ensures options right are) ∙ c.if-not-may_stand.false)
    (ap has_value (sym c.in-Some.ensures) ∙ not_false c.in-Some.row.takes_value c.if-not-row.false) fits)
