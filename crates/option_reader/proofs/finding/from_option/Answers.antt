use Rattle.std.proofs.Common.{string_bytes, Global, map, bytes_eq, ap, sym, subst, ◌∙◌}
use Rattle.option_reader.proofs.Left.{Left, left_more, found, not_found}
use Rattle.option_reader.proofs.finding.from_option.Goals as goal

pub returns-then-eq : goal.returns-then-eq
returns-then-eq g c = λ options right are.
    found (string_bytes {Z = Global})
    (g.T.OptionTable.table c.args.table.now) c.args.name.now options c.each.rest.now c.in-Some.after.now c.in-Some.word.now
    c.as_str.result.now
    c.in-Some.ensures.cases.0 c.as_str.ensures.value (sym c.eq.ensures ∙ c.if-eq.true) (c.each.invariant options right are)

pub each-preserved : goal.each-preserved
each-preserved g c = λ options right are.
    subst (λ rest. Left (g.T.OptionTable.table c.args.table.now) c.args.name.now options (map (string_bytes {Z = Global}) rest))
    (sym c.behind_value-rest.ensures.rest)
    (left_more (string_bytes {Z = Global})
    (g.T.OptionTable.table c.args.table.now) c.args.name.now options c.each.rest.now c.in-Some.after.now c.in-Some.word.now
    c.as_str-in-Some.result.now c.takes_value.result
    c.in-Some.ensures.cases.0 c.as_str-in-Some.ensures.value c.takes_value.ensures (ap (λ t. bytes_eq t c.args.name.now)
    (c.as_str-in-Some.ensures.value ∙ sym c.as_str.ensures.value) ∙ sym c.eq.ensures ∙ c.if-eq.false)
    (c.each.invariant options right are))

pub returns : goal.returns
returns g c = λ options right are.
    not_found (string_bytes {Z = Global})
    (g.T.OptionTable.table c.args.table.now) c.args.name.now options c.each.rest.now c.in_default.ensures.cases
    (c.each.invariant options right are)
