use Rattle.std.proofs.Common.{string_bytes, Global, ap, sym, ◌∙◌, Some, [], arith}
use Rattle.option_reader.specs.Items.{from_name}
use Rattle.option_reader.proofs.Left.{shaped, head_is, no_value, some_value, too_short}
use Rattle.option_reader.proofs.finding.value_of.Goals as goal

pub returns-then-not-takes_value : goal.returns-then-not-takes_value
returns-then-not-takes_value g c = λ options are.
    let table = g.T.OptionTable.table c.args.table.now in
    no_value table c.args.name.now (from_name c.args.name.now options) (head_is table c.args.name.now options
    (shaped table [] options are.right)) (sym c.takes_value.ensures ∙ c.if-not-takes_value.true)

pub returns-in_default : goal.returns-in_default
returns-in_default g c = λ options are.
    let table = g.T.OptionTable.table c.args.table.now in
    let right = shaped table [] options are.right in
    too_short table c.args.name.now (string_bytes {Z = Global}) (sym c.takes_value.ensures
    ∙ c.if-not-takes_value.false) c.from_option.result.now (from_name c.args.name.now options)
    (head_is table c.args.name.now options right)
    (c.from_option.ensures options right are.are) (omega (arith, c.in_default.len_below))

pub returns-in-len2-up : goal.returns-in-len2-up
returns-in-len2-up g c = λ options are.
    let table = g.T.OptionTable.table c.args.table.now in
    let right = shaped table [] options are.right in
    ap Some c.as_str.ensures.value
    ∙ some_value table c.args.name.now (string_bytes {Z = Global}) (sym c.takes_value.ensures
    ∙ c.if-not-takes_value.false) c.from_option.result.now c.value-item.result (from_name c.args.name.now options)
    (head_is table c.args.name.now options right) (c.from_option.ensures options right are.are) (omega
    (arith, c.in-len2-up.len_at_least)) c.value-item.is
