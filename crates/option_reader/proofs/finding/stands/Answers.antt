use Rattle.std.proofs.Common.{string_bytes, Global, [], ap, ◌∙◌}
use Rattle.std.specs.Prelude.{not}
use Rattle.option_reader.specs.Items.{from_name}
use Rattle.option_reader.proofs.Left.{shaped, stands_by}
use Rattle.option_reader.proofs.finding.stands.Goals as goal

pub returns : goal.returns
returns g c = λ options are.
    ap not c.is_empty.ensures
    ∙ stands_by (string_bytes {Z = Global}) c.from_option.result.now (from_name c.args.name.now options)
    (c.from_option.ensures options (shaped (g.T.OptionTable.table c.args.table.now) [] options are.right) are.are)
