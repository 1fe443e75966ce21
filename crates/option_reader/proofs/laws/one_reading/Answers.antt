use Rattle.option_reader.proofs.Reading.{once, some_reading}
use Rattle.option_reader.proofs.laws.one_reading.Goals as goal

pub returns : goal.returns
returns g c = record { once = once (g.T.OptionTable.table c.args.table.now); some = some_reading (g.T.OptionTable.table c.args.table.now) }
