use Rattle.std.proofs.Common.{◌-◌, length, map, string_bytes, Global}
use Rattle.option_reader.proofs.Steps.{Reached}
use Rattle.option_reader.proofs.walk.check_options.Given as goal

abbrev pub invariant-each : goal.invariant-each
invariant-each g l = Reached (g.T.OptionTable.table l.table) (map (string_bytes {Z = Global}) l.words) l.at

abbrev pub decreases-each : goal.decreases-each
decreases-each g l = length l.words - l.at
