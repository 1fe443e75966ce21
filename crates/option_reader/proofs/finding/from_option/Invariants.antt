use Rattle.std.proofs.Common.{◌≡◌, List, length, map, string_bytes, Global}
use Rattle.option_reader.specs.Items.{Item, items_words}
use Rattle.option_reader.specs.Tables.{AreShaped}
use Rattle.option_reader.proofs.Left.{Left}
use Rattle.option_reader.proofs.finding.from_option.Given as goal

abbrev pub invariant-each : goal.invariant-each
invariant-each g l =
    (options : List Item) → AreShaped (g.T.OptionTable.table l.table) options
    → map (string_bytes {Z = Global}) l.words ≡ items_words options
    → Left (g.T.OptionTable.table l.table) l.name options (map (string_bytes {Z = Global}) l.rest)

abbrev pub decreases-each : goal.decreases-each
decreases-each g l = length l.rest
