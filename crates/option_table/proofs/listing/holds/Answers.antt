use Rattle.std.proofs.Common.{◌∙◌}
use Rattle.option_table.proofs.Pieces.{holds_found}
use Rattle.option_table.proofs.listing.holds.Goals as goal

pub returns : goal.returns
returns c = c.is_some.ensures ∙ holds_found c.args.word.now c.args.piece.now c.find.result c.find.ensures
