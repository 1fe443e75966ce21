use Rattle.std.proofs.Common.{◌∙◌, ap}
use Rattle.std.specs.Option.{is_some}
use Rattle.memchr.proofs.lemmas.ValueLemmas.{FindsNeedle-value}
use Rattle.whole_command.proofs.source_text.is_place.Goals as goal

pub returns : goal.returns
returns c = c.is_some.ensures ∙ ap is_some (FindsNeedle-value c.args.text.now c.args.name.now c.find.result c.find.ensures)
