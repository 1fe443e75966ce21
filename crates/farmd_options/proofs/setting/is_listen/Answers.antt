use Rattle.std.proofs.Common.{sym, ◌∙◌}
use Rattle.farmd_options.proofs.Meaning.{none_read}
use Rattle.farmd_options.proofs.setting.is_listen.Goals as goal

pub returns-clause-no : goal.returns-clause-no
returns-clause-no c = λ none found. none_read c.read_listen.result c.read_listen.ensures.none (sym c.is_some.ensures ∙ none) found.0 found.1
