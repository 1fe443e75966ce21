use Rattle.std.proofs.Common.{◌≡◌, length}
use Rattle.whole_command.specs.SourceText.{has_option_pragma}
use Rattle.whole_command.proofs.source_text.has_option_pragma.Given as goal

abbrev pub invariant-seeking : goal.invariant-seeking
invariant-seeking l = has_option_pragma l.rest ≡ has_option_pragma l.text

abbrev pub decreases-seeking : goal.decreases-seeking
decreases-seeking l = length l.rest
