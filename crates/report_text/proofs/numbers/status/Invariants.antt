use Rattle.std.proofs.Common.{◌≡◌, length}
use Rattle.report_text.specs.Numbers.{number}
use Rattle.report_text.proofs.numbers.status.Given as goal

abbrev pub invariant-seeking : goal.invariant-seeking
invariant-seeking l = number l.fn.reports ≡ number l.rest

abbrev pub decreases-seeking : goal.decreases-seeking
decreases-seeking l = length l.rest
