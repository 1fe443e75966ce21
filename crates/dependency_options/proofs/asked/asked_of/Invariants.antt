use Rattle.std.proofs.Common.{◌≡◌}
use Rattle.arg_scan.specs.Roles.{owner_at}
use Rattle.dependency_options.specs.Words.{asked_below}
use Rattle.dependency_options.proofs.asked.asked_of.Given as goal

abbrev pub invariant-loop-at : goal.invariant-loop-at
invariant-loop-at l = (l.owner ≡ owner_at l.words l.at) × (l.asked ≡ asked_below l.words l.at)
