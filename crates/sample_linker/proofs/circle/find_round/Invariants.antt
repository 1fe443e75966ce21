use Rattle.std.proofs.Common.{◌-◌, length}
use Rattle.sample_linker.proofs.Rounds.{WalksTo}
use Rattle.sample_linker.proofs.circle.find_round.Given as goal

abbrev pub invariant-walking : goal.invariant-walking
invariant-walking l = WalksTo l.table l.placed l.met l.defined l.path l.at

abbrev pub decreases-walking : goal.decreases-walking
decreases-walking l = length l.defined - length l.path
