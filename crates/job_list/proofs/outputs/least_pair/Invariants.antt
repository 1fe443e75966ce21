use Rattle.job_list.proofs.Pairs.{HasPlaces}
use Rattle.job_list.proofs.outputs.least_pair.Given as goal

abbrev pub invariant-loop-second : goal.invariant-loop-second
invariant-loop-second l = HasPlaces l.outputs l.second l.places
