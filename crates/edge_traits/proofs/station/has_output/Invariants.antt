use Rattle.std.proofs.Common.{◌≡◌, false, take}
use Rattle.edge_traits.specs.Stations.{has_output}
use Rattle.edge_traits.proofs.station.has_output.Given as goal

abbrev pub invariant-loop-word : goal.invariant-loop-word
invariant-loop-word l = has_output (take l.word-index l.words) ≡ false
