use Rattle.std.proofs.Common.{◌≡◌, take}
use Rattle.std.specs.Prelude.{map}
use Rattle.sample_compiler.specs.Stations.{own_word}
use Rattle.sample_compiler.proofs.station.spelled.Given as goal

abbrev pub invariant-loop-word : goal.invariant-loop-word
invariant-loop-word l = l.texts ≡ map own_word (take l.word-index l.words)
