use Rattle.std.proofs.Common.{◌≡◌, take}
use Rattle.child_runner.specs.Runs
use Rattle.child_runner.proofs.texts.texts.Given as goal

abbrev pub invariant-loop-word : goal.invariant-loop-word
invariant-loop-word l = l.made ≡ Runs.texts (take l.word-index l.words)
