use Rattle.std.proofs.Common.{◌≡◌, ◌+◌, drop}
use Rattle.sample_compiler.specs.Meanings.{name_len}
use Rattle.sample_compiler.proofs.meaning.name_len.Given as goal

abbrev pub invariant-loop-at : goal.invariant-loop-at
invariant-loop-at l = name_len l.text ≡ l.at + name_len (drop l.at l.text)
