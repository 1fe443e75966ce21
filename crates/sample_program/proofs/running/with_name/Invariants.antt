use Rattle.std.proofs.Common.{◌≡◌, ◌∷◌, take, map, string_bytes, Global}
use Rattle.std.specs.Prelude.{codes}
use Rattle.sample_program.proofs.running.with_name.Given as goal

abbrev pub invariant-loop-word : goal.invariant-loop-word
invariant-loop-word l = l.made ≡ codes "scc" ∷ map (string_bytes {Z = Global}) (take l.word-index l.words)
