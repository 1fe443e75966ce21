use Rattle.std.proofs.Common.{◌≡◌, map, string_bytes, take, Global}
use Rattle.daemon_tests.proofs.lines.strings.Given as goal

abbrev pub invariant-loop-word : goal.invariant-loop-word
invariant-loop-word l = map (string_bytes {Z = Global}) l.list.items ≡ map (λ word. word.now) (take l.word-index l.words)
