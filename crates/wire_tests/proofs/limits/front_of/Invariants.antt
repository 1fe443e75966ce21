use Rattle.std.proofs.Common.{◌≡◌, ◌+◌, ◌++◌, length, take, codes}
use Rattle.std.specs.List.{flat_map}
use Rattle.wire_tokens.specs.Request.{word_text}
use Rattle.wire_tokens.specs.Token.{token}
use Rattle.wire_tests.proofs.limits.front_of.Given as goal

abbrev pub invariant-loop-word : goal.invariant-loop-word
invariant-loop-word l =
    l.text ≡ token (codes "DIST") 1 ++ (token (codes "ARGC") (length l.words + 1) ++ flat_map word_text (take l.word-index l.words))
