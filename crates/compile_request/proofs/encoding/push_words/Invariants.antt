use Rattle.std.proofs.Common.{◌≡◌, ◌++◌, take}
use Rattle.std.specs.List.{flat_map}
use Rattle.wire_tokens.specs.Request.{word_text}
use Rattle.compile_request.proofs.encoding.push_words.Given as goal

abbrev pub invariant-loop-word : goal.invariant-loop-word
invariant-loop-word l = l.text ≡ l.fn.text ++ flat_map word_text (take l.word-index l.words)
