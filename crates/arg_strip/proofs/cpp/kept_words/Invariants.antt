use Rattle.std.proofs.Common.{◌≡◌}
use Rattle.arg_scan.specs.Roles.{owner_at, part_at, word_at}
use Rattle.arg_strip.specs.Words.{gather, preprocessing_word}
use Rattle.arg_strip.proofs.cpp.kept_words.Given as goal

abbrev pub invariant-loop-at : goal.invariant-loop-at
invariant-loop-at l =
    (l.owner ≡ owner_at l.words l.at) × (l.kept ≡ gather (λ at. preprocessing_word (part_at l.words at) (word_at l.words at)) l.at)
