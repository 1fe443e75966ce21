use Rattle.std.proofs.Common.{List, ℕ, length, ap, ◌∙◌}
use Rattle.arg_scan.specs.Roles.{part_at, word_at}
use Rattle.arg_strip.specs.Words.{gather, sent_word}
use Rattle.arg_strip.proofs.Gathered.{two_more}
use Rattle.arg_strip.proofs.sent.strip_to.Goals as goal

pub returns : goal.returns
returns c =
    two_more c.in_ok-sent.sent _ c.try_push.new.self c.try_push-2.new.self _ _ _ _
    (c.in_ok-sent.ensures ∙ ap
    (λ (words : List (List ℕ)). gather (λ at. sent_word (part_at words at) (word_at words at)) (length words)) c.as_slice.ensures)
    c.in_ok-from_slice.ensures c.requires.output
    c.in_ok-try_push.ensures.ok c.in_ok-try_push-2.ensures.ok
