use Rattle.std.proofs.Common.{◌≡◌, ◌+◌, [], ◌∷◌, ◌++◌, take, sym, ap, ◌∙◌, arith}
use Rattle.std.proofs.lemmas.List.{get_or_read, take_more}
use Rattle.word_tests.proofs.Joined.{joined_first, joined_next}
use Rattle.word_tests.proofs.lines.line_of.Goals as goal
use Rattle.word_tests.proofs.lines.line_of.Goals.{then-at-gt0+in_ok-try_push, else-at-gt0}

pub loop-at-preserved : goal.loop-at-preserved
loop-at-preserved c =
    let words = c.args.words.now in
    let at = c.loop-at.at in
    let word = c.index-words-at.result in
    let there = c.loop-at-test.true in
    let more : take (at + 1) words ≡ take at words ++ word ∷ [] =
    take_more words at [] there ∙ ap (λ w. take at words ++ w ∷ []) (sym (get_or_read words at word there c.index-words-at.is [])) in
    c.in_ok-try_extend.ensures.ok ∙ ap (λ text. c.if-at-gt0.line ++ text) c.as_slice.ensures ∙ elim c.if-at-gt0.branch [
      | then-at-gt0+in_ok-try_push w ↦
          ap (λ line. line ++ word) (w.line-is ∙ w.in_ok-try_push.ensures.ok ∙ ap (λ line. line ++ 32 ∷ []) c.loop-at.invariant)
          ∙ joined_next 32 words at word there more w.if-at-gt0.true
      | else-at-gt0 w ↦
          ap (λ line. line ++ word) (w.line-is ∙ c.loop-at.invariant)
          ∙ joined_first 32 words at word there more (omega (arith, w.if-at-gt0.false))
    ]
