use Rattle.std.proofs.Common.{◌++◌, ap, ◌∙◌, arith}
use Rattle.job_list.specs.Prints.{word_text}
use Rattle.job_list.proofs.PrintedLines.{words_first, words_later}
use Rattle.job_list.proofs.printing.put_words.Goals as goal
use Rattle.job_list.proofs.printing.put_words.Goals.{then-at-gt0+in_ok-try_push, else-at-gt0}

pub loop-at-preserved : goal.loop-at-preserved
loop-at-preserved c = elim c.if-at-gt0.branch [
  | then-at-gt0+in_ok-try_push w ↦
      words_later c.as_slice-word-items.result.now c.loop-at.at c.loop-at.line c.if-at-gt0.line c.put_word.new.line
      c.as_slice.result.now c.word-item.result c.loop-at-test.true w.if-at-gt0.true c.loop-at.invariant
      (w.line-is ∙ w.in_ok-try_push.ensures.ok) c.word-item.is c.as_slice.ensures c.in_ok-put_word.ensures
  | else-at-gt0 w ↦ words_first c.as_slice-word-items.result.now c.loop-at.at c.loop-at.line c.put_word.new.line
      c.as_slice.result.now c.word-item.result c.loop-at-test.true (omega arith) c.loop-at.invariant c.word-item.is
      c.as_slice.ensures (c.in_ok-put_word.ensures ∙ ap (λ t. t ++ word_text c.as_slice.result.now) w.line-is)
]
