use Rattle.std.proofs.Common.{◌≡◌, take}
use Rattle.job_list.specs.Prints.{words_text}
use Rattle.job_list.proofs.printing.put_words.Given as goal

abbrev pub invariant-loop-at : goal.invariant-loop-at
invariant-loop-at l = l.line ≡ words_text (take l.at l.word-items)
