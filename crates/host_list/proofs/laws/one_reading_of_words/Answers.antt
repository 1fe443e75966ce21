use Rattle.host_list.proofs.EveryWord.{every_word}
use Rattle.host_list.proofs.WordReading.{one_meaning, no_both, one_fault}
use Rattle.host_list.proofs.laws.one_reading_of_words.Goals as goal

pub returns-clause-some : goal.returns-clause-some
returns-clause-some c = every_word

pub returns-clause-meaning : goal.returns-clause-meaning
returns-clause-meaning c = one_meaning

pub returns-clause-apart : goal.returns-clause-apart
returns-clause-apart c = no_both

pub returns-clause-fault : goal.returns-clause-fault
returns-clause-fault c = one_fault
