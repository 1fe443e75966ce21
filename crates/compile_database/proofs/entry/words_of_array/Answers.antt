use Rattle.std.proofs.Common.{arith}
use Rattle.std.proofs.lemmas.Grind.{common_steps}
use Rattle.compile_database.proofs.ItemLists.{listed-items_of}
use Rattle.compile_database.proofs.entry.words_of_array.Goals as goal

pub returns-in-Some-2-clause-words : goal.returns-in-Some-2-clause-words
returns-in-Some-2-clause-words c = grind (arith, common_steps, listed-items_of)

pub returns-in-None-2-clause-unread : goal.returns-in-None-2-clause-unread
returns-in-None-2-clause-unread c = grind (arith, common_steps, listed-items_of)
