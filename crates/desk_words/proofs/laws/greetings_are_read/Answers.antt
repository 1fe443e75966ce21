use Rattle.desk_words.proofs.Reading.{greetings}
use Rattle.desk_words.proofs.laws.greetings_are_read.Goals as goal

pub returns : goal.returns
returns c = greetings
