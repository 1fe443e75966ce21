use Rattle.desk_words.proofs.Reading.{only-greetings}
use Rattle.desk_words.proofs.laws.only_greetings_are_read.Goals as goal

pub returns : goal.returns
returns c = only-greetings
