use Rattle.compile_database.proofs.WordReading.{words_once, words_some}
use Rattle.compile_database.proofs.laws.one_reading.Goals as goal

pub returns : goal.returns
returns c = record { once = words_once; some = words_some }
