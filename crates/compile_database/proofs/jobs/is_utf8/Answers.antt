use Rattle.compile_database.proofs.EntryLemmas.{utf8_test}
use Rattle.compile_database.proofs.jobs.is_utf8.Goals as goal

pub returns : goal.returns
returns c = utf8_test c.is_text.result c.args.word.now c.is_text.ensures
