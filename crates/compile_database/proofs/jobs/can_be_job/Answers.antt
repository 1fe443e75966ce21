use Rattle.std.proofs.Common.{refl, sym, ◌∙◌}
use Rattle.compile_database.proofs.EntryLemmas.{job_words, some_from_test, utf8_words}
use Rattle.compile_database.proofs.jobs.can_be_job.Goals as goal

pub returns-clause-yes : goal.returns-clause-yes
returns-clause-yes c = λ h. job_words c.args.words.now (some_from_test c.args.words.now c.if-is_empty.ensures)
    (c.if-not-are_printable.ensures.0 refl) (sym c.are_utf8.ensures ∙ h)

pub returns-clause-no : goal.returns-clause-no
returns-clause-no c = λ h. c.are_utf8.ensures ∙ utf8_words c.args.words.now h
