use Rattle.std.proofs.Common.{refl, ap, sym, ◌∙◌, Ok}
use Rattle.serde_json.specs.View.{view}
use Rattle.compile_database.proofs.EntryLemmas.{nil_from_test}
use Rattle.compile_database.proofs.jobs.job_at.Goals as goal

pub returns-then-is_empty-clause-fault : goal.returns-then-is_empty-clause-fault
returns-then-is_empty-clause-fault c = (
  refl,
  view c.in-Some.entry.now,
  sym c.in-Some.ensures,
  c.in-Ok.ensures.words
      ∙ ap Ok (nil_from_test c.in-Ok.words (sym c.if-is_empty.ensures)),
)

pub returns-else-can_be_job-clause-fault : goal.returns-else-can_be_job-clause-fault
returns-else-can_be_job-clause-fault c = (
  refl,
  view c.in-Some.entry.now,
  c.in-Ok.words,
  sym c.in-Some.ensures,
  c.in-Ok.ensures.words,
  λ h. let yes =
      c.can_be_job.ensures.no h in let no = c.if-can_be_job.false in cc,
)

pub returns-then-can_be_job-clause-words : goal.returns-then-can_be_job-clause-words
returns-then-can_be_job-clause-words c =
    record {
      entry = view c.in-Some.entry.now;
      there = sym c.in-Some.ensures;
      read_so = c.in-Ok.ensures.words;
      job = c.can_be_job.ensures.yes c.if-can_be_job.true;
    }
