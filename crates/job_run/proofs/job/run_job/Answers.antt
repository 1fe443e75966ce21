use Rattle.std.proofs.Common.{ℕ, ◌∙◌, ◌++◌, refl, [], ap, subst}
use Rattle.farm_machine.specs.Course.{Start}
use Rattle.farm_machine.specs.Jobs.{job_of}
use Rattle.farm_machine.specs.Numbered.{untimed, numbered, advanced}
use Rattle.farm_machine.specs.Acts.{slots_of}
use Rattle.course_laws.specs.Returns.{finds_down}
use Rattle.course_laws.proofs.Compilers.{end-answer}
use Rattle.course_laws.proofs.Fallbacks.{own as never-by-host}
use Rattle.course_laws.proofs.Given.{given-untimed, ran-untimed}
use Rattle.course_laws.proofs.Unbroken.{own-end-law, unbroken-law}
use Rattle.job_run.specs.Went.{Spent}
use Rattle.job_run.proofs.Asking.{course-of, is-course}
use Rattle.job_run.proofs.Tabled.{job-course}
use Rattle.job_run.proofs.Lists.{slots-untimed}
use Rattle.job_run.proofs.Outstanding.{spare-last}
use Rattle.job_run.proofs.Returning.{none-down}
use Rattle.job_run.proofs.job.run_job.Goals as goal

pub returns-clause-ran : goal.returns-clause-ran
returns-clause-ran g c =
    let ended = c.run_class-end.ensures.ended in
    let went = ended.went in
    let j = job_of c.args.words.now c.args.config.now in
    let strict = course-of j (untimed went.acts) Start ended.to _ went.reach ended.ends in
    let course = is-course j (untimed went.acts) Start _ strict in
    record {
      acts = went.acts;
      calls = went.calls;
      did = went.did;
      named = c.from_vec.ensures ∙ went.named
          ∙ ap (λ es. es ++ numbered c.open-journal.result.places went.acts) c.open-journal.ensures.events
          ∙ ap (λ p. numbered p went.acts) c.open-journal.ensures.places;
      grown = went.grown ∙ ap (λ p. advanced p went.acts) c.open-journal.ensures.places;
      course = job-course j (untimed went.acts) _ strict;
      mine = went.mine;
      serves = went.serves [] (λ host. refl);
      moments = went.moments;
      leaves = went.leaves;
      cause = ended.cause;
      station = ended.station;
      keeper = ended.keeper;
      fetch = ended.fetch;
      later = went.later;
      may = went.may;
      ran = went.ran;
      returns = λ fallback calm. own-end-law _ _ _ ended.cause calm (never-by-host j (untimed went.acts) _ course fallback);
      returns_unbroken = λ none unbroken calm.
          own-end-law _ _ _ ended.cause calm
          ((unbroken-law j (untimed went.acts) _ course unbroken).own
          (ap finds_down (slots-untimed went.acts)
          ∙ none-down _ _ _ [] (slots_of went.acts) went.calls (went.serves [] (λ host. refl)) none));
      answered = λ known honest. end-answer _ _ j (untimed went.acts) _ honest (given-untimed _ went.acts (went.may known))
          (ran-untimed _ went.acts went.ran) course;
    }

pub returns-clause-returned : goal.returns-clause-returned
returns-clause-returned g c = let free = c.run_class-end.ensures.free in record {
  ready = free.ready;
  follows = c.run_class-end.ensures.follows;
  none = free.none;
  spare = spare-last _ _ _ _ (subst (λ (n : ℕ). Spent g.G.Grants.alone n
      (g.G.Grants.spare c.args.grants.now) c.run_class-end.new.journal.left
      (g.G.Grants.spare c.run_class-end.new.grants)) c.open-journal.ensures.left free.spent);
  pending = c.run_class-end.ensures.idle;
}
