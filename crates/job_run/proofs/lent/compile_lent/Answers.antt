use Rattle.std.proofs.Common.{inl, refl, ap, [], ◌∷◌}
use Rattle.edge_traits.specs.Deeds.{ran}
use Rattle.farm_machine.specs.declared.reports.By.TheVariants.{Here}
use Rattle.farm_machine.specs.declared.reports.End.TheVariants.{Failed}
use Rattle.farm_machine.specs.Acts.{Gives, Did, Met}
use Rattle.farm_machine.specs.Course.{RanThere, Finish, Over}
use Rattle.edge_traits.specs.declared.entries.Run.{Run}
use Rattle.edge_traits.proofs.ToldLemmas.{Grew-refl}
use Rattle.arg_strip.specs.Words.{placed_words}
use Rattle.slot_table.specs.Grants.{host_of}
use Rattle.job_run.proofs.Composing.{keeps-none, keeps-by, unfetched, later-ran, went-on}
use Rattle.job_run.proofs.Failing.{over-not-run, not-run-cause, not-run-station, not-run-unfetched, over-lent}
use Rattle.job_run.proofs.Leaves.{noted-then, did-run, did-nothing, lent-ran, given-back, same_peers}
use Rattle.job_run.proofs.lent.compile_lent.Goals as goal

pub returns-in-Ok-clause-compiled : goal.returns-in-Ok-clause-compiled
returns-in-Ok-clause-compiled g c = λ note tried.
    let host = host_of c.args.grant in
    let run = c.in-Ok.ensures in
    let gave = c.give_back.ensures in
    let x : Run = record { words = placed_words c.args.task.now.words.now; input = c.args.source.now; ran = c.in-Ok.ran } in (
      c.outcome_of.result.object,
      went-on (lent-ran host (RanThere host note c.in-Ok.ran) x
          (did-run _ _ x run.runs refl refl (Grew-refl _)) (later-ran _ _ run.faults run.overruns refl refl) run.ran (same_peers _) run.same
          (noted-then (Did (ran x) ∷ []) (Met (Gives host) ∷ []) _ _ (c.ran.ensures.events, c.ran.ensures.places)
          (gave.noted, gave.places)) gave.called
          (c.requires.here, (refl, refl), refl) run.within (refl, inl (ap (λ o. Finish Here note o) c.outcome_of.ensures)) tt)
          run.done (keeps-none _ _),
      (refl, c.requires.idle),
    )

pub returns-in-Err-clause-compiled : goal.returns-in-Err-clause-compiled
returns-in-Err-clause-compiled g c = λ note tried.
    let run = c.in-Err.ensures in
    let gave = c.give_back-in-Err.ensures in
    let why = c.why_not_run.result in
    let is = c.why_not_run.ensures in
    record {
      to = Over (Failed why);
      went = given-back (host_of c.args.grant)
          (did-nothing _ _ run.runs (Grew-refl _) refl (Grew-refl _)) (later-ran _ _ run.faults run.overruns refl refl)
          (same_peers _) run.same
          (gave.noted, gave.places) gave.called
          (refl, over-lent _ _ c.requires.here (over-not-run c.in-Err.fault _ is)) tt;
      ends = refl;
      cause = not-run-cause _ c.in-Err.fault _ _ _ is run.cause;
      station = not-run-station _ c.in-Err.fault _ _ _ is run.cause;
      keeper = keeps-by (Failed why) _ _ _ (keeps-none _ _);
      fetch = unfetched _ why _ _ _ (not-run-unfetched c.in-Err.fault _ is);
    }
