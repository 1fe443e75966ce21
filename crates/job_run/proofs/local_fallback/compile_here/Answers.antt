use Rattle.std.proofs.Common.{inl, refl, ap, [], ◌∷◌}
use Rattle.edge_traits.specs.Deeds.{ran}
use Rattle.edge_traits.proofs.ToldLemmas.{Grew-refl}
use Rattle.farm_machine.specs.declared.reports.By.TheVariants.{Here}
use Rattle.farm_machine.specs.declared.reports.End.TheVariants.{Failed}
use Rattle.farm_machine.specs.Acts.{TakesLocal, GivesLocal, Did, Met}
use Rattle.farm_machine.specs.Course.{LentHere, RanHere, Finish, Over}
use Rattle.edge_traits.specs.declared.entries.Run.{Run}
use Rattle.arg_strip.specs.Words.{placed_words}
use Rattle.job_run.specs.Seen.{job_in}
use Rattle.job_run.proofs.Composing.{keeps-none, keeps-by, unfetched, later-ran, went-on}
use Rattle.job_run.proofs.Failing.{over-not-run, not-run-cause, not-run-station, not-run-unfetched, for-here, local-given, borrowed-given}
use Rattle.job_run.proofs.Leaves.{noted-then, did-run, did-nothing, local-ran, local-not-run, same_peers}
use Rattle.job_run.proofs.local_fallback.compile_here.Goals as goal

pub returns-in-Ok-clause-compiled : goal.returns-in-Ok-clause-compiled
returns-in-Ok-clause-compiled g c = λ note at stands.
    let slot = c.borrow_local-grant.ensures in
    let caller = g.met.G.Grants.caller_stays _ _ slot.waited.follows in
    let gave = c.give_back_local.ensures in
    let run = c.in-Ok.ensures in
    let source = c.args.source.now in
    let x : Run = record { words = placed_words c.args.task.now.words.now; input = source; ran = c.in-Ok.ran } in
    went-on (local-ran slot.mine.0 (LentHere source note) (RanHere note c.in-Ok.ran) x
    (did-run _ _ x run.runs refl refl slot.clock) (later-ran _ _ run.faults run.overruns refl refl) run.ran (same_peers _) run.same
    (noted-then (Met TakesLocal ∷ []) (Did (ran x) ∷ Met GivesLocal ∷ []) _ _ (c.note.ensures.events, c.note.ensures.places)
    (noted-then (Did (ran x) ∷ []) (Met GivesLocal ∷ []) _ _ (c.ran.ensures.events, c.ran.ensures.places)
    (gave.noted, gave.places))) (borrowed-given _ _ _ _ _ slot.mine.1 (local-given _ caller slot.job gave.called))
    (for-here (job_in c.args.task.now) source note at stands) ((refl, refl), refl) run.within
    (inl (ap (λ o. Finish Here note o) c.outcome_of.ensures)))
    run.done (keeps-none _ _)

pub returns-in-Err-clause-compiled : goal.returns-in-Err-clause-compiled
returns-in-Err-clause-compiled g c = λ note at stands.
    let slot = c.borrow_local-grant.ensures in
    let caller = g.met.G.Grants.caller_stays _ _ slot.waited.follows in
    let gave = c.give_back_local-in-Err.ensures in
    let run = c.in-Err.ensures in
    let why = c.why_not_run.result in
    let is = c.why_not_run.ensures in
    record {
      to = Over (Failed why);
      went = local-not-run slot.mine.0 (LentHere c.args.source.now note)
          (did-nothing _ _ run.runs (Grew-refl _) refl slot.clock) (later-ran _ _ run.faults run.overruns refl refl) (same_peers _) run.same
          (noted-then (Met TakesLocal ∷ []) (Met GivesLocal ∷ []) _ _ (c.note.ensures.events, c.note.ensures.places)
          (gave.noted, gave.places)) (borrowed-given _ _ _ _ _ slot.mine.1 (local-given _ caller slot.job gave.called))
          (for-here (job_in c.args.task.now) c.args.source.now note at stands) (over-not-run c.in-Err.fault _ is);
      ends = refl;
      cause = not-run-cause _ c.in-Err.fault _ _ _ is run.cause;
      station = not-run-station _ c.in-Err.fault _ _ _ is run.cause;
      keeper = keeps-by (Failed why) _ _ _ (keeps-none _ _);
      fetch = unfetched _ why _ _ _ (not-run-unfetched c.in-Err.fault _ is);
    }
