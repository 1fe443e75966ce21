use Rattle.std.proofs.Common.{refl, sym, []}
use Rattle.std.proofs.lemmas.List.{append-nil}
use Rattle.edge_traits.specs.declared.entries.Run.{Run}
use Rattle.edge_traits.specs.Deeds.{ran}
use Rattle.edge_traits.proofs.ToldLemmas.{Grew-refl}
use Rattle.arg_strip.specs.Words.{preprocessing_words}
use Rattle.child_runner.specs.Runs.{texts}
use Rattle.farm_machine.specs.declared.reports.End.TheVariants.{Failed}
use Rattle.farm_machine.specs.Course.{Start, Over}
use Rattle.farm_machine.specs.Jobs.{job_of}
use Rattle.job_run.proofs.Composing.{keeps-none, keeps-by, unfetched, later-ran}
use Rattle.job_run.proofs.Ends.{preprocessor-failed, preprocessor-well, ends-unpreprocessed}
use Rattle.job_run.proofs.Failing.{not-run, not-run-cause, not-run-station, not-run-unfetched, done-cause, done-station, done-unfetched}
use Rattle.job_run.proofs.Leaves.{only-deed, no-act, did-run, did-nothing, same_peers}
use Rattle.job_run.proofs.Names.{class_unready}
use Rattle.job_run.proofs.preparing.preprocess_source.Goals as goal

pub preprocess-requires-clause-source : goal.preprocess-requires-clause-source
preprocess-requires-clause-source g c = class_unready c.args.words.now c.requires.remote c.requires.source

pub returns-then-ran-ne0-clause-prepared : goal.returns-then-ran-ne0-clause-prepared
returns-then-ran-ne0-clause-prepared g c = λ h l caller number mine config.
    let run = c.in-Ok.ensures in
    let x : Run = record { words = texts (preprocessing_words c.args.words.now); input = []; ran = c.in-Ok.ran } in
    record {
      to = Over c.done_by_preprocessor.result;
      went = only-deed (ran x)
          (did-run _ _ x run.runs refl refl (Grew-refl _)) (later-ran _ _ run.faults run.overruns refl refl) run.ran (same_peers _) run.same
          (c.ran.ensures.events, c.ran.ensures.places) refl (
            c.requires.remote,
            c.requires.source,
            (refl, refl),
            preprocessor-failed c.in-Ok.ran _ c.done_by_preprocessor.ensures
                c.if-ran-ne0.true,
          ) run.within;
      ends = refl;
      cause = done-cause _ _ c.done_by_preprocessor.ensures;
      station = done-station _ _ c.done_by_preprocessor.ensures run.done;
      keeper = keeps-by _ _ _ _ (keeps-none _ _);
      fetch = done-unfetched _ _ _ _ c.done_by_preprocessor.ensures;
    }

pub returns-else-ran-ne0-clause-prepared : goal.returns-else-ran-ne0-clause-prepared
returns-else-ran-ne0-clause-prepared g c = λ h l caller number mine config.
    let run = c.in-Ok.ensures in
    let x : Run = record { words = texts (preprocessing_words c.args.words.now); input = []; ran = c.in-Ok.ran } in
    record {
      went = only-deed (ran x)
          (did-run _ _ x run.runs refl refl (Grew-refl _)) (later-ran _ _ run.faults run.overruns refl refl) run.ran (same_peers _) run.same
          (c.ran.ensures.events, c.ran.ensures.places) refl
          (c.requires.remote, c.requires.source, (refl, refl), preprocessor-well c.in-Ok.ran c.if-ran-ne0.false) run.within;
      station = run.done;
      keeper = keeps-none _ _;
    }

pub returns-in-Err-clause-prepared : goal.returns-in-Err-clause-prepared
returns-in-Err-clause-prepared g c = λ h l caller number mine config.
    let run = c.in-Err.ensures in
    record {
      to = Start;
      went = no-act
          (did-nothing _ _ run.runs (Grew-refl _) refl (Grew-refl _)) (later-ran _ _ run.faults run.overruns refl refl)
          (same_peers _) run.same
          (sym (append-nil _), refl) refl;
      ends = ends-unpreprocessed (job_of c.args.words.now config) _ c.requires.remote c.requires.source
          (not-run c.in-Err.fault _ c.why_not_run.ensures);
      cause = not-run-cause _ c.in-Err.fault _ _ _ c.why_not_run.ensures run.cause;
      station = not-run-station _ c.in-Err.fault _ _ _ c.why_not_run.ensures run.cause;
      keeper = keeps-by (Failed c.why_not_run.result) _ _ _ (keeps-none _ _);
      fetch = unfetched _ c.why_not_run.result _ _ _ (not-run-unfetched c.in-Err.fault _ c.why_not_run.ensures);
    }
