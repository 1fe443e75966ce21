use Rattle.std.proofs.Common.{ℕ, List, Err, refl, sym, ap, ◌∙◌, subst, arith}
use Rattle.edge_traits.specs.declared.entries.Put.{Put}
use Rattle.edge_traits.specs.Deeds.{put as PutDeed}
use Rattle.edge_traits.specs.FileMaps.{IsStaged}
use Rattle.std.proofs.lemmas.List.{append-nil}
use Rattle.edge_traits.proofs.ToldLemmas.{Grew-refl}
use Rattle.farm_machine.specs.Course.{Over}
use Rattle.job_run.specs.Seen.{job_in}
use Rattle.job_run.specs.Stages.{compiled_at}
use Rattle.job_run.proofs.Composing.{none-rose, keeps-none, keeps-by, unfetched, later-none, later-kept}
use Rattle.job_run.proofs.Ends.{ends-failed, ends-not-put, next-put}
use Rattle.job_run.proofs.Failing.{not-put, not-put-cause, not-put-keeper, not-put-station, not-put-unfetched, done-cause, done-station}
use Rattle.job_run.proofs.Failing.{done-unfetched}
use Rattle.job_run.proofs.Leaves.{only-deed, no-act, did-nothing, same_peers, same_programs}
use Rattle.job_run.proofs.Names.{output_not_staged}
use Rattle.job_run.proofs.ending.deliver.Goals as goal

pub put_object-requires-clause-output : goal.put_object-requires-clause-output
put_object-requires-clause-output g c =
    let task = c.args.task.now in subst (λ (name : List ℕ). ¬ (IsStaged name)) (sym task.named)
    (output_not_staged task.words.now task.remote)

pub returns-then-status-ne0-clause-ended : goal.returns-then-status-ne0-clause-ended
returns-then-status-ne0-clause-ended g c = λ h l caller number mine object held.
    record {
      to = compiled_at c.args.compiled c.args.note object;
      went = no-act (did-nothing _ _ (Grew-refl _) (Grew-refl _) refl (Grew-refl _)) (later-none _) (same_peers _) (same_programs _)
          (sym (append-nil _), refl) refl;
      ends = ends-failed (job_in c.args.task.now) c.args.compiled c.args.note object _
          (λ e. c.if-status-ne0.true (c.status.ensures ∙ e)) c.done.ensures;
      cause = done-cause _ _ c.done.ensures;
      station = done-station _ _ c.done.ensures (none-rose _);
      keeper = keeps-by _ _ _ _ (keeps-none _ _);
      fetch = done-unfetched _ _ _ _ c.done.ensures;
    }

pub returns-in-Ok-clause-ended : goal.returns-in-Ok-clause-ended
returns-in-Ok-clause-ended g c = λ h l caller number mine object held.
    let task = c.args.task.now in
    let kept = c.in-Ok.ensures in
    let put = kept.put object held in
    let end = c.done-in-Ok.ensures in
    let x : Put = record { path = task.output.now; bytes = object } in
    record {
      to = Over c.done-in-Ok.result;
      went = only-deed (PutDeed x)
          (record {
            runs = Grew-refl _;
            fetches = kept.fetches;
            exchanges = Grew-refl _;
            puts = put.puts;
            moments = Grew-refl _;
            files = put.files;
          })
          (later-kept _ _ refl kept.cause.later (omega (arith, kept.overruns)) (omega arith)) tt (same_peers _) (same_programs _)
          (c.put.ensures.events, c.put.ensures.places) refl
          (next-put (job_in task) c.args.compiled c.args.note x _ (sym c.status.ensures ∙ c.if-status-ne0.false) task.named end)
          tt;
      ends = refl;
      cause = done-cause _ _ end;
      station = done-station _ _ end (none-rose _);
      keeper = keeps-by _ _ _ _ (record { faults = λ none. kept.cause.done; overruns = kept.overruns });
      fetch = done-unfetched _ _ _ _ end;
    }

pub returns-in-Err-clause-ended : goal.returns-in-Err-clause-ended
returns-in-Err-clause-ended g c = λ h l caller number mine object held.
    let kept = c.in-Err.ensures in
    let put = kept.put object held in
    let fault = c.in-Err.fault in
    let why = c.why_not_put.result in
    let is = c.why_not_put.ensures in
    record {
      to = compiled_at c.args.compiled c.args.note object;
      went = no-act
          (record {
            runs = Grew-refl _;
            fetches = kept.fetches;
            exchanges = Grew-refl _;
            puts = put.puts;
            moments = Grew-refl _;
            files = put.files;
          })
          (later-kept _ _ refl kept.cause.later (omega (arith, kept.overruns)) (omega arith)) (same_peers _) (same_programs _)
          (sym (append-nil _), refl) refl;
      ends = ends-not-put (job_in c.args.task.now) c.args.compiled c.args.note object _
          (sym c.status.ensures ∙ c.if-status-ne0.false) (not-put fault _ is);
      cause = not-put-cause fault _ _ _ is (λ e. kept.cause.failed (ap (λ f. Err f) e));
      station = not-put-station fault _ (g.S.Station.shows c.args.kit.now.station) _ is (none-rose _);
      keeper = not-put-keeper fault _ _ _ _ is (λ e. kept.cause.memory (ap (λ f. Err f) e)) kept.overruns;
      fetch = unfetched _ why _ _ _ (not-put-unfetched fault _ is);
    }
