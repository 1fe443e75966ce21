use Rattle.std.proofs.Common.{refl, sym, ap, [], arith}
use Rattle.std.proofs.lemmas.List.{append-nil}
use Rattle.edge_traits.specs.declared.entries.Fetch.{Fetch}
use Rattle.edge_traits.specs.Deeds.{fetched}
use Rattle.edge_traits.proofs.ToldLemmas.{Grew-refl}
use Rattle.farm_machine.specs.declared.reports.End.TheVariants.{Failed}
use Rattle.farm_machine.specs.Course.{Start, Send}
use Rattle.job_run.proofs.Composing.{none-rose, later-kept}
use Rattle.job_run.proofs.Ends.{ends-unfetched}
use Rattle.job_run.proofs.Failing.{not-fetched, not-fetched-cause, not-fetched-keeper, not-fetched-station, fetch-ends}
use Rattle.job_run.proofs.Leaves.{only-deed, no-act, same_peers, same_programs}
use Rattle.job_run.proofs.preparing.fetch_source.Goals as goal

pub returns-in-Ok-clause-prepared : goal.returns-in-Ok-clause-prepared
returns-in-Ok-clause-prepared g c = λ h l caller number mine j sent ready named.
    let got = c.in-Ok.ensures in
    let x : Fetch = record { path = c.args.name.now; bytes = c.in-Ok.source } in
    record {
      went = only-deed (fetched x)
          (record {
            runs = Grew-refl _;
            fetches = got.fetches;
            exchanges = Grew-refl _;
            puts = got.puts;
            moments = Grew-refl _;
            files = got.files;
          })
          (later-kept _ _ refl got.counts.faults got.counts.overruns (omega arith)) tt (same_peers _) (same_programs _)
          (c.fetched.ensures.events, c.fetched.ensures.places) refl
          (sent, ready, sym named, ap (λ note. Send c.in-Ok.source note []) c.new.ensures) got.whole.within;
      station = none-rose _;
      keeper = record { faults = λ none. got.done.faults; overruns = got.done.overruns };
    }

pub returns-in-Err-clause-prepared : goal.returns-in-Err-clause-prepared
returns-in-Err-clause-prepared g c = λ h l caller number mine j sent ready named.
    let got = c.in-Err.ensures in
    record {
      to = Start;
      went = no-act
          (record {
            runs = Grew-refl _;
            fetches = got.fetches;
            exchanges = Grew-refl _;
            puts = got.puts;
            moments = Grew-refl _;
            files = got.files;
          })
          (later-kept _ _ refl got.counts.faults got.counts.overruns (omega arith)) (same_peers _) (same_programs _)
          (sym (append-nil _), refl) refl;
      ends = ends-unfetched j _ sent ready (not-fetched c.in-Err.fault _ c.why_not_fetched.ensures);
      cause = not-fetched-cause _ _ c.in-Err.fault _ _ _ c.why_not_fetched.ensures got.cause;
      station = not-fetched-station c.in-Err.fault _ (g.S.Station.shows c.args.kit.now.station) _ c.why_not_fetched.ensures (none-rose _);
      keeper = not-fetched-keeper _ _ c.in-Err.fault _ _ _ _ c.why_not_fetched.ensures got.cause;
      fetch = fetch-ends _ _ c.in-Err.fault _ _ _ _ named c.why_not_fetched.ensures got.cause;
    }

pub returns-in-Err-clause-fetched : goal.returns-in-Err-clause-fetched
returns-in-Err-clause-fetched g c = (c.in-Err.fault, c.in-Err.ensures.cause, ap (λ why. Failed why) c.why_not_fetched.ensures)
