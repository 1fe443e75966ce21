use Rattle.std.proofs.Common.{refl, sym, [], arith}
use Rattle.std.proofs.lemmas.List.{append-nil}
use Rattle.std.proofs.lemmas.Result.{err_from_is_err_and}
use Rattle.edge_traits.proofs.DeedLemmas.{DidIn-nothing}
use Rattle.farm_machine.specs.Course.{Send}
use Rattle.job_run.proofs.Composing.{none-rose, on-then, on-ended, later-none}
use Rattle.job_run.proofs.Leaves.{no-act, same_peers, same_programs}
use Rattle.job_run.proofs.job.compile_source.Goals as goal

pub returns-in_default-clause-compiled : goal.returns-in_default-clause-compiled
returns-in_default-clause-compiled g c = λ note. record {
  to = Send c.args.source note [];
  went = no-act (DidIn-nothing _) (later-none _) (same_peers _) (same_programs _) (sym (append-nil _), refl) refl;
  ends = refl;
  cause = tt;
  station = none-rose _;
  keeper = record { faults = λ none. omega arith; overruns = refl };
  fetch = tt;
}

pub returns-clause-compiled : goal.returns-clause-compiled
returns-clause-compiled g c = λ note.
    let sent = c.in-Here.ensures.asked note in
    let here = c.in_ok-outcome-in-Here in
    let asked = c.ask_if_fits.ensures.follows in (
      here.outcome.object,
      on-then (g.met.G.Grants.limits_stay _ _ asked) (g.met.G.Grants.caller_stays _ _ asked) sent.2
          (here.ensures.compiled note sent.0 sent.1),
      (refl, here.ensures.idle),
    )

pub returns-in_err-outcome-in-Here-clause-compiled : goal.returns-in_err-outcome-in-Here-clause-compiled
returns-in_err-outcome-in-Here-clause-compiled g c = λ note.
    let sent = c.in-Here.ensures.asked note in
    let asked = c.ask_if_fits.ensures.follows in
    let last = on-ended (g.met.G.Grants.limits_stay _ _ asked) (g.met.G.Grants.caller_stays _ _ asked) sent.2
    (c.in_err-outcome-in-Here.ensures.compiled note sent.0 sent.1) in
    let passed = err_from_is_err_and c.from_residual.result c.from_residual.ensures.1 in
    rw (passed.1, passed.2) last
