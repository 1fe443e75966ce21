use Rattle.std.proofs.Common.{◌<◌, ◌≤◌, ℕ, refl, sym, ap, ◌∙◌, subst, [], arith}
use Rattle.edge_traits.proofs.DeedLemmas.{DidIn-nothing}
use Rattle.std.proofs.lemmas.List.{append-nil}
use Rattle.edge_traits.specs.Kits.{kit_view}
use Rattle.farm_machine.specs.declared.reports.Why5.TheVariants.{Broke}
use Rattle.farm_machine.specs.declared.reports.End.TheVariants.{Failed}
use Rattle.farm_machine.specs.Course.{no_host, tried_too}
use Rattle.farm_machine.specs.Jobs.{AreLimitsOf}
use Rattle.job_run.specs.Events.{try_events, tries_events}
use Rattle.job_run.specs.Seen.{job_in}
use Rattle.job_run.specs.Stages.{HasUntried}
use Rattle.job_run.proofs.Asking.{asks-next, stage-next, stage-last, stage-broken, tried-more, step-then, arrive, here-as}
use Rattle.job_run.proofs.Asking.{no-host-left, untried-all, untried-more}
use Rattle.job_run.proofs.Composing.{none-rose, on-then, cause-later, cause-before, keeps-none, later-none}
use Rattle.job_run.proofs.Free.{free-then, stays-none, stays-then}
use Rattle.job_run.proofs.Keeping.{idle-step}
use Rattle.job_run.proofs.Leaves.{no-act, same_peers, same_programs}
use Rattle.job_run.proofs.sending.ask_hosts.Goals as goal

pub ask_one-requires-clause-hosts : goal.ask_one-requires-clause-hosts
ask_one-requires-clause-hosts g c =
    subst (λ l. AreLimitsOf l c.args.sending.now.task.now.config.now.hosts)
    (sym (g.met.G.Grants.limits_stay _ _ c.loop-made.invariant.follows)) c.requires.hosts

pub ask_one-requires-clause-free : goal.ask_one-requires-clause-free
ask_one-requires-clause-free g c =
    let below = c.loop-made-test.true in
    let tries = c.args.sending.now.task.now.tries in
    free-then try_events c.requires.free c.loop-made.invariant.free (omega (arith, below, tries))

pub returns-in-Down-clause-free : goal.returns-in-Down-clause-free
returns-in-Down-clause-free g c =
    let below = c.loop-made-test.true in
    let tries = c.args.sending.now.task.now.tries in
    stays-then tries_events c.loop-made.invariant.free c.in-Down.ensures.free (omega (arith, below, tries))

pub returns-in-Over-clause-free : goal.returns-in-Over-clause-free
returns-in-Over-clause-free g c =
    let below = c.loop-made-test.true in
    let tries = c.args.sending.now.task.now.tries in
    stays-then tries_events c.loop-made.invariant.free c.in-Over.ensures.free (omega (arith, below, tries))

pub without-mask-requires : goal.without-mask-requires
without-mask-requires g c =
    let inv = c.loop-made.invariant in
    let limits = g.met.G.Grants.limits_stay _ _ inv.follows in
    let below = (c.in-Broke.ensures.asked [] inv.tried (subst (λ l. HasUntried l c.loop-made.mask inv.tried) (sym limits) inv.untried)).0 in
    let count = ap (λ l. l.count) limits ∙ c.requires.hosts.count in
    omega (arith, below, count, c.args.sending.now.task.now.entries)

pub returns-in-Down-clause-follows : goal.returns-in-Down-clause-follows
returns-in-Down-clause-follows g c = g.met.G.Grants.follows_on _ _ _ c.loop-made.invariant.follows c.in-Down.ensures.follows

pub returns-in-Over-clause-follows : goal.returns-in-Over-clause-follows
returns-in-Over-clause-follows g c = g.met.G.Grants.follows_on _ _ _ c.loop-made.invariant.follows c.in-Over.ensures.follows

pub returns-in-Down-clause-asked : goal.returns-in-Down-clause-asked
returns-in-Down-clause-asked g c = λ note.
    let inv = c.loop-made.invariant in
    let limits = g.met.G.Grants.limits_stay _ _ inv.follows in
    let caller = g.met.G.Grants.caller_stays _ _ inv.follows in
    let below = subst (λ (n : ℕ). n < c.args.sending.now.task.now.config.now.tries) (sym inv.made) c.loop-made-test.true in
    let down = c.in-Down.ensures.asked note inv.tried (subst (λ l. HasUntried l c.loop-made.mask inv.tried) (sym limits) inv.untried) in
    here-as c.args.sending.now.request.now.source note _ c.loop-made.last (no_host inv.tried) c.here_or.ensures inv.last
    (on-then limits caller (asks-next inv.tried below (inv.went note)) down)
    (cause-later _ _ _ (Failed c.loop-made.last) inv.cause down.went.later)
    (no-host-left inv.tried)

pub returns-in-Over-clause-asked : goal.returns-in-Over-clause-asked
returns-in-Over-clause-asked g c = λ note.
    let inv = c.loop-made.invariant in
    let limits = g.met.G.Grants.limits_stay _ _ inv.follows in
    let caller = g.met.G.Grants.caller_stays _ _ inv.follows in
    let below = subst (λ (n : ℕ). n < c.args.sending.now.task.now.config.now.tries) (sym inv.made) c.loop-made-test.true in
    step-then _ c.args.sending.now.request.now.source note c.in-Over.step limits caller
    (asks-next inv.tried below (inv.went note))
    (c.in-Over.ensures.asked note inv.tried (subst (λ l. HasUntried l c.loop-made.mask inv.tried) (sym limits) inv.untried))

pub returns-clause-asked : goal.returns-clause-asked
returns-clause-asked g c = λ note.
    let inv = c.loop-made.invariant in
    let above = subst (λ (n : ℕ). c.args.sending.now.task.now.config.now.tries ≤ n) (sym inv.made) c.loop-made-test.false in
    here-as c.args.sending.now.request.now.source note _ c.loop-made.last (no_host inv.tried) c.here_or-2.ensures inv.last
    (arrive
    (stage-last (job_in c.args.sending.now.task.now) c.args.sending.now.request.now.source note inv.tried above) (inv.went note))
    inv.cause
    (no-host-left inv.tried)

pub loop-made-init : goal.loop-made-init
loop-made-init g c =
    let task = c.args.sending.now.task.now in
    record {
      free = stays-none c.requires.free;
      follows = g.met.G.Grants.follows_itself _;
      idle = c.requires.idle;
      tried = [];
      made = refl;
      untried = λ i. untried-all _ i _ _ (c.all-mask.ensures i) (c.len.ensures ∙ sym c.requires.hosts.count);
      last = refl;
      cause = tt;
      went = λ note. arrive (sym (stage-next (job_in task) c.args.sending.now.request.now.source note [] task.some)) (record {
        went = no-act (DidIn-nothing _) (later-none _) (same_peers _) (same_programs _) (sym (append-nil _), refl) refl;
        station = none-rose _;
        keeper = keeps-none _ _;
      });
    }

pub loop-made-preserved : goal.loop-made-preserved
loop-made-preserved g c =
    let inv = c.loop-made.invariant in
    let e = c.in-Broke.ensures in
    let host = c.in-Broke.host in
    let cause = c.in-Broke.cause in
    let limits = g.met.G.Grants.limits_stay _ _ inv.follows in
    let caller = g.met.G.Grants.caller_stays _ _ inv.follows in
    let below = subst (λ (n : ℕ). n < c.args.sending.now.task.now.config.now.tries) (sym inv.made) c.loop-made-test.true in
    let untried = subst (λ l. HasUntried l c.loop-made.mask inv.tried) (sym limits) inv.untried in
    let broke = e.asked [] inv.tried untried in
    record {
      free = stays-then _ inv.free e.free (omega arith);
      follows = g.met.G.Grants.follows_on _ _ _ inv.follows e.follows;
      idle = e.idle;
      tried = tried_too host cause inv.tried;
      made = tried-more host cause inv.tried _ inv.made;
      untried = λ i. untried-more _ _ _ _ i host (inv.untried i) (c.without-mask.ensures i);
      last = refl;
      cause = cause-before _ _ (kit_view g.D.Dialer.shows g.S.Station.shows g.K.Keeper.shows g.C.Clock.shows c.ask_one.new.kit)
          (Failed (Broke host cause)) (inv.went []).went.later broke.2;
      went = λ note. arrive (stage-broken (job_in c.args.sending.now.task.now) host cause c.args.sending.now.request.now.source note inv.tried)
          (on-then limits caller (asks-next inv.tried below (inv.went note)) (e.asked note inv.tried untried).1);
    }

pub returns-in-Down-clause-idle : goal.returns-in-Down-clause-idle
returns-in-Down-clause-idle g c = idle-step c.here_or.result _ c.in-Down.ensures.idle

pub returns-clause-idle : goal.returns-clause-idle
returns-clause-idle g c = idle-step c.here_or-2.result _ c.loop-made.invariant.idle
