use Rattle.std.proofs.Common.{◌<◌, ℕ, inl, inr, refl, subst}
use Rattle.farm_types.specs.Fits.{RequestFits}
use Rattle.slot_table.specs.declared.calls.SlotReply.TheVariants.{Got, Down}
use Rattle.slot_table.specs.Grants.{host_of}
use Rattle.farm_machine.specs.Acts.{Takes, FindsDown}
use Rattle.job_run.specs.declared.step.Asked.TheVariants.{Over}
use Rattle.job_run.proofs.Asking.{asked-then, fresh-entry}
use Rattle.job_run.proofs.Failing.{took-as}
use Rattle.job_run.proofs.Leaves.{same_peers, same_programs}
use Rattle.job_run.proofs.Looking.{went-asked}
use Rattle.job_run.proofs.sending.ask_one.Goals as goal

pub returns-in_default-clause-asked : goal.returns-in_default-clause-asked
returns-in_default-clause-asked g c = λ note tried untried.
    let slot = c.in_default.ensures in
    let fits = subst (λ words. RequestFits words c.args.sending.now.request.now.source) c.args.sending.now.sent.words c.args.sending.now.sent.fits in
    went-asked slot.mine.0 slot.mine.1 Down FindsDown
    (inl refl) refl refl refl refl slot.mine.3 (same_peers _) (same_programs _)
    (c.note.ensures.events, c.note.ensures.places) slot.mine.2 untried
    (fits, refl)

pub returns-then-host-clause-asked : goal.returns-then-host-clause-asked
returns-then-host-clause-asked g c = λ note tried untried.
    let slot = c.in-Some.ensures in
    let source = c.args.sending.now.request.now.source in
    let host = host_of c.in-Some.grant in
    let fits = subst (λ words. RequestFits words source) c.args.sending.now.sent.words c.args.sending.now.sent.fits in
    let below = subst (λ (n : ℕ). host < n) c.requires.hosts.count slot.entry.entry in
    let fresh = fresh-entry _ _ _ slot.entry.masked (untried host) in
    asked-then _ source note tried (Over c.compile_lent-step.result) (g.met.G.Grants.limits_stay _ _ slot.waited.follows)
    (g.met.G.Grants.caller_stays _ _ slot.waited.follows) slot.entry.job
    (went-asked slot.mine.0 slot.mine.1 (Got host) (Takes host)
    (inr (host, refl)) refl refl refl refl slot.mine.3 (same_peers _) (same_programs _)
    (took-as _ _ _ _ c.host-at.ensures c.note-2.ensures.events, c.note-2.ensures.places) slot.mine.2 untried
    (fits, below, fresh, refl))
    (c.compile_lent-step.ensures.compiled note tried)

pub returns-clause-asked : goal.returns-clause-asked
returns-clause-asked g c = λ note tried untried.
    let slot = c.in-Some.ensures in
    let source = c.args.sending.now.request.now.source in
    let host = host_of c.in-Some.grant in
    let fits = subst (λ words. RequestFits words source) c.args.sending.now.sent.words c.args.sending.now.sent.fits in
    let below = subst (λ (n : ℕ). host < n) c.requires.hosts.count slot.entry.entry in
    let fresh = fresh-entry _ _ _ slot.entry.masked (untried host) in
    asked-then _ source note tried c.exchange.result (g.met.G.Grants.limits_stay _ _ slot.waited.follows)
    (g.met.G.Grants.caller_stays _ _ slot.waited.follows) slot.entry.job
    (went-asked slot.mine.0 slot.mine.1 (Got host) (Takes host)
    (inr (host, refl)) refl refl refl refl slot.mine.3 (same_peers _) (same_programs _)
    (took-as _ _ _ _ c.host-at.ensures c.note-2.ensures.events, c.note-2.ensures.places) slot.mine.2 untried
    (fits, below, fresh, refl))
    (c.exchange.ensures.asked note tried)
