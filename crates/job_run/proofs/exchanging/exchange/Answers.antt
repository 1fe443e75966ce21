use Rattle.std.proofs.Common.{inl, inr, ℕ, List, refl, sym, ap, ◌∙◌, subst, [], ◌∷◌}
use Rattle.reply_stream.specs.Objects.{with_object}
use Rattle.edge_traits.specs.Deeds.{exchanged, timed}
use Rattle.edge_traits.specs.FileMaps.{IsStaged}
use Rattle.edge_traits.specs.Keepers.{KeeperView}
use Rattle.edge_traits.proofs.ToldLemmas.{Grew-refl}
use Rattle.slot_table.specs.Backoff.{bad_until}
use Rattle.slot_table.specs.Grants.{host_of}
use Rattle.farm_machine.specs.Acts.{Gives, GivesBad, Did, Met}
use Rattle.farm_machine.specs.Course.{Sent, after_whole}
use Rattle.job_run.specs.Gives.{IsUnhurt}
use Rattle.job_run.specs.Seen.{job_in}
use Rattle.job_run.specs.Stages.{step_after}
use Rattle.job_run.proofs.Composing.{none-rose, went-on, later-exchanged}
use Rattle.job_run.proofs.Failing.{broken-cause, begun-as, whole-as, broken-as, undialed, unasked, dialed_once}
use Rattle.job_run.proofs.Leaves.{noted-then, did-no-exchange, did-exchange, did-exchange-look, exchanged-given, exchanged-alone}
use Rattle.job_run.proofs.Leaves.{given-back, same_programs}
use Rattle.job_run.proofs.Asking.{whole-step, wanted-step, broke-as}
use Rattle.job_run.proofs.Strictness.{strict-unhurt, strict-broken}
use Rattle.job_run.proofs.Keeping.{whole-idle}
use Rattle.job_run.proofs.Names.{output_not_staged}
use Rattle.job_run.proofs.exchanging.exchange.Goals as goal

pub attempt_into-requires-clause-name : goal.attempt_into-requires-clause-name
attempt_into-requires-clause-name g c =
    let task = c.args.sending.now.task.now in subst (λ (name : List ℕ). ¬ (IsStaged name)) (sym task.named)
    (output_not_staged task.words.now task.remote)

pub returns-in-Whole-clause-asked : goal.returns-in-Whole-clause-asked
returns-in-Whole-clause-asked g c = λ note tried.
    let task = c.args.sending.now.task.now in
    let j = job_in task in
    let host = host_of c.args.grant in
    let source = c.args.sending.now.request.now.source in
    let attempt = c.in-Whole.ensures in
    let gave = c.give_back.ensures in
    let x = attempt.adds.adds.entry in
    let is = attempt.adds.adds.is in
    let same_request = ap (λ words. record { words = words; source = source }) (sym c.args.sending.now.sent.words) in
    let same_host = c.requires.elsewhere.entry in
    let unhurt : IsUnhurt x = record { dialed = is.0.dialed; faults = is.1.faults refl; stopped = is.1.stopped; ended = is.1.ended } in
    let o = with_object c.in-Whole.outcome attempt.adds.object in
    whole-step j host source note c.in-Whole.outcome c.in-Whole.landing task.output.now attempt.adds.object _
    (c.after_whole.ensures ∙ ap (λ k. step_after task.config.now k c.in-Whole.outcome c.in-Whole.landing) c.host-at.ensures)
    (sym task.named) attempt.adds.lands.1
    (exchanged-given host (Sent host source note tried x) x
    (did-exchange _ _ x attempt.adds.adds.grew refl attempt.stays (Grew-refl _))
    (later-exchanged _ _ refl attempt.stays attempt.later) attempt.adds.adds.may attempt.may_give (same_programs _)
    (noted-then (Did (exchanged x) ∷ []) (Met (Gives host) ∷ []) _ _ (c.exchanged.ensures.events, c.exchanged.ensures.places)
    (gave.noted, gave.places)) gave.called
    (ap (λ h. h.local) same_host ∙ c.requires.elsewhere.remote, begun-as j _ _ _ _ x same_request same_host is.0.begun, refl)
    (refl, inl (o, whole-as j _ _ _ _ x _ same_request same_host is.0, refl))
    (strict-unhurt host host source note tried x (after_whole j host source note o) unhurt) (inr unhurt)
    (none-rose _) attempt.stays.overruns)

pub returns-in-Broke-clause-asked : goal.returns-in-Broke-clause-asked
returns-in-Broke-clause-asked g c = λ note tried.
    let task = c.args.sending.now.task.now in
    let j = job_in task in
    let host = host_of c.args.grant in
    let source = c.args.sending.now.request.now.source in
    let attempt = c.in-Broke.ensures in
    let x = attempt.adds.adds.entry in
    let is = attempt.adds.adds.is in
    let same_request = ap (λ words. record { words = words; source = source }) (sym c.args.sending.now.sent.words) in
    let same_host = c.requires.elsewhere.entry in
    let remote = ap (λ h. h.local) same_host ∙ c.requires.elsewhere.remote in
    let begun = begun-as j source host _ _ x same_request same_host is.0.begun in
    let broken = broken-as j source host _ _ x c.in-Broke.cause same_request same_host is.0 in
    broke-as c.in-Broke.cause source note tried c.host-at.ensures c.requires.elsewhere.below (
    elim c.give_broken.ensures.gave [
      | inl plain ↦ exchanged-given host (Sent host source note tried x) x
          (did-exchange _ _ x attempt.adds.adds.grew refl attempt.stays plain.looked)
          (later-exchanged _ _ refl attempt.stays attempt.later) attempt.adds.adds.may attempt.may_give (same_programs _)
          (noted-then (Did (exchanged x) ∷ []) (Met (Gives host) ∷ []) _ _
          (c.exchanged-in-Broke.ensures.events, c.exchanged-in-Broke.ensures.places) (plain.noted, c.give_broken.ensures.places))
          plain.called (remote, begun, refl) (refl, inr (inl (c.in-Broke.cause, broken, plain.none, refl)))
          (strict-broken j host host c.in-Broke.cause source note tried x) (inl plain.none) (none-rose _) attempt.stays.overruns
      | inr alone ↦ exchanged-alone host alone.moment (Sent host source note tried x) x alone.within
          (did-exchange-look _ _ x alone.moment attempt.adds.adds.grew refl attempt.stays alone.looked)
          (later-exchanged _ _ refl attempt.stays attempt.later) attempt.adds.adds.may attempt.may_give (same_programs _)
          (noted-then (Did (exchanged x) ∷ [])
          (Did (timed alone.moment) ∷ Met (GivesBad host (bad_until alone.moment j.config.period)) ∷ []) _ _
          (c.exchanged-in-Broke.ensures.events, c.exchanged-in-Broke.ensures.places) (alone.noted, c.give_broken.ensures.places))
          alone.called (remote, begun, refl)
          (refl, remote, (c.in-Broke.cause, broken, alone.some, (alone.moment, alone.within, refl), refl))
          (none-rose _) attempt.stays.overruns
    ])
    (broken-cause host c.in-Broke.cause _ _ attempt.cause)

pub returns-in-Memory-true-clause-asked : goal.returns-in-Memory-true-clause-asked
returns-in-Memory-true-clause-asked g c = λ note tried.
    let j = job_in c.args.sending.now.task.now in
    let host = host_of c.args.grant in
    let source = c.args.sending.now.request.now.source in
    let attempt = c.in-Memory-true.ensures in
    let gave = c.give_back-in-Memory-true.ensures in
    let adds = dialed_once _ _ _ _ _ c.in-Memory-true.dialed c.in-Memory-true.dialed-test attempt.adds.adds in
    let x = adds.entry in
    let same_request = ap (λ words. record { words = words; source = source }) (sym c.args.sending.now.sent.words) in
    let same_host = c.requires.elsewhere.entry in
    wanted-step
    (exchanged-given host (Sent host source note tried x) x
    (did-exchange _ _ x adds.grew refl attempt.stays (Grew-refl _))
    (later-exchanged _ _ refl attempt.stays attempt.later) adds.may attempt.may_give (same_programs _)
    (noted-then (Did (exchanged x) ∷ []) (Met (Gives host) ∷ []) _ _
    (c.exchanged-in-Memory-true.ensures.events, c.exchanged-in-Memory-true.ensures.places)
    (gave.noted, gave.places)) gave.called
    (ap (λ h. h.local) same_host ∙ c.requires.elsewhere.remote, begun-as j _ _ _ _ x same_request same_host adds.is.0, refl)
    (refl, inr (inr refl)) adds.is.1 (inr adds.is.1) (none-rose _) attempt.stays.overruns)

pub returns-in-Memory-false-clause-asked : goal.returns-in-Memory-false-clause-asked
returns-in-Memory-false-clause-asked g c = λ note tried.
    let attempt = c.in-Memory-false.ensures in
    let gave = c.give_back-in-Memory-false.ensures in
    let same = unasked c.in-Memory-false.dialed _ _ c.in-Memory-false.dialed-test attempt.unasked in
    wanted-step
    (went-on (given-back (host_of c.args.grant)
    (did-no-exchange _ _ (undialed _ _ _ _ _ c.in-Memory-false.dialed c.in-Memory-false.dialed-test attempt.adds.adds) refl attempt.stays
    (Grew-refl _))
    (later-exchanged _ _ refl attempt.stays attempt.later) attempt.may_give (same_programs _)
    (gave.noted, gave.places) gave.called
    (refl, inr refl) tt) (none-rose _)
    (record { faults = λ none. ap (λ (k : KeeperView). k.faults) same; overruns = attempt.stays.overruns }))

pub returns-in-Whole-clause-idle : goal.returns-in-Whole-clause-idle
returns-in-Whole-clause-idle g c =
    let task = c.args.sending.now.task.now in
    let adds = c.in-Whole.ensures.adds in
    whole-idle task.config.now _ c.in-Whole.outcome c.in-Whole.landing task.output.now adds.object _ _ _ c.after_whole.ensures adds.lands.1
