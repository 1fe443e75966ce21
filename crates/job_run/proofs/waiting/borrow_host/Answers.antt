use Rattle.std.proofs.Common.{◌∙◌, [], ◌∷◌, Some, ap, refl, sym, subst}
use Rattle.std.proofs.lemmas.List.{append-nil}
use Rattle.slot_table.specs.declared.calls.SlotReply.TheVariants.{Got, Down}
use Rattle.slot_table.specs.Grants.{host_of}
use Rattle.slot_table.specs.History.{holding}
use Rattle.edge_traits.proofs.ToldLemmas.{Grew-refl}
use Rattle.job_run.specs.Waits.{IsEntry}
use Rattle.job_run.proofs.Outstanding.{waited-more, got-host, outstanding-more, no-cost}
use Rattle.job_run.proofs.waiting.borrow_host.Goals as goal

pub loop-init : goal.loop-init
loop-init g c = record {
  ready = c.requires.free.ready;
  follows = g.met.G.Grants.follows_itself _;
  spare = refl;
  waited = ([], sym (append-nil _), Grew-refl _);
  none = c.requires.free.none;
}

pub loop-preserved : goal.loop-preserved
loop-preserved g c =
    let inv = c.loop.invariant in
    let e = c.in-Full.ensures in
    record {
      ready = e.ready;
      follows = g.met.G.Grants.follows_on _ _ _ inv.follows e.follows;
      spare = no-cost g.G.Grants.alone _ _ (λ a. e.free a inv.none refl) e.spare ∙ inv.spare;
      waited = waited-more _ _ _ _ (g.met.G.Grants.caller_stays _ _ inv.follows) inv.waited c.now-now.ensures c.pause.ensures e.mine;
      none = outstanding-more _ _ _ e.mine ∙ inv.none;
    }

pub returns-in-Got-clause-waited : goal.returns-in-Got-clause-waited
returns-in-Got-clause-waited g c =
    let e = c.in-Got.ensures in
    record {
      ready = e.ready;
      follows = g.met.G.Grants.follows_on _ _ _ c.loop.invariant.follows e.follows;
      spare = e.spare ∙ c.loop.invariant.spare;
    }

pub returns-in-Down-clause-waited : goal.returns-in-Down-clause-waited
returns-in-Down-clause-waited g c =
    let e = c.in-Down.ensures in
    record {
      ready = e.ready;
      follows = g.met.G.Grants.follows_on _ _ _ c.loop.invariant.follows e.follows;
      spare = e.spare ∙ c.loop.invariant.spare;
    }

pub returns-in-Got-clause-mine : goal.returns-in-Got-clause-mine
returns-in-Got-clause-mine g c =
    let inv = c.loop.invariant in
    got-host _ _ _ _ (Got (host_of c.in-Got.grant))
    (g.met.G.Grants.caller_stays _ _ inv.follows) inv.waited c.now-now.ensures c.in-Got.ensures.mine

pub returns-in-Down-clause-mine : goal.returns-in-Down-clause-mine
returns-in-Down-clause-mine g c =
    let inv = c.loop.invariant in got-host _ _ _ _ Down
    (g.met.G.Grants.caller_stays _ _ inv.follows) inv.waited c.now-now.ensures c.in-Down.ensures.mine

pub returns-in-Got-clause-entry : goal.returns-in-Got-clause-entry
returns-in-Got-clause-entry g c =
    let met = c.in-Got.ensures.entry in
    subst (λ l. IsEntry l c.args.number c.args.mask c.in-Got.grant) (g.met.G.Grants.limits_stay _ _ c.loop.invariant.follows)
    (record { job = c.in-Got.ensures.grant.1; entry = met.0; masked = met.1 })

pub returns-in-Got-clause-out : goal.returns-in-Got-clause-out
returns-in-Got-clause-out g c =
    let e = c.in-Got.ensures in
    outstanding-more _ _ _ e.mine ∙ ap
    (λ o. holding (g.G.Grants.caller_number c.loop.grants) c.args.number (Some (host_of c.in-Got.grant)) ∷ o) c.loop.invariant.none
    ∙ ap (λ w. holding w c.args.number (Some (host_of c.in-Got.grant)) ∷ []) (sym (g.met.G.Grants.caller_stays _ _ e.follows))

pub returns-in-Down-clause-out : goal.returns-in-Down-clause-out
returns-in-Down-clause-out g c = outstanding-more _ _ _ c.in-Down.ensures.mine ∙ c.loop.invariant.none
