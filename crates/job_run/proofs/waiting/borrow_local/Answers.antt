use Rattle.std.proofs.Common.{◌∙◌, [], ◌∷◌, None, ap, sym, refl}
use Rattle.std.proofs.lemmas.Bool.{false≢true}
use Rattle.std.proofs.lemmas.List.{append-nil}
use Rattle.slot_table.specs.History.{holding}
use Rattle.edge_traits.proofs.ToldLemmas.{Grew-refl, Grew-then}
use Rattle.job_run.proofs.Outstanding.{got-local, refused-more, outstanding-more, no-cost}
use Rattle.job_run.proofs.waiting.borrow_local.Goals as goal

pub loop-init : goal.loop-init
loop-init g c = record {
  ready = c.requires.free.ready;
  follows = g.met.G.Grants.follows_itself _;
  spare = refl;
  refused = (0, sym (append-nil _));
  none = c.requires.free.none;
  clock = Grew-refl _;
}

pub loop-preserved : goal.loop-preserved
loop-preserved g c =
    let inv = c.loop.invariant in
    let e = c.in_default.ensures in
    record {
      ready = e.ready;
      follows = g.met.G.Grants.follows_on _ _ _ inv.follows e.follows;
      spare = no-cost g.G.Grants.alone _ _ (λ a. false≢true (e.free a inv.none)) e.spare ∙ inv.spare;
      refused = refused-more _ _ inv.refused.0 (g.met.G.Grants.caller_stays _ _ inv.follows) inv.refused.1 e.mine;
      none = outstanding-more _ _ _ e.mine ∙ inv.none;
      clock = Grew-then inv.clock c.pause.ensures;
    }

pub returns-in-Some-take_local-clause-waited : goal.returns-in-Some-take_local-clause-waited
returns-in-Some-take_local-clause-waited g c =
    let e = c.in-Some-take_local.ensures in
    record {
      ready = e.ready;
      follows = g.met.G.Grants.follows_on _ _ _ c.loop.invariant.follows e.follows;
      spare = e.spare ∙ c.loop.invariant.spare;
    }

pub returns-in-Some-take_local-clause-mine : goal.returns-in-Some-take_local-clause-mine
returns-in-Some-take_local-clause-mine g c =
    let inv = c.loop.invariant in got-local _ _ inv.refused.0
    (g.met.G.Grants.caller_stays _ _ inv.follows) inv.refused.1 c.in-Some-take_local.ensures.mine

pub returns-in-Some-take_local-clause-out : goal.returns-in-Some-take_local-clause-out
returns-in-Some-take_local-clause-out g c =
    let e = c.in-Some-take_local.ensures in
    outstanding-more _ _ _ e.mine ∙ ap (λ o. holding (g.G.Grants.caller_number c.loop.grants) c.args.number None ∷ o) c.loop.invariant.none
    ∙ ap (λ w. holding w c.args.number None ∷ []) (sym (g.met.G.Grants.caller_stays _ _ e.follows))
