use Rattle.std.proofs.Common.{◌≡◌, ℕ, [], ◌++◌, replicate}
use Rattle.slot_table.specs.History.{outstanding}
use Rattle.edge_traits.specs.Told.{Grew}
use Rattle.job_run.specs.Waits.{refused_local}
use Rattle.job_run.proofs.waiting.borrow_local.Given as goal

abbrev pub invariant-loop : goal.invariant-loop
invariant-loop g l = record {
  ready : g.G.Grants.ready l.grants;
  follows : g.G.Grants.follows l.fn.grants l.grants;
  spare : g.G.Grants.spare l.grants ≡ g.G.Grants.spare l.fn.grants;
  refused : (n : ℕ) × (g.G.Grants.mine l.grants ≡ g.G.Grants.mine l.fn.grants ++ replicate n
      (refused_local (g.G.Grants.caller_number l.fn.grants) l.number));
  none : outstanding (g.G.Grants.mine l.grants) ≡ [];
  clock : Grew (g.C.Clock.shows l.fn.clock).moments (g.C.Clock.shows l.clock).moments [];
}
