-- What a door shows of its past, and what its calls do to it.
use Rattle.std.specs.Prelude.{ℕ, IsTrue, List, [], ◌∷◌, Result, Ok, Err}
use Rattle.edge_traits.specs.declared.faults.EdgeFault.{EdgeFault}
use Rattle.edge_traits.specs.declared.entries.Visit.{Visit}
use Rattle.edge_traits.specs.Told.{Told}
use Rattle.edge_traits.specs.Links.{LinkView}

-- what a door shows: the visits that ended, and the addresses of the links that it gave
pub record DoorView : Type 0 where
  pub visits : Told (List Visit)
  pub peers : Told (List ℕ)
  pub faults : ℕ

-- the entry of a link that is left
abbrev pub visited : LinkView → Visit
visited link = record { given = link.given.value; sent = link.sent.value; ended = link.ended; stopped = link.stopped; faults = link.faults }

-- the addresses that an accept adds: one at `Ok`
abbrev pub accepted_peers : {L : Type 0} → Result (L × ℕ) EdgeFault → List ℕ
accepted_peers (Ok accepted) = accepted.1 ∷ []
accepted_peers (Err fault) = []

-- If the visits are told, so was all that the link's entry says.
pub record IsVisitTold (visits : Told (List Visit)) (link : LinkView) : Type 0 where
  pub sent : IsTrue visits.known → IsTrue link.sent.known
  pub given : IsTrue visits.known → IsTrue link.given.known
