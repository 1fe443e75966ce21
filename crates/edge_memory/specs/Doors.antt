-- What a door whose links follow scripts is in, and what its calls do to it.
use Rattle.std.specs.Prelude.{◌≡◌, ℕ, List, ◌∷◌, ◌++◌, [], drop, true, false, Result, Ok, Err}
use Rattle.edge_traits.specs.declared.entries.Visit.{Visit}
use Rattle.edge_traits.specs.declared.faults.EdgeFault.{EdgeFault}
use Rattle.edge_traits.specs.declared.faults.EdgeFault.TheVariants.{Failed, Memory}
use Rattle.edge_traits.specs.Told.{told}
use Rattle.edge_traits.specs.Links.{LinkView}
use Rattle.edge_traits.specs.Doors.{DoorView, accepted_peers, visited}
use Rattle.edge_memory.specs.declared.script.LinkScript.{LinkScript}
use Rattle.edge_memory.specs.declared.link.MemLink.{MemLink}
use Rattle.edge_memory.specs.declared.door.MemDoor.{MemDoor}
use Rattle.edge_traits.specs.Calls.{names_next, one_more, failed_calls}
use Rattle.edge_memory.specs.Scripts.{first_or, ends_at_once}
use Rattle.edge_memory.specs.Links.{link_state, new_link, nowhere}
use Rattle.edge_memory.specs.Dialers.{links_after}

-- the scripts of links and the peers that are still to come, which accepts fail, how many there were, counted up to the greatest
-- u64, the addresses that were given, and the entries
pub record DoorState : Type 0 where
  pub links : List LinkScript
  pub peers : List ℕ
  pub fails : List ℕ
  pub made : ℕ
  pub came : List ℕ
  pub visits : List Visit

abbrev pub door_state : MemDoor → DoorState
door_state door = record {
  links = door.links.items;
  peers = door.peers.items;
  fails = door.calls.fails;
  made = door.calls.made;
  came = door.came;
  visits = door.visits;
}

-- what it shows
abbrev pub door_shows : DoorState → DoorView
door_shows door = record { visits = told door.visits; peers = told door.came; faults = failed_calls door.fails door.made }

-- The next accept may return this. One that isn't to fail gives a link of the next script, or one that ends at once if the
-- scripts are used up, and the next peer, or 0; or it runs out of memory.
abbrev pub IsAcceptAnswer : DoorState → Result (MemLink × ℕ) EdgeFault → Type 0
IsAcceptAnswer door (Ok accepted) =
    (names_next door.fails door.made ≡ false)
    × (link_state accepted.0 ≡ new_link (first_or ends_at_once door.links) nowhere false true) × (accepted.1 ≡ first_or 0 door.peers)
IsAcceptAnswer door (Err Failed) = names_next door.fails door.made ≡ true
IsAcceptAnswer door (Err Memory) = names_next door.fails door.made ≡ false

-- the peers after an accept: one that was given is used up
abbrev pub peers_after : {L : Type 0} → List ℕ → Result L EdgeFault → List ℕ
peers_after peers (Ok accepted) = drop 1 peers
peers_after peers (Err fault) = peers

abbrev pub after_accept : {L : Type 0} → DoorState → Result (L × ℕ) EdgeFault → DoorState
after_accept door result = record door {
  made = one_more door.made;
  links = links_after door.links result;
  peers = peers_after door.peers result;
  came = door.came ++ accepted_peers result;
}

abbrev pub after_leave : DoorState → LinkView → DoorState
after_leave door link = record door { visits = door.visits ++ visited link ∷ [] }
