-- What a link that follows a script is in, and what its calls do to it.
use Rattle.std.specs.Prelude.{ℕ, ◌+◌, ◌||◌, Bool, false, List, [], ◌++◌, take, drop, is_some, Result}
use Rattle.edge_traits.specs.declared.faults.EdgeFault.{EdgeFault}
use Rattle.edge_traits.specs.Told.{told}
use Rattle.edge_traits.specs.Links.{Origin, LinkView, moved, moved_none}
use Rattle.edge_memory.specs.declared.script.LinkScript.{LinkScript}
use Rattle.edge_memory.specs.declared.link.MemLink.{MemLink}
use Rattle.edge_traits.specs.Calls.{one_more, failed_calls}
use Rattle.edge_memory.specs.Moving.{count_of}

-- the script and whom the link was dialed to; how many calls it had, counted up to the greatest u64; what passed so far; and what
-- may be done with it at its end
pub record LinkState : Type 0 where
  pub script : LinkScript
  pub origin : Origin
  pub made : ℕ
  pub sent : List ℕ
  -- how many bytes of the script were given
  pub given : ℕ
  pub ended : Bool
  pub stopped : Bool
  -- it has the room for a dialer's entry, and for a door's
  pub may_hang_up : Bool
  pub may_leave : Bool

abbrev pub link_state : MemLink → LinkState
link_state link = record {
  script = record { gives = link.gives; moves = record { fails = link.calls.fails; zeros = link.zeros; most = link.most } };
  origin = record { host = link.host; port = link.port };
  made = link.calls.made;
  sent = link.sent;
  given = link.at;
  ended = link.ended;
  stopped = link.stopped;
  may_hang_up = is_some link.exchange;
  may_leave = is_some link.visit;
}

-- the origin of a link that wasn't dialed
abbrev pub nowhere : Origin
nowhere = record { host = record { text = [] }; port = 0 }

-- a link that nothing passed over
abbrev pub new_link : LinkScript → Origin → Bool → Bool → LinkState
new_link script origin may_hang_up may_leave = record {
  script = script;
  origin = origin;
  made = 0;
  sent = [];
  given = 0;
  ended = false;
  stopped = false;
  may_hang_up = may_hang_up;
  may_leave = may_leave;
}

-- what it shows
abbrev pub link_shows : LinkState → LinkView
link_shows link = record {
  origin = link.origin;
  sent = told link.sent;
  given = told (take link.given link.script.gives);
  ended = link.ended;
  stopped = link.stopped;
  faults = failed_calls link.script.moves.fails link.made;
}

-- the bytes that are still to be given
abbrev pub left_of : LinkState → List ℕ
left_of link = drop link.given link.script.gives

abbrev pub after_send : LinkState → List ℕ → Result ℕ EdgeFault → LinkState
after_send link piece result =
    record link { made = one_more link.made; sent = link.sent ++ moved result piece; stopped = link.stopped || moved_none result }

abbrev pub after_recv : LinkState → Result ℕ EdgeFault → LinkState
after_recv link result = record link {
  made = one_more link.made;
  given = link.given + count_of result;
  ended = link.ended || moved_none result;
}
