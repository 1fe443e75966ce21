-- What a job sees and changes, and how it comes from one place of its course to another.
use Rattle.std.specs.Prelude.{◌≡◌, ℕ, ◌+◌, ◌≤◌, Bool, true, false, ◌||◌, IsTrue, List, ◌++◌, nat_eq}
use Rattle.slot_table.specs.declared.limits.Limits.{Limits}
use Rattle.slot_table.specs.declared.calls.CallEntry.{CallEntry}
use Rattle.edge_traits.specs.Kits.{KitView}
use Rattle.edge_traits.specs.Stations.{StationStill}
use Rattle.edge_traits.specs.Told.{SameRelation, SameRelation3}
use Rattle.edge_traits.specs.Deeds.{exchanges_in, moments_in, DidIn, MayAll}
use Rattle.farm_machine.specs.declared.reports.Event.{Event}
use Rattle.farm_machine.specs.declared.reports.End.{End}
use Rattle.farm_machine.specs.declared.reports.Places.{Places}
use Rattle.farm_machine.specs.Acts.{SlotEvent, took, Act, slots_of, deeds_of}
use Rattle.farm_machine.specs.Causes.{HasEndCause, StationStands, KitLater}
use Rattle.farm_machine.specs.Course.{is_tried, At, Start, Send, Lent, Sent, Ends}
use Rattle.farm_machine.specs.Farm.{wanted}
use Rattle.farm_machine.specs.Honest.{Peers, Programs, AllRan}
use Rattle.farm_machine.specs.Jobs.{Job, source_name}
use Rattle.farm_machine.specs.Moments.{AreMoments}
use Rattle.farm_machine.specs.Numbered.{numbered, advanced, untimed}
use Rattle.farm_machine.specs.Own.{Serves}
use Rattle.job_run.specs.Events.{place_max}
use Rattle.job_run.specs.Gives.{LeavesAlone}
use Rattle.job_run.specs.Strict.{StrictReach}
use Rattle.job_run.specs.Stands.{KeepsStill, KeeperStands, FetchEnds}

-- a kit with its peers and programs, the worker's calls, and the events and next places
pub record Seen : Type 1 where
  pub kit : KitView
  pub peers : Peers
  pub programs : Programs
  pub mine : List CallEntry
  pub events : List Event
  pub places : Places

abbrev pub seen_as : KitView → Peers → Programs → List CallEntry → List Event → Places → Seen
seen_as kit peers programs mine events places =
    record { kit = kit; peers = peers; programs = programs; mine = mine; events = events; places = places }

-- At `Start` the job took no slot of a host before. At `Send`, `Lent` and `Sent` it took one of exactly the hosts that the place names. Of
-- other places this says nothing.
abbrev pub HasTaken : List SlotEvent → At → Type 0
HasTaken past Start = (host : ℕ) → took host past ≡ false
HasTaken past (Send source note tried) = (host : ℕ) → took host past ≡ is_tried host tried
HasTaken past (Lent host source note tried) = (k : ℕ) → took k past ≡ (nat_eq host k || is_tried k tried)
HasTaken past (Sent host source note tried x) = (k : ℕ) → took k past ≡ (nat_eq host k || is_tried k tried)
HasTaken past at = Unit {0}

-- The job came from one place to another by these acts, and these calls are what it asked of the slots.
pub record Went {h : ℕ} (j : Job) (l : Limits h) (caller number : ℕ) (old new : Seen) (at to : At) : Type 0 where
  pub acts : List Act
  pub calls : List CallEntry
  pub did : DidIn old.kit new.kit (deeds_of acts)
  pub named : new.events ≡ old.events ++ numbered old.places acts
  pub grown : new.places ≡ advanced old.places acts
  pub reach : StrictReach j at (untimed acts) to
  pub mine : new.mine ≡ old.mine ++ calls
  pub serves : (past : List SlotEvent) → HasTaken past at → Serves (wanted l) caller number past (slots_of acts) calls
  pub moments : AreMoments j.config.period calls (moments_in (deeds_of acts))
  pub leaves : LeavesAlone j.config.period acts
  pub later : KitLater old.kit new.kit
  pub may : IsTrue new.kit.dialer.exchanges.known → MayAll new.peers (exchanges_in (deeds_of acts))
  pub ran : AllRan new.programs acts
  pub same_peers : SameRelation old.peers new.peers
  pub same_programs : SameRelation3 old.programs new.programs

-- The job came from one place to another and goes on there: no count of the station rose, no overrun of the keeper, and without an exchange
-- none of its faults.
pub record WentOn {h : ℕ} (j : Job) (l : Limits h) (caller number : ℕ) (old new : Seen) (at to : At) : Type 0 where
  pub went : Went j l caller number old new at to
  pub station : StationStill old.kit.station new.kit.station
  pub keeper : KeepsStill went.acts old.kit.keeper new.kit.keeper

-- the job came from a place to a last one, from which it may end so
pub record HasEnded {h : ℕ} (j : Job) (l : Limits h) (caller number : ℕ) (old new : Seen) (at : At) (end : End) : Type 0 where
  pub to : At
  pub went : Went j l caller number old new at to
  pub ends : Ends j to end
  pub cause : HasEndCause end old.kit new.kit
  pub station : StationStands end old.kit.station new.kit.station
  pub keeper : KeeperStands end went.acts old.kit.keeper new.kit.keeper
  pub fetch : FetchEnds (source_name j) end went.acts old.kit.keeper new.kit.keeper

-- the next places, with room for that many more entries
pub record HasPlaces (at : Places) (left : ℕ) : Type 0 where
  pub runs : at.runs + left ≤ place_max
  pub fetches : at.fetches + left ≤ place_max
  pub exchanges : at.exchanges + left ≤ place_max
  pub puts : at.puts + left ≤ place_max

-- if the caller is the only one, there is room for as many calls as for events
abbrev pub HasSpare : Bool → ℕ → ℕ → Type 0
HasSpare alone left spare = alone ≡ true → left ≤ spare

-- If the caller is the only one, it spent no more of its calls than of its events; otherwise it spent no call. The events left didn't grow.
pub record Spent (alone : Bool) (left spare left' spare' : ℕ) : Type 0 where
  pub alone_spent : alone ≡ true → spare + left' ≤ spare' + left
  pub shared : alone ≡ false → spare' ≡ spare
  pub fell : left' ≤ left
