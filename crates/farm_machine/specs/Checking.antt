-- The steps of the check of a given run: what its calls are in the words of the code, and what they leave.
use Rattle.std.specs.Prelude.{◌≡◌, ℕ, zero, suc, Bool, true, false, ◌&&◌, not, List, Option, Some, nat_eq}
use Rattle.slot_table.specs.declared.slots.Slots.{Slots}
use Rattle.slot_table.specs.declared.calls.CallEntry.{CallEntry}
use Rattle.slot_table.specs.Step.{slot_step}
use Rattle.slot_table.specs.History.{host_eq, Change, Takes as TakesSlot, Gives as GivesSlot, outstanding, state_after, IsNext}
use Rattle.farm_machine.specs.declared.kinds.Kind.{Kind}
use Rattle.farm_machine.specs.declared.kinds.Kind.TheVariants as kind
use Rattle.farm_machine.specs.declared.reports.Event.{Event}
use Rattle.farm_machine.specs.declared.reports.Event.TheVariants.{Took, Gave, GaveBad, Down, TookLocal, GaveLocal}
use Rattle.farm_machine.specs.declared.reports.Report.{Report}
use Rattle.farm_machine.specs.Acts.{SlotEvent, Takes, Gives, GivesBad, FindsDown, TakesLocal, GivesLocal, Act, after_met}
use Rattle.farm_machine.specs.CheckRuns.{AreSound}
use Rattle.farm_machine.specs.Farm.{wanted}
use Rattle.farm_machine.specs.Machine.{HostSlot, LocalSlot, JobCall, Draws, Adds, Waits, Mismatched}
use Rattle.farm_machine.specs.Reading.{unread}

-- a change takes such a slot for the job
abbrev pub is_taken : ℕ → Option ℕ → Change → Bool
is_taken job host (TakesSlot taker at) = nat_eq job taker && host_eq host at
is_taken job host other = false

-- a change gives such a slot of the job back
abbrev pub is_given : ℕ → Option ℕ → Change → Bool
is_given job host (GivesSlot giver at) = nat_eq job giver && host_eq host at
is_given job host other = false

-- the slots after a call that may be made and has its reply
pub record IsStepped (slots : Slots 16) (before : List CallEntry) (entry : CallEntry) (next : Slots 16) : Type 0 where
  pub legal : IsNext slots.limits slots.state (outstanding before) entry
  pub limits : next.limits ≡ slots.limits
  pub state : next.state ≡ (slot_step slots.limits slots.state entry.call).0

-- these calls are sound, and have led to these slots
pub record IsSound (slots : Slots 16) (reports : List Report) (calls : List CallEntry) (next : Slots 16) : Type 0 where
  pub sound : AreSound slots.limits (unread reports) (wanted slots.limits) calls
  pub limits : next.limits ≡ slots.limits
  pub state : next.state ≡ state_after slots.limits calls

-- how a report writes a slot event
abbrev pub event_of : SlotEvent → Event
event_of (Takes host) = Took host
event_of (Gives host) = Gave host
event_of (GivesBad host until) = GaveBad host until
event_of FindsDown = Down
event_of TakesLocal = TookLocal
event_of GivesLocal = GaveLocal

-- what a call with its reply is, in the words of the code
abbrev pub kind_of : JobCall → Kind
kind_of (Draws job) = kind.Draws job
kind_of (Adds job mask x) = kind.Adds job mask (event_of x)
kind_of (Waits job mask HostSlot) = kind.Waits job mask false
kind_of (Waits job mask LocalSlot) = kind.Waits job mask true
kind_of Mismatched = kind.Mismatched

-- the acts after that many slot events
abbrev pub behind : ℕ → List Act → List Act
behind zero acts = acts
behind (suc n) acts = after_met (behind n acts)

-- a refused take, of a local slot or of a host's, waits for this event
abbrev pub is_awaited : Option Event → Bool → Bool
is_awaited (Some TookLocal) local = local
is_awaited (Some (Took host)) local = not local
is_awaited (Some Down) local = not local
is_awaited other local = false
