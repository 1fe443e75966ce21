-- What a job does: deeds, which are entries of its worker's devices, and slot events, which are calls on the slots.
use Rattle.std.specs.Prelude.{◌≡◌, ℕ, Bool, false, ◌||◌, List, [], ◌∷◌, Option, Some, None, nat_eq, slice_get}
use Rattle.edge_traits.specs.declared.entries.Run.{Run}
use Rattle.edge_traits.specs.declared.entries.Fetch.{Fetch}
use Rattle.edge_traits.specs.declared.entries.Exchange.{Exchange}
use Rattle.edge_traits.specs.declared.entries.Put.{Put}
use Rattle.edge_traits.specs.Deeds.{Deed, ran, fetched, exchanged, put}
use Rattle.farm_machine.specs.declared.reports.Event.{Event}
use Rattle.farm_machine.specs.declared.reports.Event.TheVariants.{Ran, Fetched, Exchanged, Put as PutAt, Took, Gave, GaveBad, Down}
use Rattle.farm_machine.specs.declared.reports.Event.TheVariants.{TookLocal, GaveLocal}

-- One call on the slots with its final answer. A slot of a host was taken, given back, or given back with the moment until which the host
-- is not used. Or all hosts were found down, or a local slot was taken or given back. An answer that says to try again is no event.
pub data SlotEvent : Type 0 where
  Takes : ℕ → SlotEvent
  Gives : ℕ → SlotEvent
  GivesBad : ℕ → ℕ → SlotEvent
  FindsDown : SlotEvent
  TakesLocal : SlotEvent
  GivesLocal : SlotEvent

-- one thing that a job does
pub data Act : Type 0 where
  Did : Deed → Act
  Met : SlotEvent → Act

-- the entries that a worker's devices have added since the counting of places began
pub record Entries : Type 0 where
  pub runs : List Run
  pub fetches : List Fetch
  pub exchanges : List Exchange
  pub puts : List Put

-- an event of a report, read by its place among the entries, is this act
abbrev pub Reads : Entries → Event → Act → Type 0
Reads es (Ran at) a = (x : Run) × (slice_get es.runs at ≡ Some x) × (a ≡ Did (ran x))
Reads es (Fetched at) a = (x : Fetch) × (slice_get es.fetches at ≡ Some x) × (a ≡ Did (fetched x))
Reads es (Exchanged at) a = (x : Exchange) × (slice_get es.exchanges at ≡ Some x) × (a ≡ Did (exchanged x))
Reads es (PutAt at) a = (x : Put) × (slice_get es.puts at ≡ Some x) × (a ≡ Did (put x))
Reads es (Took host) a = a ≡ Met (Takes host)
Reads es (Gave host) a = a ≡ Met (Gives host)
Reads es (GaveBad host until) a = a ≡ Met (GivesBad host until)
Reads es Down a = a ≡ Met FindsDown
Reads es TookLocal a = a ≡ Met TakesLocal
Reads es GaveLocal a = a ≡ Met GivesLocal

-- the events of a report, read one by one, are these acts
abbrev pub ReadsAll : Entries → List Event → List Act → Type 0
ReadsAll es [] [] = Unit {0}
ReadsAll es (e ∷ events) (a ∷ acts) = Reads es e a × ReadsAll es events acts
ReadsAll es [] (a ∷ acts) = ⊥
ReadsAll es (e ∷ events) [] = ⊥

-- the slot events among the acts
abbrev pub slots_of : List Act → List SlotEvent
slots_of [] = []
slots_of (Did d ∷ acts) = slots_of acts
slots_of (Met e ∷ acts) = e ∷ slots_of acts

-- the deeds among the acts
abbrev pub deeds_of : List Act → List Deed
deeds_of [] = []
deeds_of (Did d ∷ acts) = d ∷ deeds_of acts
deeds_of (Met x ∷ acts) = deeds_of acts

-- the first slot event among the acts
abbrev pub next_met : List Act → Option SlotEvent
next_met [] = None
next_met (Did d ∷ acts) = next_met acts
next_met (Met e ∷ acts) = Some e

-- the acts after the first slot event
abbrev pub after_met : List Act → List Act
after_met [] = []
after_met (Did d ∷ acts) = after_met acts
after_met (Met e ∷ acts) = acts

-- a slot of this host was taken
abbrev pub took : ℕ → List SlotEvent → Bool
took place [] = false
took place (Takes host ∷ events) = nat_eq host place || took place events
took place (e ∷ events) = took place events

-- What a job has out: nothing, a slot of the host at a place, or a local slot.
abbrev pub Loan : Type 0
Loan = Option (Option ℕ)

-- what a job has out after one slot event more
abbrev pub loan_after : Loan → SlotEvent → Loan
loan_after loan (Takes host) = Some (Some host)
loan_after loan TakesLocal = Some None
loan_after loan (Gives host) = None
loan_after loan (GivesBad host until) = None
loan_after loan GivesLocal = None
loan_after loan FindsDown = loan

-- what a job has out after these slot events
abbrev pub loan_of : Loan → List SlotEvent → Loan
loan_of loan [] = loan
loan_of loan (e ∷ events) = loan_of (loan_after loan e) events

-- a job takes, or finds all hosts down, only if it has nothing out, and gives what it has out; a local entry never gets a back-off
abbrev pub IsTurn : (ℕ → Bool) → Loan → SlotEvent → Type 0
IsTurn local loan (Takes host) = loan ≡ None
IsTurn local loan TakesLocal = loan ≡ None
IsTurn local loan (Gives host) = loan ≡ Some (Some host)
IsTurn local loan (GivesBad host until) = (loan ≡ Some (Some host)) × (local host ≡ false)
IsTurn local loan GivesLocal = loan ≡ Some None
IsTurn local loan FindsDown = loan ≡ None

-- each slot event comes in its turn, and after the last one nothing is out
abbrev pub IsOrderly : (ℕ → Bool) → Loan → List SlotEvent → Type 0
IsOrderly local loan [] = loan ≡ None
IsOrderly local loan (e ∷ events) = IsTurn local loan e × IsOrderly local (loan_after loan e) events
