-- What a loop's dialer is in, and what its calls do to it.
use Rattle.std.specs.Prelude.{◌≡◌, ℕ, ◌+◌, ◌-◌, ◌^◌, min, Bool, true, false, List, ◌++◌, [], ◌∷◌, Option, Some, None, is_some, Result, Ok}
use Rattle.std.specs.Prelude.{Err}
use Rattle.farm_types.specs.declared.hosts.HostName.{HostName}
use Rattle.farm_types.specs.declared.placed.Word.{Word}
use Rattle.farm_types.specs.declared.ran.Ran.{Ran}
use Rattle.edge_traits.specs.declared.entries.Exchange.{Exchange}
use Rattle.edge_traits.specs.declared.faults.EdgeFault.{EdgeFault}
use Rattle.edge_traits.specs.declared.faults.EdgeFault.TheVariants.{Failed, Memory}
use Rattle.edge_traits.specs.Told.{told}
use Rattle.edge_traits.specs.Links.{LinkView}
use Rattle.edge_traits.specs.Dialers.{DialerView, dial_entries, hung}
use Rattle.edge_traits.specs.Stations.{StationView}
use Rattle.loop_link.specs.declared.link.Held.{Held}
use Rattle.loop_link.specs.declared.dialer.LoopDialer.{LoopDialer}
use Rattle.loop_link.specs.Replies.{Gives}

-- whether the station is there, how many dials failed, counted up to the greatest u64, and the entries
pub record DialerState : Type 0 where
  pub there : Bool
  pub faults : ℕ
  pub exchanges : List Exchange

abbrev pub dialer_state : {S : Type 0} → LoopDialer S → DialerState
dialer_state dialer = record { there = is_some dialer.held; faults = dialer.faults; exchanges = dialer.exchanges }

-- what it shows of its past
abbrev pub dialer_shows : DialerState → DialerView
dialer_shows dialer = record { exchanges = told dialer.exchanges; faults = dialer.faults }

-- A dial fails exactly if the station is away, unless memory ran out.
abbrev pub IsDialAnswer : {L : Type 0} → DialerState → Result L EdgeFault → Type 0
IsDialAnswer dialer (Ok link) = dialer.there ≡ true
IsDialAnswer dialer (Err Failed) = dialer.there ≡ false
IsDialAnswer dialer (Err Memory) = Unit {0}

-- the count of faults after a dial: it rises if the dial failed
abbrev pub faults_after : {L : Type 0} → ℕ → Result L EdgeFault → ℕ
faults_after faults (Ok link) = faults
faults_after faults (Err Failed) = min (faults + 1) (2 ^ 64 - 1)
faults_after faults (Err Memory) = faults

-- whether the station is there after a dial: it went into the link
abbrev pub there_after : {L : Type 0} → Bool → Result L EdgeFault → Bool
there_after there (Ok link) = false
there_after there (Err fault) = there

abbrev pub after_dial : {L : Type 0} → DialerState → HostName → ℕ → Result L EdgeFault → DialerState
after_dial dialer host port result = record {
  there = there_after dialer.there result;
  faults = faults_after dialer.faults result;
  exchanges = dialer.exchanges ++ dial_entries host port result;
}

-- the station comes back
abbrev pub after_hang_up : DialerState → LinkView → DialerState
after_hang_up dialer link = record dialer { there = true; exchanges = dialer.exchanges ++ hung link ∷ [] }

-- the station and the table if they are there, and else as they were when they went into a link
abbrev pub there_or : {A : Type 0} → Option A → A → A
there_or (Some held) last = held
there_or None last = last

abbrev pub held_of : {S : Type 0} → LoopDialer S → Held S
held_of dialer = there_or dialer.held dialer.last.value

-- what a dialer's peers may give
abbrev pub DialerGives : {S : Type 0} → (S → List Word → List ℕ → Ran → Type 0) → LoopDialer S → List ℕ → List ℕ → Type 0
DialerGives ran dialer = Gives (held_of dialer).table.rows (ran (held_of dialer).station)

-- what the dialer's station shows, as it was last seen
abbrev pub station_of : {S : Type 0} → (S → StationView) → LoopDialer S → StationView
station_of shows dialer = shows (held_of dialer).station
