-- Which jobs end well, whatever dialers, links and hosts do.
use Rattle.std.specs.Prelude.{◌≡◌, ℕ, ◌<◌, Bool, true, false, ◌&&◌, not, List, [], ◌∷◌}
use Rattle.edge_traits.specs.declared.entries.Exchange.{Exchange}
use Rattle.edge_traits.specs.declared.cause.Cause.{Cause}
use Rattle.edge_traits.specs.Causes.{Rose}
use Rattle.edge_traits.specs.Deeds.{exchanged}
use Rattle.edge_traits.specs.Kits.{KitView}
use Rattle.farm_machine.specs.declared.reports.Why5.TheVariants.{Memory}
use Rattle.farm_machine.specs.declared.reports.End.{End}
use Rattle.farm_machine.specs.declared.reports.End.TheVariants.{Done, Failed}
use Rattle.farm_machine.specs.Acts.{SlotEvent, Takes, GivesBad, FindsDown, Act, Did, slots_of}
use Rattle.farm_machine.specs.Causes.{HasEndCause}
use Rattle.farm_machine.specs.Course.{IsBrokenWith, Course}
use Rattle.farm_machine.specs.Jobs.{Job, host_count}
use Rattle.farm_machine.specs.Table.{IsSource}
use Rattle.course_laws.specs.Laws.{IsAmong, is_own_end}

-- no run, fetch or put of the kit failed, and none was too large
pub record IsCalm (old new : KitView) : Type 0 where
  pub station : ¬ (Rose old.station.faults new.station.faults)
  pub station_overruns : ¬ (Rose old.station.overruns new.station.overruns)
  pub keeper : ¬ (Rose old.keeper.faults new.keeper.faults)
  pub keeper_overruns : ¬ (Rose old.keeper.overruns new.keeper.overruns)

-- a job was done, or memory ran out
abbrev pub is_done_or_wanted : End → Bool
is_done_or_wanted (Done status note err out by) = true
is_done_or_wanted (Failed Memory) = true
is_done_or_wanted end = false

-- If an end is no host's fault, and the job's station and keeper did nothing wrong, the job was done, or memory ran out.
abbrev pub OwnEndLaw : Type 0
OwnEndLaw = (end : End) (old new : KitView) → HasEndCause end old new → IsCalm old new → is_own_end end ≡ true
    → is_done_or_wanted end ≡ true

-- No exchange of the job broke: none among these acts is broken by any cause, for the job's own source and a host of its list.
abbrev pub NoneBroke : Job → List Act → Type 0
NoneBroke j acts = (x : Exchange) (source : List ℕ) (host : ℕ) (cause : Cause)
    → IsAmong (Did (exchanged x)) acts → IsSource acts source → host < host_count j → ¬ (IsBrokenWith j x source host cause)

-- the hosts are found down among these slot events
abbrev pub finds_down : List SlotEvent → Bool
finds_down [] = false
finds_down (FindsDown ∷ events) = true
finds_down (e ∷ events) = finds_down events

-- no host gets a back-off, and hosts aren't found down after one was taken
abbrev pub asks_once : List SlotEvent → Bool
asks_once [] = true
asks_once (Takes host ∷ events) = not (finds_down events) && asks_once events
asks_once (GivesBad host until ∷ events) = false
asks_once (e ∷ events) = asks_once events

-- What a job does and how it ends if none of its exchanges broke. It gives no host a back-off, and finds hosts down, if at all, before it
-- took one. If it didn't find them down, no host is the cause of its end, whether fallback is on or off.
pub record IsUnbroken (acts : List Act) (end : End) : Type 0 where
  pub asks : asks_once (slots_of acts) ≡ true
  pub own : finds_down (slots_of acts) ≡ false → is_own_end end ≡ true

abbrev pub UnbrokenLaw : Type 0
UnbrokenLaw = (j : Job) (acts : List Act) (end : End) → Course j acts end → NoneBroke j acts → IsUnbroken acts end
