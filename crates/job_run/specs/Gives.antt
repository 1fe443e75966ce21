-- A slot that is given back of a host that broke an exchange.
use Rattle.std.specs.Prelude.{◌≡◌, ◌⊎◌, ℕ, ◌<◌, ◌^◌, true, false, List, [], ◌∷◌, ◌++◌}
use Rattle.edge_traits.specs.declared.entries.Exchange.{Exchange}
use Rattle.edge_traits.specs.Deeds.{exchanged, timed}
use Rattle.edge_traits.specs.Told.{Told, Grew}
use Rattle.slot_table.specs.declared.calls.CallEntry.{CallEntry}
use Rattle.slot_table.specs.declared.calls.SlotCall.TheVariants.{Give, GiveBad}
use Rattle.slot_table.specs.declared.calls.SlotReply.TheVariants.{Given}
use Rattle.slot_table.specs.Backoff.{bad_until}
use Rattle.slot_table.specs.History.{entry}
use Rattle.farm_machine.specs.declared.reports.Event.{Event}
use Rattle.farm_machine.specs.declared.reports.Event.TheVariants.{Gave, GaveBad}
use Rattle.farm_machine.specs.Acts.{Gives, Act, Did, Met}

-- with no period it was given back as any other
pub record GavePlainly (period caller job host : ℕ) (mine mine' : List CallEntry) (events events' : List Event)
    (moments moments' : Told (List ℕ)) : Type 0 where
  pub none : period ≡ 0
  pub called : mine' ≡ mine ++ entry caller (Give host job) Given ∷ []
  pub noted : events' ≡ events ++ Gave host ∷ []
  pub looked : Grew moments moments' []

-- with one the host is not used for the period, from a moment that the clock gave
pub record GaveAlone (period caller job host : ℕ) (mine mine' : List CallEntry) (events events' : List Event)
    (moments moments' : Told (List ℕ)) : Type 0 where
  pub some : 0 < period
  pub moment : ℕ
  pub within : moment < 2 ^ 64
  pub called : mine' ≡ mine ++ entry caller (GiveBad host job (bad_until moment period)) Given ∷ []
  pub noted : events' ≡ events ++ GaveBad host (bad_until moment period) ∷ []
  pub looked : Grew moments moments' (moment ∷ [])

abbrev pub GaveBroken : ℕ → ℕ → ℕ → ℕ → List CallEntry → List CallEntry → List Event → List Event → Told (List ℕ) → Told (List ℕ) → Type 0
GaveBroken period caller job host mine mine' events events' moments moments' =
    GavePlainly period caller job host mine mine' events events' moments moments'
    ⊎ GaveAlone period caller job host mine mine' events events' moments moments'

-- ---- which slots may be given back plainly

-- Nothing went wrong with the exchange, as far as it went: there was a link, which had no fault, took all that it was offered and didn't
-- end.
pub record IsUnhurt (x : Exchange) : Type 0 where
  pub dialed : x.dialed ≡ true
  pub faults : x.faults ≡ 0
  pub stopped : x.stopped ≡ false
  pub ended : x.ended ≡ false

-- An act comes next that isn't a look at the clock. It may be a plain give only if nothing went wrong with the exchange before it, or if
-- there is no period.
abbrev pub GivesAfter : ℕ → Exchange → List Act → Type 0
GivesAfter period x [] = ⊥
GivesAfter period x (Did (timed moment) ∷ acts) = GivesAfter period x acts
GivesAfter period x (Met (Gives host) ∷ acts) = (period ≡ 0) ⊎ IsUnhurt x
GivesAfter period x (act ∷ acts) = Unit {0}

-- With a period no slot is given back plainly after an exchange with which something went wrong.
abbrev pub LeavesAlone : ℕ → List Act → Type 0
LeavesAlone period [] = Unit {0}
LeavesAlone period (Did (exchanged x) ∷ acts) = GivesAfter period x acts × LeavesAlone period acts
LeavesAlone period (act ∷ acts) = LeavesAlone period acts
