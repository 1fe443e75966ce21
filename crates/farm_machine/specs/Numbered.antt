-- The events that name some acts, those of deeds by the places of their entries.
use Rattle.std.specs.Prelude.{◌≡◌, ◌+◌, List, [], ◌∷◌, ◌++◌, length}
use Rattle.edge_traits.specs.Deeds.{ran, fetched, exchanged, put, timed}
use Rattle.farm_machine.specs.declared.reports.Places.{Places}
use Rattle.farm_machine.specs.declared.reports.Event.{Event}
use Rattle.farm_machine.specs.declared.reports.Event.TheVariants.{Ran, Fetched, Exchanged, Put, Took, Gave, GaveBad, Down, TookLocal}
use Rattle.farm_machine.specs.declared.reports.Event.TheVariants.{GaveLocal}
use Rattle.farm_machine.specs.Acts.{Takes, Gives, GivesBad, FindsDown, TakesLocal, GivesLocal, Act, Did, Met, Entries, ReadsAll}

-- the start of the counting
abbrev pub no_places : Places
no_places = record { runs = 0; fetches = 0; exchanges = 0; puts = 0 }

-- Each deed that adds an entry is named by the next place of its kind, and each slot event by its kind and values; a
-- look at the clock is no event.
abbrev pub numbered : Places → List Act → List Event
numbered at [] = []
numbered at (Did (ran x) ∷ acts) = Ran at.runs ∷ numbered (record at { runs = at.runs + 1 }) acts
numbered at (Did (fetched x) ∷ acts) = Fetched at.fetches ∷ numbered (record at { fetches = at.fetches + 1 }) acts
numbered at (Did (exchanged x) ∷ acts) = Exchanged at.exchanges ∷ numbered (record at { exchanges = at.exchanges + 1 }) acts
numbered at (Did (put x) ∷ acts) = Put at.puts ∷ numbered (record at { puts = at.puts + 1 }) acts
numbered at (Did (timed moment) ∷ acts) = numbered at acts
numbered at (Met (Takes host) ∷ acts) = Took host ∷ numbered at acts
numbered at (Met (Gives host) ∷ acts) = Gave host ∷ numbered at acts
numbered at (Met (GivesBad host until) ∷ acts) = GaveBad host until ∷ numbered at acts
numbered at (Met FindsDown ∷ acts) = Down ∷ numbered at acts
numbered at (Met TakesLocal ∷ acts) = TookLocal ∷ numbered at acts
numbered at (Met GivesLocal ∷ acts) = GaveLocal ∷ numbered at acts

-- the next places after these acts
abbrev pub advanced : Places → List Act → Places
advanced at [] = at
advanced at (Did (ran x) ∷ acts) = advanced (record at { runs = at.runs + 1 }) acts
advanced at (Did (fetched x) ∷ acts) = advanced (record at { fetches = at.fetches + 1 }) acts
advanced at (Did (exchanged x) ∷ acts) = advanced (record at { exchanges = at.exchanges + 1 }) acts
advanced at (Did (put x) ∷ acts) = advanced (record at { puts = at.puts + 1 }) acts
advanced at (Did (timed moment) ∷ acts) = advanced at acts
advanced at (Met x ∷ acts) = advanced at acts

-- the entries after these acts, each of which adds its own at the end of its list
abbrev pub added : Entries → List Act → Entries
added es [] = es
added es (Did (ran x) ∷ acts) = added (record es { runs = es.runs ++ x ∷ [] }) acts
added es (Did (fetched x) ∷ acts) = added (record es { fetches = es.fetches ++ x ∷ [] }) acts
added es (Did (exchanged x) ∷ acts) = added (record es { exchanges = es.exchanges ++ x ∷ [] }) acts
added es (Did (put x) ∷ acts) = added (record es { puts = es.puts ++ x ∷ [] }) acts
added es (Did (timed moment) ∷ acts) = added es acts
added es (Met x ∷ acts) = added es acts

-- these places are the lengths of these lists
pub record Counts (at : Places) (es : Entries) : Type 0 where
  pub runs : length es.runs ≡ at.runs
  pub fetches : length es.fetches ≡ at.fetches
  pub exchanges : length es.exchanges ≡ at.exchanges
  pub puts : length es.puts ≡ at.puts

-- the acts without looks at the clock, which are no events
abbrev pub untimed : List Act → List Act
untimed [] = []
untimed (Did (timed moment) ∷ acts) = untimed acts
untimed (act ∷ acts) = act ∷ untimed acts

-- events that are numbered on from the lengths of a worker's lists read as the acts that they number
abbrev pub NumberedLaw : Type 0
NumberedLaw = (at : Places) (es : Entries) (acts : List Act) → Counts at es → ReadsAll (added es acts) (numbered at acts) (untimed acts)
