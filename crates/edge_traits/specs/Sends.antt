-- What was sent of bytes that a link didn't take whole, and why.
use Rattle.std.specs.Prelude.{◌≡◌, ◌≢◌, true, List, ℕ, [], ◌++◌}
use Rattle.edge_traits.specs.declared.sending.SendFault.{SendFault}
use Rattle.edge_traits.specs.declared.sending.SendFault.TheVariants.{Failed, Stopped, Memory}
use Rattle.edge_traits.specs.Told.{Told, Grew}
use Rattle.edge_traits.specs.Causes.{Rose, Still}
use Rattle.edge_traits.specs.Links.{LinkView}

-- a front of these bytes was sent, and not all of them
pub record SentPart (bytes : List ℕ) (old new : Told (List ℕ)) : Type 0 where
  pub sent : List ℕ
  pub unsent : List ℕ
  pub parts : bytes ≡ sent ++ unsent
  pub proper : unsent ≢ []
  pub grew : Grew old new sent

-- why not all was sent
abbrev pub SendStops : LinkView → LinkView → SendFault → Type 0
SendStops old new Failed = Rose old.faults new.faults × (new.stopped ≡ old.stopped)
SendStops old new Stopped = (new.stopped ≡ true) × Still old.faults new.faults
SendStops old new Memory = (new.stopped ≡ old.stopped) × Still old.faults new.faults
