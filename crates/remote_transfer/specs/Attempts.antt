-- What an attempt added to the exchanges that a dialer shows, by its answer.
use Rattle.std.specs.Prelude.{◌≡◌, ℕ, Bool, true, false, IsTrue, List, [], ◌∷◌}
use Rattle.farm_types.specs.declared.request.Request.{Request}
use Rattle.farm_types.specs.declared.hosts.Host.{Host}
use Rattle.edge_traits.specs.declared.entries.Exchange.{Exchange}
use Rattle.edge_traits.specs.declared.cause.Cause.TheVariants.{Dial, Send, Recv, Truncated, Stopped}
use Rattle.edge_traits.specs.Told.{Told, Grew}
use Rattle.edge_traits.specs.Causes.{Rose, Still}
use Rattle.edge_traits.specs.Exchanges.{IsBegun, IsWhole, IsBroken}
use Rattle.remote_transfer.specs.declared.answers.Attempt.{Attempt}
use Rattle.remote_transfer.specs.declared.answers.Attempt.TheVariants.{Whole, Broke, Memory}

-- What the exchange is for the request and the host: whole with the outcome, broken by the cause, or begun if memory ran out
-- after the dial.
abbrev pub ExchangeIs : Request → Host → Attempt → Exchange → Type 0
ExchangeIs q h (Whole outcome) x = IsWhole x q h outcome
ExchangeIs q h (Broke cause) x = IsBroken x q h cause
ExchangeIs q h (Memory dialed) x = IsBegun x q h × (x.dialed ≡ true)

abbrev pub is_truncated : Attempt → Bool
is_truncated (Broke (Truncated have)) = true
is_truncated other = false

abbrev pub is_stopped : Attempt → Bool
is_stopped (Broke Stopped) = true
is_stopped other = false

abbrev pub is_failed : Attempt → Bool
is_failed (Broke Send) = true
is_failed (Broke Recv) = true
is_failed other = false

-- The link gave its end exactly if the answer says so, and a send took no byte exactly if the answer says so. If the
-- answer isn't that a send or a receive failed, none did.
pub record EndsBy (answer : Attempt) (x : Exchange) : Type 0 where
  pub ended : x.ended ≡ is_truncated answer
  pub stopped : x.stopped ≡ is_stopped answer
  pub faults : is_failed answer ≡ false → x.faults ≡ 0

-- There was an exchange of which this holds. If the list is told, it is the one new entry, and if it was dialed its peer may
-- have given what it gave.
pub record Adds (may_give : List ℕ → List ℕ → Type 0) (old new : Told (List Exchange)) (holds : Exchange → Type 0) : Type 0 where
  pub entry : Exchange
  pub grew : Grew old new (entry ∷ [])
  pub is : holds entry
  pub may : IsTrue new.known → entry.dialed ≡ true → may_give entry.sent entry.given

-- Exactly one exchange, which the answer describes; none if memory ran out before the dial had succeeded.
abbrev pub AttemptAdds : (List ℕ → List ℕ → Type 0) → Request → Host → Attempt → Told (List Exchange) → Told (List Exchange) → Type 0
AttemptAdds may_give q h (Memory false) old new = Grew old new []
AttemptAdds may_give q h answer old new = Adds may_give old new (λ x. ExchangeIs q h answer x × EndsBy answer x)

-- A dial that failed goes with a rise of the dialer's count, and no other answer does.
abbrev pub DialCause : Attempt → ℕ → ℕ → Type 0
DialCause (Broke Dial) before now = Rose before now
DialCause other before now = Still before now
