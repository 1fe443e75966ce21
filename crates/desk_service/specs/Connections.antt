-- What the connections of a desk's callers record.
use Rattle.std.specs.Prelude.{ℕ, List, [], ◌∷◌}
use Rattle.slot_desk.specs.declared.event.Loan.{Loan}
use Rattle.slot_desk.specs.declared.event.Reply.{Reply}
use Rattle.slot_desk.specs.declared.event.Reply.TheVariants.{Nobody, Lent, Alone, Within}
use Rattle.desk_service.specs.declared.callers.Came.{Came}
use Rattle.desk_service.specs.declared.callers.Came.TheVariants.{Line, Left, Time, Ended}

-- an entry of their log: a caller said a line at a moment, or is gone; it was answered, or its connection was closed
pub data Entry : Type 0 where
  Said : ℕ → List ℕ → ℕ → Entry
  Gone : ℕ → Entry
  Given : Loan → Entry
  SentAlone : ℕ → Entry
  SentWithin : ℕ → Entry
  Closed : ℕ → Entry

-- what comes is recorded; that time passes, and that the command has ended, isn't
abbrev pub came_entries : Came → List Entry
came_entries (Line caller line now) = Said caller line.items now ∷ []
came_entries (Left caller now) = Gone caller ∷ []
came_entries (Time now) = []
came_entries Ended = []

abbrev pub reply_entries : Reply → List Entry
reply_entries Nobody = []
reply_entries (Lent loan) = Given loan ∷ []
reply_entries (Alone caller) = SentAlone caller ∷ []
reply_entries (Within caller) = SentWithin caller ∷ []
