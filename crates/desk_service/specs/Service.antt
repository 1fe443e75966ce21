-- What the desk hears from its connections, and what it says to them.
use Rattle.std.specs.Prelude.{◌≡◌, ℕ, Bool, true, false, List, [], ◌∷◌, ◌++◌, if◌then◌else◌, Option, Some, None, is_some, find}
use Rattle.std.specs.List.{cons_option, list_any}
use Rattle.edge_traits.specs.Told.{Grew, Told}
use Rattle.desk_words.specs.declared.asking.Asked.{Asked}
use Rattle.desk_words.specs.declared.asking.Asked.TheVariants as asking
use Rattle.desk_words.specs.declared.told.Told.{Told as Telling}
use Rattle.desk_words.specs.declared.told.Told.TheVariants as telling
use Rattle.desk_words.specs.Lines.{greeting_named, told_named}
use Rattle.slot_desk.specs.declared.event.Event.{Event}
use Rattle.slot_desk.specs.declared.event.Event.TheVariants.{Ask, AskLocal, AskWithin, Done, Broke, Lost, Next}
use Rattle.slot_desk.specs.declared.event.Reply.{Reply}
use Rattle.slot_desk.specs.declared.event.Reply.TheVariants.{Nobody, Lent, Alone, Within}
use Rattle.slot_desk.specs.Desk.{Rules, State, is_of, waits_as, is_known, desk_step}
use Rattle.slot_desk.specs.Runs.{after}
use Rattle.desk_service.specs.declared.callers.Came.{Came}
use Rattle.desk_service.specs.declared.callers.Came.TheVariants.{Line, Left, Time, Ended}
use Rattle.desk_service.specs.Connections.{Entry, Closed, came_entries, reply_entries}

-- ---- what a line means

-- of a caller that isn't known: it asks by a greeting, and by no other line
abbrev pub ask_event : ℕ → Option Asked → Option Event
ask_event caller None = None
ask_event caller (Some asking.Hosts) = Some (Ask caller)
ask_event caller (Some asking.Local) = Some (AskLocal caller)
ask_event caller (Some asking.Within) = Some (AskWithin caller)

-- of a caller that has a loan: it ends it; by a line that reports nothing it is lost
abbrev pub end_event : ℕ → ℕ → Option Telling → Event
end_event caller now None = Lost caller
end_event caller now (Some telling.Done) = Done caller
end_event caller now (Some telling.Broke) = Broke caller now

-- a caller that waits has nothing to say: by any line it is lost
abbrev pub line_event : {h : ℕ} → List ℕ → State h → ℕ → List ℕ → ℕ → Option Event
line_event token v caller line now =
    if is_some (find (is_of caller) v.lent) then Some (end_event caller now (told_named line))
    else (if list_any (waits_as caller) v.waiting then Some (Lost caller)
    else ask_event caller (greeting_named token line))

-- ---- turns

-- something came, or the desk was asked who is next at a moment
pub data Turn : Type 0 where
  Heard : Came → Turn
  Looked : ℕ → Turn

abbrev pub event_of : {h : ℕ} → List ℕ → State h → Turn → Option Event
event_of token v (Heard (Line caller line now)) = line_event token v caller line.items now
event_of token v (Heard (Left caller now)) = Some (Lost caller)
event_of token v (Heard (Time now)) = None
event_of token v (Heard Ended) = None
event_of token v (Looked now) = Some (Next now)

abbrev pub stepped : {h : ℕ} → Rules h → State h → Option Event → State h × Reply
stepped r v None = (v, Nobody)
stepped r v (Some e) = desk_step r v e

-- the desk after a turn
abbrev pub state_then : {h : ℕ} → Rules h → List ℕ → State h → Turn → State h
state_then r token v turn = (stepped r v (event_of token v turn)).0

abbrev pub reply_then : {h : ℕ} → Rules h → List ℕ → State h → Turn → Reply
reply_then r token v turn = (stepped r v (event_of token v turn)).1

abbrev pub heard_entries : Turn → List Entry
heard_entries (Heard came) = came_entries came
heard_entries (Looked now) = []

-- whoever said a line, and isn't known to the desk then, is closed
abbrev pub closing : {h : ℕ} → State h → Turn → List Entry
closing v (Heard (Line caller line now)) = if is_known v caller then [] else Closed caller ∷ []
closing v (Heard (Left caller now)) = []
closing v (Heard (Time now)) = []
closing v (Heard Ended) = []
closing v (Looked now) = []

-- what the connections record of a turn: what came, then exactly what the desk answers, then what is closed
abbrev pub turn_entries : {h : ℕ} → Rules h → List ℕ → State h → Turn → List Entry
turn_entries r token v turn =
    heard_entries turn ++ (reply_entries (reply_then r token v turn) ++ closing (state_then r token v turn) turn)

-- ---- runs

-- the events that the desk is fed with
abbrev pub events_in : {h : ℕ} → Rules h → List ℕ → State h → List Turn → List Event
events_in r token v [] = []
events_in r token v (t ∷ ts) = cons_option (event_of token v t) (events_in r token (state_then r token v t) ts)

-- what the connections record
abbrev pub entries_in : {h : ℕ} → Rules h → List ℕ → State h → List Turn → List Entry
entries_in r token v [] = []
entries_in r token v (t ∷ ts) = turn_entries r token v t ++ entries_in r token (state_then r token v t) ts

-- whether the desk has to be asked who is next: after whatever came, and after one who was given a place
abbrev pub is_lent : Reply → Bool
is_lent (Lent loan) = true
is_lent Nobody = false
is_lent (Alone caller) = false
is_lent (Within caller) = false

abbrev pub due_then : {h : ℕ} → Rules h → List ℕ → State h → Turn → Bool
due_then r token v (Heard came) = true
due_then r token v (Looked now) = is_lent (reply_then r token v (Looked now))

-- nothing is heard while that is due
abbrev pub MayCome : Bool → Turn → Type 0
MayCome true (Heard came) = ⊥
MayCome false (Heard came) = Unit {0}
MayCome due (Looked now) = Unit {0}

-- what comes next is heard only when nobody more can be given a place
abbrev pub IsFair : {h : ℕ} → Rules h → List ℕ → Bool → State h → List Turn → Type 0
IsFair r token due v [] = Unit {0}
IsFair r token due v (t ∷ ts) = MayCome due t × IsFair r token (due_then r token v t) (state_then r token v t) ts

-- The desk was fed with exactly the events that its connections gave, and exactly its answers were sent to them. A new connection was heard only if nobody
-- more could be given a place.
pub record Served {h : ℕ} (r : Rules h) (token : List ℕ) (v v' : State h) (log log' : Told (List Entry)) : Type 0 where
  pub turns : List Turn
  pub state : v' ≡ after r v (events_in r token v turns)
  pub recorded : Grew log log' (entries_in r token v turns)
  pub fair : IsFair r token false v turns

-- one turn
pub record Turned {h : ℕ} (r : Rules h) (token : List ℕ) (v v' : State h) (log log' : Told (List Entry)) (turn : Turn) : Type 0 where
  pub state : v' ≡ state_then r token v turn
  pub recorded : Grew log log' (turn_entries r token v turn)

-- the turn in which a caller says a line
pub record HeardLine {h : ℕ} (r : Rules h) (token : List ℕ) (v v' : State h) (log log' : Told (List Entry)) (caller : ℕ) (line : List ℕ) (now : ℕ)
    : Type 0 where
  pub state : v' ≡ (stepped r v (line_event token v caller line now)).0
  pub recorded : Grew log log' (reply_entries (stepped r v (line_event token v caller line now)).1
      ++ (if is_known (stepped r v (line_event token v caller line now)).0 caller then [] else Closed caller ∷ []))
