-- The state of a reader of requests.
use Rattle.std.specs.Prelude.{ℕ, ◌≡◌, ◌≤◌, ◌+◌, List, ◌++◌, length}
use Rattle.wire_tokens.specs.declared.faults.RequestFault.{RequestFault}
use Rattle.wire_tokens.specs.Format.{Field, Progress}
use Rattle.wire_tokens.specs.Request.{request_format, BeginsRequest, RequestFaultStands, IsShortRequest}
use Rattle.compile_request.specs.declared.reader.State.{State}
use Rattle.compile_request.specs.declared.reader.State.TheVariants as states
use Rattle.compile_request.specs.declared.reader.Step.{Step}
use Rattle.compile_request.specs.declared.reader.Step.TheVariants.{More, Whole, Bad, Memory}
use Rattle.compile_request.specs.Taking.{fields_of, bytes_of, Holds}

-- Some fields have come, and some bytes of the next one; or the text was refused; or the reader is spent.
pub data Place : Type 0 where
  reading : List Field → List ℕ → Place
  refused : ℕ → RequestFault → Place
  spent : Place

-- a reader that was given this text, in whatever pieces, may be at this place
abbrev pub IsAt : Place → List ℕ → Type 0
IsAt (reading fields bytes) text = Progress request_format text fields bytes
IsAt (refused at fault) text = RequestFaultStands text at fault
IsAt spent text = ⊥

abbrev pub IsSpent : Place → Type 0
IsSpent (reading fields bytes) = ⊥
IsSpent (refused at fault) = ⊥
IsSpent spent = Unit {0}

-- What a step says of the text that was given and the piece after it.
abbrev pub Says : List ℕ → List ℕ → Step → Type 0
Says text piece More = IsShortRequest (text ++ piece)
Says text piece (Whole q used) = (used ≤ length piece) × BeginsRequest (text ++ piece) (length text + used) q
Says text piece (Bad at fault) = RequestFaultStands (text ++ piece) at fault
Says text piece Memory = Unit {0}

-- The step is this one, unless memory ran out.
abbrev pub IsUnlessMemory : Step → Step → Type 0
IsUnlessMemory More step = More ≡ step
IsUnlessMemory (Whole q used) step = Whole q used ≡ step
IsUnlessMemory (Bad at fault) step = Bad at fault ≡ step
IsUnlessMemory Memory step = Unit {0}

-- The state in which the step leaves the reader.
abbrev pub Leaves : List ℕ → List ℕ → Step → Place → Type 0
Leaves text piece More place = IsAt place (text ++ piece)
Leaves text piece (Whole q used) place = place ≡ spent
Leaves text piece (Bad at fault) place = place ≡ refused at fault
Leaves text piece Memory place = place ≡ spent

-- A reader that refused refuses again, and stays as it is.
abbrev pub Repeats : Place → Step → Place → Type 0
Repeats (reading fields bytes) step after = Unit {0}
Repeats (refused at fault) step after = (step ≡ Bad at fault) × (after ≡ refused at fault)
Repeats spent step after = Unit {0}

-- the place of a reader in this state
abbrev pub place_of : State → Place
place_of (states.Reading p) = reading (fields_of p) (bytes_of p)
place_of (states.Refused at fault) = refused at fault
place_of states.Spent = spent

-- what has come of a request is as reading keeps it
abbrev pub IsSound : State → Type 0
IsSound (states.Reading p) = Holds p
IsSound (states.Refused at fault) = Unit {0}
IsSound states.Spent = Unit {0}
