-- The places of a reader of replies.
use Rattle.std.specs.Prelude.{ℕ, ◌≡◌, ◌≤◌, ◌+◌, List, [], ◌++◌, length}
use Rattle.farm_types.specs.declared.ran.Outcome.{Outcome}
use Rattle.wire_tokens.specs.declared.faults.ReplyFault.{ReplyFault}
use Rattle.wire_tokens.specs.Format.{Field}
use Rattle.wire_tokens.specs.Reply.{BeginsReply, ReplyFaultStands, IsShortReply}
use Rattle.reply_stream.specs.declared.reader.State.{State}
use Rattle.reply_stream.specs.declared.reader.State.TheVariants as states
use Rattle.reply_stream.specs.declared.answers.Part.{Part}
use Rattle.reply_stream.specs.declared.answers.Part.TheVariants.{More, Whole, Bad, Memory}
use Rattle.reply_stream.specs.Objects.{with_object, spanned, IsSpan, object_so_far}
use Rattle.reply_stream.specs.Taking.{fields_of, bytes_of, IsReading, Holds}

-- Some fields have come, some bytes of the next one, and after these that many of the object's; or the text was refused; or the reader is
-- spent.
pub data Place : Type 0 where
  reading : List Field → List ℕ → ℕ → Place
  refused : ℕ → ReplyFault → Place
  spent : Place

-- A reader that was given this text, in whatever pieces, may be at this place. The spans of these pieces join to the object's bytes so far.
abbrev pub IsAt : Place → List ℕ → List ℕ → Type 0
IsAt (reading fields bytes given) text object = IsReading fields bytes given text object
IsAt (refused at fault) text object = ReplyFaultStands text at fault
IsAt spent text object = ⊥

abbrev pub IsSpent : Place → Type 0
IsSpent (reading fields bytes given) = ⊥
IsSpent (refused at fault) = ⊥
IsSpent spent = Unit {0}

-- How much of the piece is used, and that the span lies in it. A whole reply comes without its object.
abbrev pub Uses : List ℕ → Part → Type 0
Uses piece (More used span) = (used ≡ length piece) × IsSpan span used
Uses piece (Whole used span o) = (used ≤ length piece) × IsSpan span used × (o.object ≡ [])
Uses piece (Bad at fault) = Unit {0}
Uses piece Memory = Unit {0}

-- What a part says of the text that was given and the piece after it, with the object's bytes before and in this piece.
abbrev pub Says : List ℕ → List ℕ → List ℕ → Part → Type 0
Says text object piece (More used span) = IsShortReply (text ++ piece)
Says text object piece (Whole used span o) = BeginsReply (text ++ piece) (length text + used) (with_object o (object ++ spanned span piece))
Says text object piece (Bad at fault) = ReplyFaultStands (text ++ piece) at fault
Says text object piece Memory = Unit {0}

-- If more has to come, the spans so far join to the object's bytes that are in all that came.
abbrev pub Joins : List ℕ → List ℕ → List ℕ → Part → Type 0
Joins text object piece (More used span) = object ++ spanned span piece ≡ object_so_far (text ++ piece)
Joins text object piece (Whole used span o) = Unit {0}
Joins text object piece (Bad at fault) = Unit {0}
Joins text object piece Memory = Unit {0}

-- The part is a whole reply with that many bytes of the piece, of this outcome once the spans are joined, unless memory ran out.
abbrev pub IsWholeWith : List ℕ → List ℕ → ℕ → Outcome → Part → Type 0
IsWholeWith object piece used o (More n span) = ⊥
IsWholeWith object piece used o (Whole n span p) = (n ≡ used) × (with_object p (object ++ spanned span piece) ≡ o)
IsWholeWith object piece used o (Bad at fault) = ⊥
IsWholeWith object piece used o Memory = Unit {0}

-- The part is this fault, unless memory ran out.
abbrev pub IsBadAt : ℕ → ReplyFault → Part → Type 0
IsBadAt at fault (More n span) = ⊥
IsBadAt at fault (Whole n span p) = ⊥
IsBadAt at fault (Bad i f) = (i ≡ at) × (f ≡ fault)
IsBadAt at fault Memory = Unit {0}

-- The part is that more has to come, unless memory ran out.
abbrev pub IsMore : Part → Type 0
IsMore (More n span) = Unit {0}
IsMore (Whole n span p) = ⊥
IsMore (Bad i f) = ⊥
IsMore Memory = Unit {0}

-- The place of the reader after this part.
abbrev pub Leaves : List ℕ → List ℕ → List ℕ → Part → Place → Type 0
Leaves text object piece (More used span) place = IsAt place (text ++ piece) (object ++ spanned span piece)
Leaves text object piece (Whole used span o) place = place ≡ spent
Leaves text object piece (Bad at fault) place = place ≡ refused at fault
Leaves text object piece Memory place = place ≡ spent

-- A reader that refused refuses again, and stays as it is.
abbrev pub Repeats : Place → Part → Place → Type 0
Repeats (reading fields bytes given) part after = Unit {0}
Repeats (refused at fault) part after = (part ≡ Bad at fault) × (after ≡ refused at fault)
Repeats spent part after = Unit {0}

-- the place of a reader in this state
abbrev pub place_of : State → Place
place_of (states.Reading p) = reading (fields_of p) (bytes_of p) p.given
place_of (states.Refused at fault) = refused at fault
place_of states.Spent = spent

-- what has come of a reply is as reading keeps it
abbrev pub IsSound : State → Type 0
IsSound (states.Reading p) = Holds p
IsSound (states.Refused at fault) = Unit {0}
IsSound states.Spent = Unit {0}
