-- What came of one piece of a reply. The contracts of the parts of an attempt cite this.
use Rattle.std.specs.Prelude.{◌≡◌, ℕ, ◌<◌, ◌≤◌, true, List, [], ◌++◌, length, Option, Some, None, Result, Ok, Err}
use Rattle.farm_types.specs.declared.ran.Outcome.{Outcome}
use Rattle.wire_tokens.specs.Reply.{BeginsReply, IsShortReply, ReplyFaultStands}
use Rattle.edge_traits.specs.declared.cause.Cause.TheVariants.{Recv, Truncated, BadReply}
use Rattle.edge_traits.specs.Told.{Grew}
use Rattle.edge_traits.specs.Causes.{Rose, Still}
use Rattle.edge_traits.specs.Links.{LinkView}
use Rattle.reply_stream.specs.Objects.{with_object, spanned, IsSpan, object_so_far}
use Rattle.reply_stream.specs.Reader.{Place, IsAt}
use Rattle.remote_transfer.specs.declared.receiving.Brought.{Brought}
use Rattle.remote_transfer.specs.declared.receiving.Brought.TheVariants.{More, Whole}
use Rattle.remote_transfer.specs.Links.{Given, ReplyIs}
use Rattle.remote_transfer.specs.declared.answers.Stop.{Stop}
use Rattle.remote_transfer.specs.declared.answers.Stop.TheVariants.{Broke, Memory}

-- after a piece: more has to come, or the reply is whole, with the object's bytes so far
abbrev pub Comes : List ℕ → List ℕ → Place → Option Outcome → Type 0
Comes text object after None = IsShortReply text × IsAt after text object × (object ≡ object_so_far text)
Comes text object after (Some o) = (o.object ≡ []) × ((used : ℕ) × BeginsReply text used (with_object o object))

-- a piece was given, in which these are the object's next bytes
pub record PieceRead (old new : LinkView) (before after : Place) (count : ℕ) (bytes : List ℕ) (outcome : Option Outcome) : Type 0 where
  pub piece : List ℕ
  pub long : length piece ≡ count
  pub some : 0 < count
  pub grew : Grew old.given new.given piece
  pub ended : new.ended ≡ old.ended
  pub still : Still old.faults new.faults
  pub read : (text object : List ℕ) → IsAt before text object → Comes (text ++ piece) (object ++ bytes) after outcome

-- What a piece brought, which is in the room.
abbrev pub PieceBrought : LinkView → LinkView → Place → Place → List ℕ → Brought → Type 0
PieceBrought old new before after room (More count span) = IsSpan span (length room) × (count ≤ length room)
    × PieceRead old new before after count (spanned span room) None
PieceBrought old new before after room (Whole span o) =
    IsSpan span (length room) × ((count : ℕ) × PieceRead old new before after count (spanned span room) (Some o))

-- A reply was received, whose object is this if it is whole.
abbrev pub Received : Result Outcome Stop → List ℕ → LinkView → LinkView → Type 0
Received (Ok o) object old new = (o.object ≡ []) × Given (ReplyIs (Ok (with_object o object)) old new) old.given new.given
Received (Err stop) object old new = Given (ReplyIs (Err stop) old new) old.given new.given

-- why no piece was read, after that many bytes
abbrev pub PieceStops : ℕ → Place → LinkView → LinkView → Stop → Type 0
PieceStops have before old new (Broke Recv) = Grew old.given new.given [] × Rose old.faults new.faults × (new.ended ≡ old.ended)
PieceStops have before old new (Broke (Truncated bytes)) = Grew old.given new.given [] × (have ≡ bytes) × (new.ended ≡ true)
    × Still old.faults new.faults
PieceStops have before old new (Broke (BadReply at fault)) =
    ((piece : List ℕ) × Grew old.given new.given piece
    × ((text object : List ℕ) → IsAt before text object → ReplyFaultStands (text ++ piece) at fault)) × (new.ended ≡ old.ended)
    × Still old.faults new.faults
PieceStops have before old new (Broke other) = ⊥
PieceStops have before old new Memory = ((piece : List ℕ) × Grew old.given new.given piece) × (new.ended ≡ old.ended)
    × Still old.faults new.faults
