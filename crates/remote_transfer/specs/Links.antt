-- What was sent and given over a link. The contracts of the parts of an attempt cite this.
use Rattle.std.specs.Prelude.{◌≡◌, ℕ, ◌≤◌, true, List, [], length, Result, Ok, Err}
use Rattle.farm_types.specs.declared.request.Request.{Request}
use Rattle.farm_types.specs.declared.ran.Outcome.{Outcome}
use Rattle.farm_types.specs.declared.hosts.Host.{Host}
use Rattle.wire_tokens.specs.Request.{request_text}
use Rattle.wire_tokens.specs.Reply.{BeginsReply, IsShortReply, ReplyFaultStands}
use Rattle.edge_traits.specs.declared.entries.Exchange.{Exchange}
use Rattle.edge_traits.specs.declared.cause.Cause.TheVariants.{Recv, Truncated, BadReply}
use Rattle.edge_traits.specs.Told.{Told, Grew}
use Rattle.edge_traits.specs.Causes.{Rose, Still}
use Rattle.edge_traits.specs.Links.{LinkView}
use Rattle.remote_transfer.specs.declared.answers.Stop.{Stop}
use Rattle.remote_transfer.specs.declared.answers.Stop.TheVariants.{Broke, Memory}

-- what the bytes that were given are to the result, whether the link gave its end, and whether a receive failed
abbrev pub ReplyIs : Result Outcome Stop → LinkView → LinkView → List ℕ → Type 0
ReplyIs (Ok outcome) old new given = ((used : ℕ) × BeginsReply given used outcome) × (new.ended ≡ old.ended) × Still old.faults new.faults
ReplyIs (Err (Broke Recv)) old new given = IsShortReply given × Rose old.faults new.faults × (new.ended ≡ old.ended)
ReplyIs (Err (Broke (Truncated have))) old new given = IsShortReply given × (length given ≡ have) × (new.ended ≡ true)
    × Still old.faults new.faults
ReplyIs (Err (Broke (BadReply at fault))) old new given = ReplyFaultStands given at fault × (new.ended ≡ old.ended)
    × Still old.faults new.faults
ReplyIs (Err (Broke other)) old new given = ⊥
ReplyIs (Err Memory) old new given = (new.ended ≡ old.ended) × Still old.faults new.faults

-- bytes were given of which this holds
pub record Given (holds : List ℕ → Type 0) (old new : Told (List ℕ)) : Type 0 where
  pub bytes : List ℕ
  pub grew : Grew old new bytes
  pub is : holds bytes

-- What a link is after calls that only receive: nothing was sent, and no send took nothing. It stays one of its dialer, and its count didn't
-- fall.
pub record OnlyReceives {L : Type 0} (shows : L → LinkView) (Follows : L → L → Type 0) (old new : L) : Type 0 where
  pub sent : Grew (shows old).sent (shows new).sent []
  pub stopped : (shows new).stopped ≡ (shows old).stopped
  pub follows : Follows old new
  pub later : (shows old).faults ≤ (shows new).faults

-- the text is the request's, and the link is to the host
pub record IsFor (q : Request) (h : Host) (text : List ℕ) (link : LinkView) : Type 0 where
  pub spelled : text ≡ request_text q
  pub host : link.origin.host ≡ h.name
  pub port : link.origin.port ≡ h.port

-- the entry of a link over which this was sent and given
abbrev pub entry_of : LinkView → List ℕ → List ℕ → Exchange
entry_of link sent given =
    record {
      host = link.origin.host;
      port = link.origin.port;
      dialed = true;
      sent = sent;
      given = given;
      ended = link.ended;
      stopped = link.stopped;
      faults = link.faults;
    }

-- What passed over a link, as an entry of which this holds. What the link shows of its past grew by it.
pub record Passed (old new : LinkView) (holds : Exchange → Type 0) : Type 0 where
  pub sent : List ℕ
  pub given : List ℕ
  pub grew_sent : Grew old.sent new.sent sent
  pub grew_given : Grew old.given new.given given
  pub is : holds (entry_of new sent given)
