-- What an exchange says of a request: begun, whole or broken.
use Rattle.std.specs.Prelude.{◌≡◌, ◌≢◌, ℕ, ◌<◌, true, false, List, [], ◌++◌, length}
use Rattle.farm_types.specs.declared.request.Request.{Request}
use Rattle.farm_types.specs.declared.ran.Outcome.{Outcome}
use Rattle.farm_types.specs.declared.hosts.Host.{Host}
use Rattle.wire_tokens.specs.Request.{request_text}
use Rattle.wire_tokens.specs.Reply.{BeginsReply, ReplyFaultStands, IsShortReply}
use Rattle.edge_traits.specs.declared.entries.Exchange.{Exchange}
use Rattle.edge_traits.specs.declared.cause.Cause.{Cause}
use Rattle.edge_traits.specs.declared.cause.Cause.TheVariants.{Dial, Send, Recv, Truncated, BadReply, Stopped}

-- the exchange is with this host, and what was sent is a prefix of the request's text
pub record IsBegun (x : Exchange) (q : Request) (h : Host) : Type 0 where
  pub host : x.host ≡ h.name
  pub port : x.port ≡ h.port
  pub unsent : List ℕ
  pub prefix : request_text q ≡ x.sent ++ unsent

-- the whole request was sent, and a prefix of what was given spells the outcome
pub record IsWhole (x : Exchange) (q : Request) (h : Host) (o : Outcome) : Type 0 where
  pub begun : IsBegun x q h
  pub dialed : x.dialed ≡ true
  pub sent : x.sent ≡ request_text q
  pub used : ℕ
  pub spelled : BeginsReply x.given used o

-- nothing passed, since there was no link
pub record NoLink (x : Exchange) : Type 0 where
  pub undialed : x.dialed ≡ false
  pub sent : x.sent ≡ []
  pub given : x.given ≡ []

-- the sending ended before the whole request was sent
pub record CutRequest (x : Exchange) (q : Request) : Type 0 where
  pub dialed : x.dialed ≡ true
  pub unsent : List ℕ
  pub prefix : request_text q ≡ x.sent ++ unsent
  pub proper : unsent ≢ []
  pub given : x.given ≡ []

-- the whole request was sent, and what was given is short
pub record CutReply (x : Exchange) (q : Request) : Type 0 where
  pub sent : x.sent ≡ request_text q
  pub short : IsShortReply x.given

-- what the exchange shows of its cause
abbrev pub ShowsCause : Exchange → Request → Cause → Type 0
ShowsCause x q Dial = NoLink x
ShowsCause x q Send = CutRequest x q × (0 < x.faults)
ShowsCause x q Stopped = CutRequest x q × (x.stopped ≡ true)
ShowsCause x q Recv = CutReply x q × (0 < x.faults)
ShowsCause x q (Truncated have) = CutReply x q × (length x.given ≡ have) × (x.ended ≡ true)
ShowsCause x q (BadReply at fault) = (x.sent ≡ request_text q) × ReplyFaultStands x.given at fault

-- the exchange was begun, and is broken by this cause
pub record IsBroken (x : Exchange) (q : Request) (h : Host) (c : Cause) : Type 0 where
  pub begun : IsBegun x q h
  pub shown : ShowsCause x q c
