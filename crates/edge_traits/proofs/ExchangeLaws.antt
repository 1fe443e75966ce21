-- An exchange is read in one way.
use Rattle.std.proofs.Common.{◌≡◌, ◌∙◌, true, false, [], sym}
use Rattle.std.proofs.lemmas.List.{append-nil, append_cancel_left}
use Rattle.farm_types.specs.declared.request.Request.{Request}
use Rattle.farm_types.specs.declared.ran.Outcome.{Outcome}
use Rattle.farm_types.specs.declared.hosts.Host.{Host}
use Rattle.wire_tokens.proofs.ReplyLaws.{one_value, spelled_or_fault}
use Rattle.wire_tokens.specs.Request.{request_text}
use Rattle.edge_traits.specs.declared.entries.Exchange.{Exchange}
use Rattle.edge_traits.specs.declared.cause.Cause.{Cause}
use Rattle.edge_traits.specs.declared.cause.Cause.TheVariants.{Dial, Send, Recv, Truncated, BadReply, Stopped}
use Rattle.edge_traits.specs.Exchanges.{IsWhole, IsBroken, ShowsCause, CutRequest, CutReply}

-- a request that was sent whole wasn't cut
whole_or_cut : (x : Exchange) (q : Request) → x.sent ≡ request_text q → CutRequest x q → ⊥
whole_or_cut x q sent cut = cut.proper (append_cancel_left x.sent cut.unsent [] (sym cut.prefix ∙ sym sent ∙ sym (append-nil x.sent)))

-- a reply that was given whole isn't short
whole_or_short : (x : Exchange) (q : Request) (h : Host) (o : Outcome) → IsWhole x q h o → CutReply x q → ⊥
whole_or_short x q h o whole cut = cut.short.no_value whole.used o whole.spelled

shown : (x : Exchange) (q : Request) (h : Host) (o : Outcome) (c : Cause) → IsWhole x q h o → ShowsCause x q c → ⊥
shown x q h o Dial whole shows = let unlike : true ≡ false = sym whole.dialed ∙ shows.undialed in cc
shown x q h o Send whole shows = whole_or_cut x q whole.sent shows.0
shown x q h o Stopped whole shows = whole_or_cut x q whole.sent shows.0
shown x q h o Recv whole shows = whole_or_short x q h o whole shows.0
shown x q h o (Truncated have) whole shows = whole_or_short x q h o whole shows.0
shown x q h o (BadReply at fault) whole shows = spelled_or_fault x.given whole.used at o fault whole.spelled shows.1

-- an exchange that gave a whole reply isn't broken
pub whole_or_broken : (x : Exchange) (q : Request) (h : Host) (o : Outcome) (c : Cause) → IsWhole x q h o → IsBroken x q h c → ⊥
whole_or_broken x q h o c whole broken = shown x q h o c whole broken.shown

-- an exchange gave one outcome
pub one_outcome : (x : Exchange) (q : Request) (h : Host) (o p : Outcome) → IsWhole x q h o → IsWhole x q h p → o ≡ p
one_outcome x q h o p first second = (one_value x.given first.used second.used o p first.spelled second.spelled).1
