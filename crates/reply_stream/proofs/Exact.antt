-- A part that is right is the only one.
use Rattle.std.proofs.Common.{ℕ, ◌+◌, ◌-◌, List, ◌++◌, length, arith}
use Rattle.farm_types.specs.declared.ran.Outcome.{Outcome}
use Rattle.wire_tokens.specs.declared.faults.ReplyFault.{ReplyFault}
use Rattle.wire_tokens.specs.Reply.{BeginsReply, ReplyFaultStands, IsShortReply}
use Rattle.wire_tokens.proofs.ReplyLaws.{one_value, one_fault, spelled_or_fault}
use Rattle.reply_stream.specs.declared.answers.Part.{Part}
use Rattle.reply_stream.specs.declared.answers.Part.TheVariants.{More, Whole, Bad, Memory}
use Rattle.reply_stream.specs.Objects.{with_object, spanned}
use Rattle.reply_stream.specs.Reader.{Says, IsWholeWith, IsBadAt, IsMore}

pub only_whole : (text object piece : List ℕ) (part : Part) → Says text object piece part → (used : ℕ) (o : Outcome)
    → BeginsReply (text ++ piece) used o → IsWholeWith object piece (used - length text) o part
only_whole text object piece (More n span) s used o b = s.no_value used o b
only_whole text object piece (Whole n span p) s used o b =
    let z = one_value (text ++ piece) (length text + n) used (with_object p (object ++ spanned span piece)) o s b in
    (omega (arith, z.0), z.1)
only_whole text object piece (Bad at fault) s used o b = spelled_or_fault (text ++ piece) used at o fault b s
only_whole text object piece Memory s used o b = tt

pub only_bad : (text object piece : List ℕ) (part : Part) → Says text object piece part → (at : ℕ) (fault : ReplyFault)
    → ReplyFaultStands (text ++ piece) at fault → IsBadAt at fault part
only_bad text object piece (More n span) s at fault t = s.no_fault at fault t
only_bad text object piece (Whole n span p) s at fault t =
    spelled_or_fault (text ++ piece) (length text + n) at (with_object p (object ++ spanned span piece)) fault s t
only_bad text object piece (Bad i f) s at fault t = one_fault (text ++ piece) i at f fault s t
only_bad text object piece Memory s at fault t = tt

pub only_more : (text object piece : List ℕ) (part : Part) → Says text object piece part → IsShortReply (text ++ piece) → IsMore part
only_more text object piece (More n span) s h = tt
only_more text object piece (Whole n span p) s h = h.no_value (length text + n) (with_object p (object ++ spanned span piece)) s
only_more text object piece (Bad i f) s h = h.no_fault i f s
only_more text object piece Memory s h = tt
