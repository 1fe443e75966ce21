-- An answer that is right is the only one.
use Rattle.std.proofs.Common.{◌≡◌, ℕ, List, refl, ap, ◌∙◌}
use Rattle.farm_types.specs.declared.ran.Outcome.{Outcome}
use Rattle.wire_tokens.specs.declared.faults.ReplyFault.{ReplyFault}
use Rattle.wire_tokens.specs.Reply.{BeginsReply, IsShortReply, ReplyFaultStands}
use Rattle.wire_tokens.proofs.ReplyLaws.{one_value, one_fault, spelled_or_fault}
use Rattle.compile_reply.specs.declared.decoding.Reply.{Reply}
use Rattle.compile_reply.specs.declared.decoding.Reply.TheVariants.{Whole, Short, Bad, Memory}
use Rattle.compile_reply.specs.Decoding.{Says, IsWholeUnlessMemory}

pub only_whole : (text : List ℕ) (r : Reply) → Says text r → (used : ℕ) (o : Outcome) → BeginsReply text used o
    → IsWholeUnlessMemory o used r
only_whole text (Whole p n) s used o b = let z = one_value text n used p o s b in (z.1, z.0)
only_whole text Short s used o b = s.no_value used o b
only_whole text (Bad at fault) s used o b = spelled_or_fault text used at o fault b s
only_whole text Memory s used o b = tt

pub only_bad : (text : List ℕ) (r : Reply) → Says text r → (at : ℕ) (fault : ReplyFault) → ReplyFaultStands text at fault → r ≡ Bad at fault
only_bad text (Whole p n) s at fault b = absurd (spelled_or_fault text n at p fault s b)
only_bad text Short s at fault b = absurd (s.no_fault at fault b)
only_bad text (Bad i f) s at fault b = let z = one_fault text i at f fault s b in
    ap (λ (k : ℕ). Bad k f) z.0 ∙ ap (λ (x : ReplyFault). Bad at x) z.1
only_bad text Memory s at fault b = absurd (spelled_or_fault text s.used at s.outcome fault s.begins b)

pub only_short : (text : List ℕ) (r : Reply) → Says text r → IsShortReply text → r ≡ Short
only_short text (Whole p n) s h = absurd (h.no_value n p s)
only_short text Short s h = refl
only_short text (Bad i f) s h = absurd (h.no_fault i f s)
only_short text Memory s h = absurd (h.no_value s.used s.outcome s.begins)
