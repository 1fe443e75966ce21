-- The laws of the texts of replies.
use Rattle.std.proofs.Common.{◌≡◌, ℕ, ◌^◌, ◌<◌, ◌≤◌, List, [], ◌++◌, length, refl}
use Rattle.std.specs.Prelude.{◌⊎◌}
use Rattle.farm_types.specs.declared.ran.Outcome.{Outcome}
use Rattle.farm_types.specs.Fits.{OutcomeFits}
use Rattle.wire_tokens.specs.declared.faults.ReplyFault.{ReplyFault}
use Rattle.wire_tokens.specs.Reply.{SpellsReply, reply_text, reply_format, BeginsReply, ReplyFaultStands, IsShortReply}
use Rattle.wire_tokens.proofs.Longer.{stands-longer}
use Rattle.wire_tokens.proofs.Readings.{one_fault as one_standing_fault}
use Rattle.wire_tokens.proofs.Steps.{step-short}
use Rattle.wire_tokens.proofs.Texts as texts
use Rattle.wire_tokens.proofs.Reply.{four_reply, reply_spelling}
use Rattle.wire_tokens.proofs.ReplyBounds.{short_reply_len}
use Rattle.wire_tokens.proofs.Written.{reply_written}

-- A text begins with at most one spelling, which has one value.
pub one_value : (text : List ℕ) (i j : ℕ) (o p : Outcome) → BeginsReply text i o → BeginsReply text j p → (i ≡ j) × (o ≡ p)
one_value = texts.one_value reply_format SpellsReply reply_spelling

-- A spelling has one value.
pub one_meaning : (text : List ℕ) (o p : Outcome) → SpellsReply text o → SpellsReply text p → o ≡ p
one_meaning = texts.one_meaning reply_format SpellsReply reply_spelling

-- No spelling is a proper prefix of another.
pub no_longer_spelling : (text more : List ℕ) (o p : Outcome) → SpellsReply text o → SpellsReply (text ++ more) p → more ≡ []
no_longer_spelling = texts.no_longer_spelling reply_format SpellsReply reply_spelling

-- At most one fault stands in a text.
pub one_fault : (text : List ℕ) (i j : ℕ) (f g : ReplyFault) → ReplyFaultStands text i f → ReplyFaultStands text j g → (i ≡ j) × (f ≡ g)
one_fault = one_standing_fault reply_format four_reply

-- In a text that begins with a spelling no fault stands.
pub spelled_or_fault : (text : List ℕ) (used at : ℕ) (o : Outcome) (fault : ReplyFault) → BeginsReply text used o
    → ReplyFaultStands text at fault → ⊥
spelled_or_fault = texts.spelled_or_fault reply_format SpellsReply reply_spelling

-- A prefix is a spelling, or a fault stands, or the text is short.
pub one_of_three : (text : List ℕ) → ((used : ℕ) × (o : Outcome) × BeginsReply text used o)
    ⊎ (((at : ℕ) × (fault : ReplyFault) × ReplyFaultStands text at fault) ⊎ IsShortReply text)
one_of_three = texts.one_of_three reply_format SpellsReply reply_spelling

-- A fault that stands in a text stands in every longer text, at the same place.
pub fault_longer : (text more : List ℕ) (at : ℕ) (fault : ReplyFault) → ReplyFaultStands text at fault
    → ReplyFaultStands (text ++ more) at fault
fault_longer = stands-longer reply_format four_reply

-- A text that begins with a spelling goes on beginning with it.
pub begins_longer : (text more : List ℕ) (used : ℕ) (o : Outcome) → BeginsReply text used o → BeginsReply (text ++ more) used o
begins_longer = texts.begins-longer SpellsReply

-- A spelling begins each text that it is a prefix of.
pub spelling_begins : (text more : List ℕ) (o : Outcome) → SpellsReply text o → BeginsReply (text ++ more) (length text) o
spelling_begins = texts.spells-begins SpellsReply

-- What is written is read again, whatever follows it.
pub written_again : (o : Outcome) (more : List ℕ) → OutcomeFits o.status o.err o.out o.object → o.status < 2 ^ 32
    → BeginsReply (reply_text o ++ more) (length (reply_text o)) o
written_again o more fits status = spelling_begins (reply_text o) more o (reply_written o fits status)

-- The empty text is short.
pub empty_is_short : IsShortReply []
empty_is_short = texts.reads-short reply_format SpellsReply reply_spelling [] [] (_, refl, step-short reply_format _ [] refl)

-- A proper prefix of a spelling is short.
pub cut_is_short : (text more : List ℕ) (o : Outcome) → SpellsReply (text ++ more) o → (more ≡ [] → ⊥) → IsShortReply text
cut_is_short = texts.cut_is_short reply_format SpellsReply reply_spelling

-- A short text has at most 35,651,643 bytes.
pub short_len : (text : List ℕ) → IsShortReply text → length text ≤ 35651643
short_len = short_reply_len
