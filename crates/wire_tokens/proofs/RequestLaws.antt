-- The laws of the texts of requests.
use Rattle.std.proofs.Common.{◌≡◌, ℕ, ◌≤◌, List, [], ◌++◌, length, refl}
use Rattle.std.specs.Prelude.{◌⊎◌}
use Rattle.farm_types.specs.declared.request.Request.{Request}
use Rattle.farm_types.specs.Fits.{RequestFits}
use Rattle.wire_tokens.specs.declared.faults.RequestFault.{RequestFault}
use Rattle.wire_tokens.specs.Request.{SpellsRequest, request_text, request_format, BeginsRequest, RequestFaultStands, IsShortRequest}
use Rattle.wire_tokens.proofs.Longer.{stands-longer}
use Rattle.wire_tokens.proofs.Readings.{one_fault as one_standing_fault}
use Rattle.wire_tokens.proofs.Steps.{step-short}
use Rattle.wire_tokens.proofs.Texts as texts
use Rattle.wire_tokens.proofs.Request.{four_request, request_spelling}
use Rattle.wire_tokens.proofs.RequestBounds.{short_request_len}
use Rattle.wire_tokens.proofs.Written.{request_written}

-- A text begins with at most one spelling, which has one value.
pub one_value : (text : List ℕ) (i j : ℕ) (q p : Request) → BeginsRequest text i q → BeginsRequest text j p → (i ≡ j) × (q ≡ p)
one_value = texts.one_value request_format SpellsRequest request_spelling

-- A spelling has one value.
pub one_meaning : (text : List ℕ) (q p : Request) → SpellsRequest text q → SpellsRequest text p → q ≡ p
one_meaning = texts.one_meaning request_format SpellsRequest request_spelling

-- No spelling is a proper prefix of another.
pub no_longer_spelling : (text more : List ℕ) (q p : Request) → SpellsRequest text q → SpellsRequest (text ++ more) p → more ≡ []
no_longer_spelling = texts.no_longer_spelling request_format SpellsRequest request_spelling

-- At most one fault stands in a text.
pub one_fault : (text : List ℕ) (i j : ℕ) (f g : RequestFault) → RequestFaultStands text i f → RequestFaultStands text j g
    → (i ≡ j) × (f ≡ g)
one_fault = one_standing_fault request_format four_request

-- In a text that begins with a spelling no fault stands.
pub spelled_or_fault : (text : List ℕ) (used at : ℕ) (q : Request) (fault : RequestFault) → BeginsRequest text used q
    → RequestFaultStands text at fault → ⊥
spelled_or_fault = texts.spelled_or_fault request_format SpellsRequest request_spelling

-- A prefix is a spelling, or a fault stands, or the text is short.
pub one_of_three : (text : List ℕ) → ((used : ℕ) × (q : Request) × BeginsRequest text used q)
    ⊎ (((at : ℕ) × (fault : RequestFault) × RequestFaultStands text at fault) ⊎ IsShortRequest text)
one_of_three = texts.one_of_three request_format SpellsRequest request_spelling

-- A fault that stands in a text stands in every longer text, at the same place.
pub fault_longer : (text more : List ℕ) (at : ℕ) (fault : RequestFault) → RequestFaultStands text at fault
    → RequestFaultStands (text ++ more) at fault
fault_longer = stands-longer request_format four_request

-- A text that begins with a spelling goes on beginning with it.
pub begins_longer : (text more : List ℕ) (used : ℕ) (q : Request) → BeginsRequest text used q → BeginsRequest (text ++ more) used q
begins_longer = texts.begins-longer SpellsRequest

-- A spelling begins each text that it is a prefix of.
pub spelling_begins : (text more : List ℕ) (q : Request) → SpellsRequest text q → BeginsRequest (text ++ more) (length text) q
spelling_begins = texts.spells-begins SpellsRequest

-- What is written is read again, whatever follows it.
pub written_again : (q : Request) (more : List ℕ) → RequestFits q.words q.source
    → BeginsRequest (request_text q ++ more) (length (request_text q)) q
written_again q more fits = spelling_begins (request_text q) more q (request_written q fits)

-- The empty text is short.
pub empty_is_short : IsShortRequest []
empty_is_short = texts.reads-short request_format SpellsRequest request_spelling [] [] (_, refl, step-short request_format _ [] refl)

-- A proper prefix of a spelling is short.
pub cut_is_short : (text more : List ℕ) (q : Request) → SpellsRequest (text ++ more) q → (more ≡ [] → ⊥) → IsShortRequest text
cut_is_short = texts.cut_is_short request_format SpellsRequest request_spelling

-- A short text has at most 34,615,331 bytes.
pub short_len : (text : List ℕ) → IsShortRequest text → length text ≤ 34615331
short_len = short_request_len
