-- Which texts spell a request, and what is wrong with a text.
use Rattle.std.specs.Prelude.{ℕ, ◌≡◌, ◌+◌, List, [], ◌∷◌, ◌++◌, length, Option, Some, None, nat_le, nat_lt, ◌==◌, ◌&&◌, true, false}
use Rattle.std.specs.Prelude.{if◌then◌else◌, codes, sum_by}
use Rattle.std.specs.List.{flat_map}
use Rattle.farm_types.specs.Limits.{words_max, word_max, words_bytes_max, source_max}
use Rattle.farm_types.specs.declared.request.Request.{Request}
use Rattle.farm_types.specs.Fits.{RequestFits}
use Rattle.wire_tokens.specs.declared.faults.Which.TheVariants.{Argv, Words, Doti}
use Rattle.wire_tokens.specs.declared.faults.RequestFault.{RequestFault}
use Rattle.wire_tokens.specs.declared.faults.RequestFault.TheVariants.{WrongName, BadDigit, BadVersion, Count, TooLarge}
use Rattle.wire_tokens.specs.Token.{IsToken, token}
use Rattle.wire_tokens.specs.Format.{Field, Due, Format, Stands}
use Rattle.wire_tokens.specs.Texts.{Begins, IsShort}

-- text is the words in a row, each as a token of its length and its bytes
abbrev pub SpellsWords : List (List ℕ) → List ℕ → Type 0
SpellsWords [] text = text ≡ []
SpellsWords (word ∷ words) text =
    (token : List ℕ) × (rest : List ℕ) × IsToken (codes "ARGV") (length word) token × (text ≡ token ++ (word ++ rest))
    × SpellsWords words rest

-- text spells the request
pub record SpellsRequest (text : List ℕ) (q : Request) : Type 0 where
  pub fits : RequestFits q.words q.source
  pub dist : List ℕ
  pub argc : List ℕ
  pub words : List ℕ
  pub doti : List ℕ
  pub is_dist : IsToken (codes "DIST") 1 dist
  pub is_argc : IsToken (codes "ARGC") (length q.words) argc
  pub are_words : SpellsWords q.words words
  pub is_doti : IsToken (codes "DOTI") (length q.source) doti
  pub parts : text ≡ dist ++ (argc ++ (words ++ (doti ++ q.source)))

-- the spelling in lower-case digits
abbrev pub word_text : List ℕ → List ℕ
word_text word = token (codes "ARGV") (length word) ++ word

abbrev pub request_text : Request → List ℕ
request_text q = token (codes "DIST") 1
    ++ (token (codes "ARGC") (length q.words) ++ (flat_map word_text q.words ++ (token (codes "DOTI") (length q.source) ++ q.source)))

-- What is wrong with a number, in the next four definitions: with the version, the count, the length of a word after words with this many bytes, and the
-- length of the source.
abbrev pub version_fault : ℕ → Option RequestFault
version_fault n = if n == 1 then None else Some (BadVersion n)

abbrev pub count_fault : ℕ → Option RequestFault
count_fault n = if nat_le 1 n && nat_le n words_max then None else Some (Count n)

abbrev pub word_fault : ℕ → ℕ → Option RequestFault
word_fault before n = if nat_le n word_max then (if nat_le (before + n) words_bytes_max then None else Some (TooLarge Words n)) else
    Some (TooLarge Argv n)

abbrev pub source_fault : ℕ → Option RequestFault
source_fault n = if nat_le n source_max then None else Some (TooLarge Doti n)

abbrev pub dist_due : Due RequestFault
dist_due = record { name = codes "DIST"; has_body = false; refused = version_fault }

abbrev pub argc_due : Due RequestFault
argc_due = record { name = codes "ARGC"; has_body = false; refused = count_fault }

abbrev pub argv_due : ℕ → Due RequestFault
argv_due before = record { name = codes "ARGV"; has_body = true; refused = word_fault before }

abbrev pub doti_due : Due RequestFault
doti_due = record { name = codes "DOTI"; has_body = true; refused = source_fault }

-- the fields of a version, a count and words
unfoldable pub word_fields : List (List ℕ) → List Field
word_fields [] = []
word_fields (word ∷ words) = record { number = length word; body = word } ∷ word_fields words

abbrev pub dist_field : Field
dist_field = record { number = 1; body = [] }

abbrev pub argc_field : ℕ → Field
argc_field n = record { number = n; body = [] }

-- how many bytes the words of these fields have together
abbrev pub bodies_len : List Field → ℕ
bodies_len fields = sum_by (λ field. length field.body) fields

-- what is due after some fields of a request: as many words as the count says, and then the source
abbrev pub request_due : List Field → Option (Due RequestFault)
request_due [] = Some dist_due
request_due (dist ∷ []) = Some argc_due
request_due (dist ∷ argc ∷ words) =
    if nat_lt (length words) argc.number then Some (argv_due (bodies_len words))
    else if length words == argc.number then Some doti_due
    else None

abbrev pub request_format : Format RequestFault
request_format = record { due = request_due; wrong_name = WrongName; bad_digit = BadDigit }

-- the first bytes of text, this many, spell the request
abbrev pub BeginsRequest : List ℕ → ℕ → Request → Type 0
BeginsRequest text used q = Begins SpellsRequest text used q

-- text has this fault at this place
abbrev pub RequestFaultStands : List ℕ → ℕ → RequestFault → Type 0
RequestFaultStands text at fault = Stands request_format text at fault

-- text has no fault, and none of its prefixes spells a request
abbrev pub IsShortRequest : List ℕ → Type 0
IsShortRequest text = IsShort request_format SpellsRequest text
