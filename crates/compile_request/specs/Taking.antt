-- What a reader has taken of a request, and what it makes of more bytes.
use Rattle.std.specs.Prelude.{ℕ, ◌≡◌, ◌<◌, ◌≤◌, ◌+◌, ◌⊎◌, List, [], ◌++◌, length, take, sum_by}
use Rattle.farm_types.specs.Limits.{words_bytes_max}
use Rattle.wire_tokens.specs.declared.faults.RequestFault.{RequestFault}
use Rattle.wire_tokens.specs.Format.{Field, Due, body_len, Stands, Progress}
use Rattle.wire_tokens.specs.Partial.{IsShortToken, IsDueToken}
use Rattle.wire_tokens.specs.Request.{request_format, SpellsRequest}
use Rattle.compile_request.specs.Parts.{due_of, fields_before, IsAtPart}
use Rattle.compile_request.specs.declared.partial.Partial.{Partial}
use Rattle.compile_request.specs.declared.partial.Turn.{Turn}
use Rattle.compile_request.specs.declared.partial.Turn.TheVariants.{More, Whole, Bad, Memory}

-- the fields that were taken, the bytes of the next one so far, and what that one is to be
abbrev pub fields_of : Partial → List Field
fields_of p = fields_before p.part p.count p.words

abbrev pub bytes_of : Partial → List ℕ
bytes_of p = p.token ++ p.body

abbrev pub due_in : Partial → Due RequestFault
due_in p = due_of p.part p.together

-- text is the fields that were taken and the bytes of the next one
abbrev pub IsPlaced : Partial → List ℕ → Type 0
IsPlaced p text = Progress request_format text (fields_of p) (bytes_of p)

pub record Counts (p : Partial) : Type 0 where
  pub at_part : IsAtPart p.part p.count p.words
  pub sum : p.together ≡ sum_by length p.words
  pub small : p.together ≤ words_bytes_max

-- a token is on its way
pub record InToken (p : Partial) : Type 0 where
  pub nothing_left : p.left ≡ 0
  pub no_body : p.body ≡ []
  pub token : IsShortToken (due_in p) p.token

-- its body is on its way
pub record InBody (p : Partial) : Type 0 where
  pub token : IsDueToken (due_in p) p.token p.number
  pub missing : body_len (due_in p) p.number ≡ length p.body + p.left
  pub some_left : 0 < p.left

-- what a reader keeps from byte to byte
pub record Holds (p : Partial) : Type 0 where
  pub counts : Counts p
  pub phase : InToken p ⊎ InBody p

-- a field is whole
pub record IsReady (p : Partial) (n : ℕ) : Type 0 where
  pub counts : Counts p
  pub token : IsDueToken (due_in p) p.token n
  pub no_more : body_len (due_in p) n ≡ length p.body

-- What a turn makes of the bytes that it takes from the front of a piece.
abbrev pub Says : Partial → Partial → List ℕ → Turn → Type 0
Says old new piece (More taken) =
    (taken ≤ length piece) × Holds new × ((text : List ℕ) → IsPlaced old text → IsPlaced new (text ++ take taken piece))
Says old new piece (Whole q taken) =
    (taken ≤ length piece) × ((text : List ℕ) → IsPlaced old text → SpellsRequest (text ++ take taken piece) q)
Says old new piece (Bad at fault) = (text : List ℕ) → IsPlaced old text → Stands request_format (text ++ piece) at fault
Says old new piece Memory = Unit {0}

-- some bytes are taken, if it goes on
abbrev pub TakesSome : Turn → Type 0
TakesSome (More taken) = 0 < taken
TakesSome (Whole q taken) = Unit {0}
TakesSome (Bad at fault) = Unit {0}
TakesSome Memory = Unit {0}

-- all of a piece is taken, if it goes on
abbrev pub TakesAll : List ℕ → Turn → Type 0
TakesAll piece (More taken) = taken ≡ length piece
TakesAll piece (Whole q taken) = Unit {0}
TakesAll piece (Bad at fault) = Unit {0}
TakesAll piece Memory = Unit {0}

-- What the end of a field makes of the text.
abbrev pub Finishes : Partial → Partial → ℕ → Turn → Type 0
Finishes old new n (More taken) = (taken ≡ n) × Holds new × ((text : List ℕ) → IsPlaced old text → IsPlaced new text)
Finishes old new n (Whole q taken) = (taken ≡ n) × ((text : List ℕ) → IsPlaced old text → SpellsRequest text q)
Finishes old new n (Bad at fault) = ⊥
Finishes old new n Memory = Unit {0}
