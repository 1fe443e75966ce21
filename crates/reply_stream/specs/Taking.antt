-- What a reader has taken of a reply, and what it makes of more bytes.
use Rattle.std.specs.Prelude.{ℕ, ◌≡◌, ◌<◌, ◌≤◌, ◌+◌, ◌^◌, ◌⊎◌, List, [], ◌++◌, length, take, false}
use Rattle.farm_types.specs.Limits.{messages_max}
use Rattle.wire_tokens.specs.declared.faults.ReplyFault.{ReplyFault}
use Rattle.wire_tokens.specs.Format.{Field, Due, body_len, Stands, Progress}
use Rattle.wire_tokens.specs.Partial.{IsShortToken, IsDueToken}
use Rattle.wire_tokens.specs.Reply.{reply_format, SpellsReply}
use Rattle.compile_reply.specs.Decoding.{due_of}
use Rattle.compile_reply.specs.declared.part.Part.{Part as Token}
use Rattle.reply_stream.specs.Parts.{fields_before, IsAtPart, is_object, is_at_object, IsKept}
use Rattle.reply_stream.specs.Objects.{with_object, spanned, IsSpan}
use Rattle.reply_stream.specs.declared.answers.Part.{Part}
use Rattle.reply_stream.specs.declared.answers.Part.TheVariants as answers
use Rattle.reply_stream.specs.declared.partial.Partial.{Partial}
use Rattle.reply_stream.specs.declared.partial.Turn.{Turn}
use Rattle.reply_stream.specs.declared.partial.Turn.TheVariants.{More, Whole, Bad, Memory}

-- the fields that were taken, the bytes of the next one that are kept, and what that one is to be
abbrev pub fields_of : Partial → List Field
fields_of p = fields_before p.part p.status p.err p.out

abbrev pub bytes_of : Partial → List ℕ
bytes_of p = p.token ++ p.body

abbrev pub due_in : Partial → Due ReplyFault
due_in p = due_of p.part

-- the fields, the bytes of the next one, and then that many of the object's make the text
pub record IsReading (fields : List Field) (bytes : List ℕ) (count : ℕ) (text object : List ℕ) : Type 0 where
  pub progress : Progress reply_format text fields (bytes ++ object)
  pub given : length object ≡ count

-- text is what was taken, with the object's bytes so far
abbrev pub IsPlaced : Partial → List ℕ → List ℕ → Type 0
IsPlaced p text object = IsReading (fields_of p) (bytes_of p) p.given text object

pub record Counts (p : Partial) : Type 0 where
  pub at_part : IsAtPart p.part p.status
  pub small_err : length p.err ≤ messages_max
  pub small_out : length p.out ≤ messages_max

-- a token is on its way
pub record InToken (p : Partial) : Type 0 where
  pub nothing_left : p.left ≡ 0
  pub no_body : p.body ≡ []
  pub none_given : p.given ≡ 0
  pub token : IsShortToken (due_in p) p.token

-- its body is on its way
pub record InBody (p : Partial) : Type 0 where
  pub token : IsDueToken (due_in p) p.token p.number
  pub missing : body_len (due_in p) p.number ≡ length p.body + p.given + p.left
  pub kept : IsKept p.part p.body p.given
  pub some_left : 0 < p.left

-- what a reader keeps from byte to byte
pub record Holds (p : Partial) : Type 0 where
  pub counts : Counts p
  pub phase : InToken p ⊎ InBody p

-- a field is whole
pub record IsReady (p : Partial) (n : ℕ) : Type 0 where
  pub counts : Counts p
  pub token : IsDueToken (due_in p) p.token n
  pub no_more : body_len (due_in p) n ≡ length p.body + p.given
  pub kept : IsKept p.part p.body p.given

-- how the object grows with that many bytes: not at all, or by these bytes of the piece
abbrev pub keeps : ℕ → List ℕ → List ℕ
keeps taken object = object

abbrev pub hands : List ℕ → ℕ → List ℕ → List ℕ
hands piece taken object = object ++ take taken piece

-- What a turn makes of the bytes that it takes from the front of a piece.
abbrev pub Says : (ℕ → List ℕ → List ℕ) → Partial → Partial → List ℕ → Turn → Type 0
Says grown old new piece (More taken) =
    (taken ≤ length piece) × Holds new
    × ((text object : List ℕ) → IsPlaced old text object → IsPlaced new (text ++ take taken piece) (grown taken object))
Says grown old new piece (Whole o taken) =
    (taken ≤ length piece) × (o.object ≡ [])
    × ((text object : List ℕ) → IsPlaced old text object → SpellsReply (text ++ take taken piece) (with_object o (grown taken object)))
Says grown old new piece (Bad at fault) = (text object : List ℕ) → IsPlaced old text object → Stands reply_format (text ++ piece) at fault
Says grown old new piece Memory = Unit {0}

-- some bytes are taken, if it goes on
abbrev pub TakesSome : Turn → Type 0
TakesSome (More taken) = 0 < taken
TakesSome (Whole o taken) = Unit {0}
TakesSome (Bad at fault) = Unit {0}
TakesSome Memory = Unit {0}

-- all of a piece is taken, if it goes on
abbrev pub TakesAll : List ℕ → Turn → Type 0
TakesAll piece (More taken) = taken ≡ length piece
TakesAll piece (Whole o taken) = Unit {0}
TakesAll piece (Bad at fault) = Unit {0}
TakesAll piece Memory = Unit {0}

-- all of a piece is taken, if it goes on, unless the object comes next
abbrev pub TakesHead : Partial → List ℕ → Turn → Type 0
TakesHead new piece (More taken) = is_at_object new.part new.left ≡ false → taken ≡ length piece
TakesHead new piece (Whole o taken) = Unit {0}
TakesHead new piece (Bad at fault) = Unit {0}
TakesHead new piece Memory = Unit {0}

-- the reply goes on only if the field isn't its object
abbrev pub GoesOn : Token → Turn → Type 0
GoesOn part (More taken) = is_object part ≡ false
GoesOn part (Whole o taken) = Unit {0}
GoesOn part (Bad at fault) = Unit {0}
GoesOn part Memory = Unit {0}

-- What the end of a field makes of the text.
abbrev pub Finishes : Partial → Partial → ℕ → Turn → Type 0
Finishes old new n (More taken) = (taken ≡ n) × Holds new × ((text object : List ℕ) → IsPlaced old text object → IsPlaced new text object)
Finishes old new n (Whole o taken) =
    (taken ≡ n) × (o.object ≡ []) × ((text object : List ℕ) → IsPlaced old text object → SpellsReply text (with_object o object))
Finishes old new n (Bad at fault) = ⊥
Finishes old new n Memory = Unit {0}

-- a turn from a place on ends at a place that a usize holds
abbrev pub EndsWithin : ℕ → Turn → Type 0
EndsWithin from (More taken) = from + taken < 2 ^ 64
EndsWithin from (Whole o taken) = from + taken < 2 ^ 64
EndsWithin from (Bad at fault) = Unit {0}
EndsWithin from Memory = Unit {0}

-- the part of a turn whose bytes are the object's, from a place on
abbrev pub part_from : ℕ → Turn → Part
part_from from (More taken) = answers.More (from + taken) (record { from = from; to = from + taken })
part_from from (Whole o taken) = answers.Whole (from + taken) (record { from = from; to = from + taken }) o
part_from from (Bad at fault) = answers.Bad at fault
part_from from Memory = answers.Memory

-- What a piece makes of the text, and the bytes of it that are the object's.
abbrev pub Runs : Partial → Partial → List ℕ → Part → Type 0
Runs old new piece (answers.More used span) = (used ≡ length piece) × IsSpan span used × Holds new
    × ((text object : List ℕ) → IsPlaced old text object → IsPlaced new (text ++ piece) (object ++ spanned span piece))
Runs old new piece (answers.Whole used span o) = (used ≤ length piece) × IsSpan span used × (o.object ≡ [])
    × ((text object : List ℕ) → IsPlaced old text object
    → SpellsReply (text ++ take used piece) (with_object o (object ++ spanned span piece)))
Runs old new piece (answers.Bad at fault) = (text object : List ℕ) → IsPlaced old text object → Stands reply_format (text ++ piece) at fault
Runs old new piece answers.Memory = Unit {0}
