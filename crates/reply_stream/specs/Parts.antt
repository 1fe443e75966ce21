-- The parts of a reply, and the fields that a reader has taken.
use Rattle.std.specs.Prelude.{ℕ, ◌≡◌, ◌+◌, List, [], ◌∷◌, length, Bool, true, false, nat_lt, ◌&&◌}
use Rattle.wire_tokens.specs.Format.{Field}
use Rattle.compile_reply.specs.declared.part.Part.{Part}
use Rattle.compile_reply.specs.declared.part.Part.TheVariants.{Done, Stat, Serr, Sout, Doto}

-- a field that is a number, and one that is a message
abbrev pub number_field : ℕ → Field
number_field n = record { number = n; body = [] }

abbrev pub text_field : List ℕ → Field
text_field bytes = record { number = length bytes; body = bytes }

-- the fields before a part: those of the version, of this status, of these messages
abbrev pub fields_before : Part → ℕ → List ℕ → List ℕ → List Field
fields_before Done status err out = []
fields_before Stat status err out = number_field 1 ∷ []
fields_before Serr status err out = number_field 1 ∷ number_field status ∷ []
fields_before Sout status err out = number_field 1 ∷ number_field status ∷ text_field err ∷ []
fields_before (Doto beside) status err out = number_field 1 ∷ number_field status ∷ text_field err ∷ text_field out ∷ []

-- an object's part holds the status that came
abbrev pub IsAtPart : Part → ℕ → Type 0
IsAtPart Done status = Unit {0}
IsAtPart Stat status = Unit {0}
IsAtPart Serr status = Unit {0}
IsAtPart Sout status = Unit {0}
IsAtPart (Doto beside) status = beside ≡ status

-- how many bytes the fields before a part are
abbrev pub bytes_before : Part → List ℕ → List ℕ → ℕ
bytes_before Done err out = 0
bytes_before Stat err out = 12
bytes_before Serr err out = 24
bytes_before Sout err out = 36 + length err
bytes_before (Doto beside) err out = 48 + length err + length out

abbrev pub is_object : Part → Bool
is_object Done = false
is_object Stat = false
is_object Serr = false
is_object Sout = false
is_object (Doto beside) = true

-- the bytes that come next are the object's
abbrev pub is_at_object : Part → ℕ → Bool
is_at_object part left = nat_lt 0 left && is_object part

-- The bytes of the object are counted and not kept, and no others are counted.
abbrev pub IsKept : Part → List ℕ → ℕ → Type 0
IsKept Done body given = given ≡ 0
IsKept Stat body given = given ≡ 0
IsKept Serr body given = given ≡ 0
IsKept Sout body given = given ≡ 0
IsKept (Doto beside) body given = body ≡ []
