-- The object of a reply, in spans of the pieces.
use Rattle.std.specs.Prelude.{ℕ, ◌+◌, ◌-◌, ◌≤◌, List, take, drop}
use Rattle.farm_types.specs.declared.ran.Outcome.{Outcome}
use Rattle.wire_tokens.specs.Token.{number_of}
use Rattle.reply_stream.specs.declared.answers.Span.{Span}

-- the outcome with this object in place of its own
abbrev pub with_object : Outcome → List ℕ → Outcome
with_object o object = record { status = o.status; err = o.err; out = o.out; object = object }

-- the bytes of a piece in a span
abbrev pub spanned : Span → List ℕ → List ℕ
spanned span piece = take (span.to - span.from) (drop span.from piece)

-- the span is in order, and within the first `used` bytes
pub record IsSpan (span : Span) (used : ℕ) : Type 0 where
  pub ordered : span.from ≤ span.to
  pub within : span.to ≤ used

-- the number of the token that is at this place of a text
abbrev pub number_at : List ℕ → ℕ → ℕ
number_at text at = number_of (take 8 (drop (at + 4) text))

-- The object's bytes in a text so far: what follows five tokens, of 12 bytes each, and the two messages. The third token has
-- the length of the first message, and the fourth that of the second.
unfoldable pub object_so_far : List ℕ → List ℕ
object_so_far text =
    let err = number_at text 24 in
    let out = number_at text (36 + err) in
    drop (60 + err + out) text
