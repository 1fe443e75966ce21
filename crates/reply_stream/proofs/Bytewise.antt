-- Taking bytes of a token and of a body.
use Rattle.std.proofs.Common.{◌≡◌, ℕ, zero, suc, ◌+◌, ◌<◌, ◌≤◌, Bool, false, true, List, [], ◌∷◌, ◌++◌, length, get_or, take, refl, sym}
use Rattle.std.proofs.Common.{ap, subst, ◌∙◌, append_assoc, arith, inl, inr}
use Rattle.std.specs.Prelude.{nat_lt, ◌&&◌}
use Rattle.std.proofs.lemmas.List.{append-nil, nil_from_length, length-append}
use Rattle.std.proofs.lemmas.Bool.{lt-ltb, ltb-true}
use Rattle.wire_tokens.specs.declared.faults.ReplyFault.{ReplyFault}
use Rattle.wire_tokens.specs.Format.{Field, Stands, Progress}
use Rattle.wire_tokens.specs.Reply.{reply_format, SpellsReply}
use Rattle.wire_tokens.specs.Step.{step_of, refuses}
use Rattle.wire_tokens.proofs.PartialTokens.{progress-longer, longer-stands}
use Rattle.wire_tokens.proofs.Longer.{stands-longer}
use Rattle.wire_tokens.proofs.Readings.{fields_len}
use Rattle.wire_tokens.proofs.Reply.{four_reply}
use Rattle.compile_reply.specs.declared.part.Part.{Part}
use Rattle.compile_reply.specs.declared.part.Part.TheVariants.{Done, Stat, Serr, Sout, Doto}
use Rattle.reply_stream.specs.Parts.{fields_before, bytes_before, is_object, is_at_object, IsKept}
use Rattle.reply_stream.specs.Objects.{with_object}
use Rattle.reply_stream.specs.declared.partial.Partial.{Partial}
use Rattle.reply_stream.specs.declared.partial.Turn.{Turn}
use Rattle.reply_stream.specs.declared.partial.Turn.TheVariants.{More, Whole, Bad, Memory}
use Rattle.reply_stream.specs.Taking.{fields_of, bytes_of, due_in, IsPlaced, InToken, InBody, Holds, Says, Finishes, GoesOn, TakesAll}
use Rattle.reply_stream.specs.Taking.{keeps}
use Rattle.reply_stream.proofs.Finishing.{due_is}

pub fields_len-before : (part : Part) (status : ℕ) (err out : List ℕ)
    → fields_len (fields_before part status err out) ≡ bytes_before part err out
unfolding fields_len
fields_len-before Done status err out = refl
fields_len-before Stat status err out = refl
fields_len-before Serr status err out = refl
fields_len-before Sout status err out = omega arith
fields_len-before (Doto beside) status err out = omega arith

pub in_token : (p : Partial) → Holds p → p.left ≡ 0 → InToken p
in_token p h e = elim h.phase [ inl t ↦ t | inr b ↦ let some = b.some_left in absurd (omega arith) ]

pub in_body : (p : Partial) → Holds p → 0 < p.left → InBody p
in_body p h lt = elim h.phase [ inl t ↦ let none = t.nothing_left in absurd (omega arith) | inr b ↦ b ]

-- the same fields, and some bytes more that are kept, before any of the object
pub placed_more : (old new : Partial) (bytes : List ℕ) → fields_of old ≡ fields_of new → bytes_of new ≡ bytes_of old ++ bytes
    → old.given ≡ 0 → new.given ≡ 0 → (text object : List ℕ) → IsPlaced old text object → IsPlaced new (text ++ bytes) object
placed_more old new bytes fields same before after text object g =
    let none : object ≡ [] = nil_from_length object (g.given ∙ before) in
    let here : Progress reply_format text (fields_of old) (bytes_of old) =
    subst (λ (x : List ℕ). Progress reply_format text (fields_of old) x) (ap (λ (x : List ℕ). bytes_of old ++ x) none
    ∙ append-nil (bytes_of old)) g.progress in
    let more = progress-longer reply_format text (fields_of old) (bytes_of old) bytes here in
    let rest : bytes_of old ++ bytes ≡ bytes_of new ++ object =
    sym (ap (λ (x : List ℕ). bytes_of new ++ x) none ∙ append-nil (bytes_of new) ∙ same) in
    record {
      progress = subst (λ (x : List Field × List ℕ). Progress reply_format (text ++ bytes) x.0 x.1)
          (ap (λ (x : List Field). (x, bytes_of old ++ bytes)) fields ∙ ap (λ (x : List ℕ). (fields_of new, x)) rest) more;
      given = ap length none ∙ sym after;
    }

-- the same fields and bytes that are kept, and some bytes more of the object
pub object_more : (old new : Partial) (bytes : List ℕ) → fields_of old ≡ fields_of new → bytes_of new ≡ bytes_of old
    → new.given ≡ old.given + length bytes → (text object : List ℕ) → IsPlaced old text object
    → IsPlaced new (text ++ bytes) (object ++ bytes)
object_more old new bytes fields same counted text object g =
    let longer = progress-longer reply_format text (fields_of old) (bytes_of old ++ object) bytes g.progress in
    let more : Progress reply_format (text ++ bytes) (fields_of old) (bytes_of old ++ (object ++ bytes)) =
    subst (λ (x : List ℕ). Progress reply_format (text ++ bytes) (fields_of old) x) (append_assoc (bytes_of old) object bytes) longer in
    record {
      progress = subst (λ (x : List Field × List ℕ). Progress reply_format (text ++ bytes) x.0 (x.1 ++ (object ++ bytes)))
          (ap (λ (x : List Field). (x, bytes_of old)) fields ∙ ap (λ (x : List ℕ). (fields_of new, x)) (sym same)) more;
      given = length-append object bytes ∙ ap (λ (k : ℕ). k + length bytes) g.given ∙ sym counted;
    }

-- a byte at the end of a token
pub token_more : (token body : List ℕ) (byte : ℕ) → body ≡ [] → (token ++ byte ∷ []) ++ body ≡ (token ++ body) ++ byte ∷ []
token_more token body byte none = rw (none, append-nil token) (append-nil (token ++ byte ∷ []))

-- a fault in the token that a byte more gives
pub fault_stands : (p : Partial) (token : List ℕ) (byte at place : ℕ) (fault : ReplyFault) → Holds p → p.left ≡ 0
    → token ≡ p.token ++ byte ∷ [] → at ≡ bytes_before p.part p.err p.out
    → step_of reply_format (due_in p) token ≡ refuses place fault
    → (text object : List ℕ) → IsPlaced p text object → Stands reply_format (text ++ byte ∷ []) (at + place) fault
fault_stands p token byte at place fault h left is here s text object g =
    let t = in_token p h left in
    let none : object ≡ [] = nil_from_length object (g.given ∙ t.none_given) in
    let kept : bytes_of p ++ object ≡ p.token =
    ap (λ (x : List ℕ). bytes_of p ++ x) none ∙ append-nil (bytes_of p)
    ∙ ap (λ (x : List ℕ). p.token ++ x) t.no_body ∙ append-nil p.token in
    let bytes : (bytes_of p ++ object) ++ byte ∷ [] ≡ token = ap (λ (x : List ℕ). x ++ byte ∷ []) kept ∙ sym is in
    let where_it_is : fields_len (fields_of p) ≡ at = fields_len-before p.part p.status p.err p.out ∙ sym here in
    subst (λ (i : ℕ). Stands reply_format (text ++ byte ∷ []) (i + place) fault) where_it_is
    (longer-stands reply_format four_reply text (fields_of p) (due_in p) (bytes_of p ++ object) (byte ∷ []) place fault g.progress
    (due_is p h.counts) (ap (step_of reply_format (due_in p)) bytes ∙ s))

-- the end of a field after some bytes
pub finished : (grown : ℕ → List ℕ → List ℕ) (old mid new : Partial) (piece : List ℕ) (n : ℕ) (turn : Turn) → n ≤ length piece
    → ((text object : List ℕ) → IsPlaced old text object → IsPlaced mid (text ++ take n piece) (grown n object))
    → Finishes mid new n turn → Says grown old new piece turn
finished grown old mid new piece n (More taken) fits more f =
    (rw f.0 fits, f.1, λ text object g. f.2 (text ++ take taken piece) (grown taken object) (rw f.0 (more text object g)))
finished grown old mid new piece n (Whole o taken) fits more f =
    (rw f.0 fits, f.1, λ text object g. f.2 (text ++ take taken piece) (grown taken object) (rw f.0 (more text object g)))
finished grown old mid new piece n (Bad at fault) fits more f = absurd f
finished grown old mid new piece n Memory fits more f = tt

-- what is so of the first byte is so of the piece
pub one_byte : (old new : Partial) (piece : List ℕ) (byte : ℕ) (turn : Turn) → 0 < length piece → byte ≡ get_or piece 0 0
    → Says keeps old new (byte ∷ []) turn → Says keeps old new piece turn
one_byte old new [] byte turn lt e s = absurd (omega arith)
one_byte old new (b ∷ piece) byte (More zero) lt e s = (omega arith, s.1, s.2)
one_byte old new (b ∷ piece) byte (More (suc zero)) lt e s =
    (omega arith, s.1, subst (λ (x : ℕ). (text object : List ℕ) → IsPlaced old text object → IsPlaced new (text ++ x ∷ []) object) e s.2)
one_byte old new (b ∷ piece) byte (More (suc (suc taken))) lt e s = absurd (omega (arith, s.0))
one_byte old new (b ∷ piece) byte (Whole o zero) lt e s = (omega arith, s.1, s.2)
one_byte old new (b ∷ piece) byte (Whole o (suc zero)) lt e s = (
  omega arith,
  s.1,
  subst (λ (x : ℕ). (text object : List ℕ) → IsPlaced old text object
      → SpellsReply (text ++ x ∷ []) (with_object o object)) e s.2,
)
one_byte old new (b ∷ piece) byte (Whole o (suc (suc taken))) lt e s = absurd (omega (arith, s.0))
one_byte old new (b ∷ piece) byte (Bad at fault) lt e s = λ text object g.
    let one : Stands reply_format (text ++ b ∷ []) at fault =
    subst (λ (x : ℕ). Stands reply_format (text ++ x ∷ []) at fault) e (s text object g) in
    subst (λ (x : List ℕ). Stands reply_format x at fault) (append_assoc text (b ∷ []) piece)
    (stands-longer reply_format four_reply (text ++ b ∷ []) piece at fault one)
one_byte old new (b ∷ piece) byte Memory lt e s = tt

-- ---- the object or not

not_object : (part : Part) (left : ℕ) → 0 < left → is_at_object part left ≡ false → is_object part ≡ false
not_object part left lt e = sym (ap (λ (b : Bool). b && is_object part) (lt-ltb 0 left lt)) ∙ e

both : (a b : Bool) → (a && b) ≡ true → (a ≡ true) × (b ≡ true)
both true b e = (refl, e)
both false b e = absurd cc

-- what comes next is kept, so nothing is counted
pub uncounted : (part : Part) (body : List ℕ) (given left : ℕ) → 0 < left → is_at_object part left ≡ false → IsKept part body given
    → given ≡ 0
uncounted Done body given left lt e k = k
uncounted Stat body given left lt e k = k
uncounted Serr body given left lt e k = k
uncounted Sout body given left lt e k = k
uncounted (Doto beside) body given left lt e k = let no = not_object (Doto beside) left lt e in absurd cc

pub kept_more : (part : Part) (body more : List ℕ) (given left : ℕ) → 0 < left → is_at_object part left ≡ false
    → IsKept part body given → IsKept part more given
kept_more Done body more given left lt e k = k
kept_more Stat body more given left lt e k = k
kept_more Serr body more given left lt e k = k
kept_more Sout body more given left lt e k = k
kept_more (Doto beside) body more given left lt e k = let no = not_object (Doto beside) left lt e in absurd cc

at_object : (part : Part) (left : ℕ) → is_at_object part left ≡ true → (0 < left) × (is_object part ≡ true)
at_object part left e =
    let z = both (nat_lt 0 left) (is_object part) e in
    (ltb-true 0 left z.0, z.1)

pub object_left : (part : Part) (left : ℕ) → is_at_object part left ≡ true → 0 < left
object_left part left e = (at_object part left e).0

-- the object's bytes are counted, whatever their number
pub counted_more : (part : Part) (body : List ℕ) (given more left : ℕ) → is_at_object part left ≡ true → IsKept part body given
    → IsKept part body more
counted_more Done body given more left e k = let no = (at_object Done left e).1 in absurd cc
counted_more Stat body given more left e k = let no = (at_object Stat left e).1 in absurd cc
counted_more Serr body given more left e k = let no = (at_object Serr left e).1 in absurd cc
counted_more Sout body given more left e k = let no = (at_object Sout left e).1 in absurd cc
counted_more (Doto beside) body given more left e k = k

-- where nothing has come of a body
pub kept_afresh : (part : Part) (body : List ℕ) (given : ℕ) → body ≡ [] → given ≡ 0 → IsKept part body given
kept_afresh Done body given none uncount = uncount
kept_afresh Stat body given none uncount = uncount
kept_afresh Serr body given none uncount = uncount
kept_afresh Sout body given none uncount = uncount
kept_afresh (Doto beside) body given none uncount = none

-- the end of the object is the end of the reply
pub no_more_turns : (piece : List ℕ) (part : Part) (left : ℕ) (turn : Turn) → is_at_object part left ≡ true → GoesOn part turn
    → TakesAll piece turn
no_more_turns piece part left (More taken) at goes = let is = (at_object part left at).1 in absurd cc
no_more_turns piece part left (Whole o taken) at goes = tt
no_more_turns piece part left (Bad i fault) at goes = tt
no_more_turns piece part left Memory at goes = tt
