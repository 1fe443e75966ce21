-- Taking bytes of a token and of a body.
use Rattle.std.proofs.Common.{◌≡◌, ℕ, zero, suc, ◌+◌, ◌*◌, ◌<◌, ◌≤◌, List, [], ◌∷◌, ◌++◌, length, get_or, take, refl, sym, ap, subst, ◌∙◌}
use Rattle.std.proofs.Common.{append_assoc, arith, inl, inr}
use Rattle.std.specs.Prelude.{sum_by}
use Rattle.std.proofs.lemmas.List.{append-nil}
use Rattle.std.proofs.lemmas.List.Sums.{sum_by-cons}
use Rattle.wire_tokens.specs.declared.faults.RequestFault.{RequestFault}
use Rattle.wire_tokens.specs.Format.{Field, Stands, Progress}
use Rattle.wire_tokens.specs.Request.{request_format, SpellsRequest, word_fields}
use Rattle.wire_tokens.specs.Step.{step_of, refuses}
use Rattle.wire_tokens.proofs.PartialTokens.{progress-longer, longer-stands}
use Rattle.wire_tokens.proofs.Longer.{stands-longer}
use Rattle.wire_tokens.proofs.Readings.{fields_len}
use Rattle.wire_tokens.proofs.Request.{four_request}
use Rattle.compile_request.specs.Parts.{fields_before, bytes_before}
use Rattle.compile_request.specs.declared.part.Part.{Part}
use Rattle.compile_request.specs.declared.part.Part.TheVariants.{Dist, Argc, Argv, Doti}
use Rattle.compile_request.specs.declared.partial.Partial.{Partial}
use Rattle.compile_request.specs.declared.partial.Turn.{Turn}
use Rattle.compile_request.specs.declared.partial.Turn.TheVariants.{More, Whole, Bad, Memory}
use Rattle.compile_request.specs.Taking.{fields_of, bytes_of, due_in, IsPlaced, InToken, InBody, Holds, Says, Finishes}
use Rattle.compile_request.proofs.Finishing.{due_is}

fields_len-word_fields : (words : List (List ℕ)) → fields_len (word_fields words) ≡ 12 * length words + sum_by length words
unfolding fields_len word_fields
fields_len-word_fields [] = refl
fields_len-word_fields (word ∷ words) = omega (arith, fields_len-word_fields words, sum_by-cons length word words)

fields_len-before : (part : Part) (count : ℕ) (words : List (List ℕ)) (together : ℕ) → together ≡ sum_by length words
    → fields_len (fields_before part count words) ≡ bytes_before part (length words) together
unfolding fields_len
fields_len-before Dist count words together sum = refl
fields_len-before Argc count words together sum = refl
fields_len-before Argv count words together sum = omega (arith, fields_len-word_fields words)
fields_len-before Doti count words together sum = omega (arith, fields_len-word_fields words)

pub in_token : (p : Partial) → Holds p → p.left ≡ 0 → InToken p
in_token p h e = elim h.phase [ inl t ↦ t | inr b ↦ let some = b.some_left in absurd (omega arith) ]

pub in_body : (p : Partial) → Holds p → 0 < p.left → InBody p
in_body p h lt = elim h.phase [ inl t ↦ let none = t.nothing_left in absurd (omega arith) | inr b ↦ b ]

-- the same fields, and some bytes more
pub placed_more : (old new : Partial) (bytes : List ℕ) → fields_of old ≡ fields_of new → bytes_of new ≡ bytes_of old ++ bytes
    → (text : List ℕ) → IsPlaced old text → IsPlaced new (text ++ bytes)
placed_more old new bytes fields same text g =
    subst (λ (x : List Field × List ℕ). Progress request_format (text ++ bytes) x.0 x.1)
    (ap (λ (x : List Field). (x, bytes_of old ++ bytes)) fields ∙ ap (λ (x : List ℕ). (fields_of new, x)) (sym same))
    (progress-longer request_format text (fields_of old) (bytes_of old) bytes g)

-- a byte at the end of a token
pub token_more : (token body : List ℕ) (byte : ℕ) → body ≡ [] → (token ++ byte ∷ []) ++ body ≡ (token ++ body) ++ byte ∷ []
token_more token body byte none = rw (none, append-nil token) (append-nil (token ++ byte ∷ []))

-- a fault in the token that a byte more gives
pub fault_stands : (p : Partial) (token : List ℕ) (byte at place : ℕ) (fault : RequestFault) → Holds p → p.left ≡ 0
    → token ≡ p.token ++ byte ∷ [] → at ≡ bytes_before p.part (length p.words) p.together
    → step_of request_format (due_in p) token ≡ refuses place fault
    → (text : List ℕ) → IsPlaced p text → Stands request_format (text ++ byte ∷ []) (at + place) fault
fault_stands p token byte at place fault h left is here s text g =
    let t = in_token p h left in
    let bytes : token ≡ bytes_of p ++ byte ∷ [] =
    is ∙ sym (append-nil (p.token ++ byte ∷ [])) ∙ ap (λ (x : List ℕ). (p.token ++ byte ∷ []) ++ x) (sym t.no_body)
    ∙ token_more p.token p.body byte t.no_body in
    let where_it_is : fields_len (fields_of p) ≡ at = fields_len-before p.part p.count p.words p.together h.counts.sum ∙ sym here in
    subst (λ (i : ℕ). Stands request_format (text ++ byte ∷ []) (i + place) fault) where_it_is
    (longer-stands request_format four_request text (fields_of p) (due_in p) (bytes_of p) (byte ∷ []) place fault g
    (due_is p h.counts) (ap (step_of request_format (due_in p)) (sym bytes) ∙ s))

-- the end of a field after some bytes
pub finished : (old mid new : Partial) (piece : List ℕ) (n : ℕ) (turn : Turn) → n ≤ length piece
    → ((text : List ℕ) → IsPlaced old text → IsPlaced mid (text ++ take n piece)) → Finishes mid new n turn → Says old new piece turn
finished old mid new piece n (More taken) fits more f = (rw f.0 fits, f.1, λ text g. f.2 (text ++ take taken piece) (rw f.0 (more text g)))
finished old mid new piece n (Whole q taken) fits more f = (rw f.0 fits, λ text g. f.1 (text ++ take taken piece) (rw f.0 (more text g)))
finished old mid new piece n (Bad at fault) fits more f = absurd f
finished old mid new piece n Memory fits more f = tt

-- what is so of the first byte is so of the piece
pub one_byte : (old new : Partial) (piece : List ℕ) (byte : ℕ) (turn : Turn) → 0 < length piece → byte ≡ get_or piece 0 0
    → Says old new (byte ∷ []) turn → Says old new piece turn
one_byte old new [] byte turn lt e s = absurd (omega arith)
one_byte old new (b ∷ piece) byte (More zero) lt e s = (omega arith, s.1, s.2)
one_byte old new (b ∷ piece) byte (More (suc zero)) lt e s =
    (omega arith, s.1, subst (λ (x : ℕ). (text : List ℕ) → IsPlaced old text → IsPlaced new (text ++ x ∷ [])) e s.2)
one_byte old new (b ∷ piece) byte (More (suc (suc taken))) lt e s = absurd (omega (arith, s.0))
one_byte old new (b ∷ piece) byte (Whole q zero) lt e s = (omega arith, s.1)
one_byte old new (b ∷ piece) byte (Whole q (suc zero)) lt e s =
    (omega arith, subst (λ (x : ℕ). (text : List ℕ) → IsPlaced old text → SpellsRequest (text ++ x ∷ []) q) e s.1)
one_byte old new (b ∷ piece) byte (Whole q (suc (suc taken))) lt e s = absurd (omega (arith, s.0))
one_byte old new (b ∷ piece) byte (Bad at fault) lt e s = λ text g.
    let one : Stands request_format (text ++ b ∷ []) at fault =
    subst (λ (x : ℕ). Stands request_format (text ++ x ∷ []) at fault) e (s text g) in
    subst (λ (x : List ℕ). Stands request_format x at fault) (append_assoc text (b ∷ []) piece)
    (stands-longer request_format four_request (text ++ b ∷ []) piece at fault one)
one_byte old new (b ∷ piece) byte Memory lt e s = tt
