-- What decoding field by field says of a text.
use Rattle.std.proofs.Common.{◌≡◌, ℕ, ◌-◌, List, [], ◌∷◌, length, get_or, refl, sym, ap, subst, ◌∙◌, arith}
use Rattle.std.proofs.lemmas.List.{length-append}
use Rattle.farm_types.specs.declared.ran.Outcome.{Outcome}
use Rattle.wire_tokens.specs.Format.{Field, Progress}
use Rattle.wire_tokens.specs.Reply.{reply_format, SpellsReply, BeginsReply}
use Rattle.wire_tokens.proofs.Readings.{whole, front_len, fields_len}
use Rattle.wire_tokens.proofs.Texts.{reads-begins}
use Rattle.wire_tokens.proofs.Reply.{four_reply, reply_fields, reply_spelling}
use Rattle.wire_tokens.proofs.Progress.{start, progress-reads, next_field, Answers}
use Rattle.compile_reply.specs.declared.part.Part.TheVariants.{Done, Stat, Serr, Sout, Doto}
use Rattle.compile_reply.specs.Decoding.{due_of, reply_of}

abbrev pub Good : List ℕ → Outcome × ℕ → Type 0
Good text y = BeginsReply text y.1 y.0

finished : (text : List ℕ) (a b c d f : Field) (rest : List ℕ) → Progress reply_format text (a ∷ b ∷ c ∷ d ∷ f ∷ []) rest
    → Good text (record { status = b.number; err = c.body; out = d.body; object = f.body }, length text - length rest)
unfolding reply_fields
finished text a b c d f rest p =
    let fields : List Field = a ∷ b ∷ c ∷ d ∷ f ∷ [] in
    let none : Field = record { number = 0; body = [] } in
    let z = reads-begins reply_format SpellsReply reply_spelling text fields (progress-reads reply_format text fields rest whole p refl) in
    let used : length text - length rest ≡ fields_len fields =
    omega (arith, ap length p.parts, length-append p.front rest, front_len reply_format four_reply [] fields p.front p.is_front) in
    let status : z.0.status ≡ b.number = ap (λ (fs : List Field). (get_or fs 1 none).number) (sym z.2) in
    let err : z.0.err ≡ c.body = ap (λ (fs : List Field). (get_or fs 2 none).body) (sym z.2) in
    let out : z.0.out ≡ d.body = ap (λ (fs : List Field). (get_or fs 3 none).body) (sym z.2) in
    let object : z.0.object ≡ f.body = ap (λ (fs : List Field). (get_or fs 4 none).body) (sym z.2) in
    let same : z.0 ≡ record { status = b.number; err = c.body; out = d.body; object = f.body } =
    ap (λ (x : ℕ). let q : Outcome = record { status = x; err = z.0.err; out = z.0.out; object = z.0.object } in q) status
    ∙ ap (λ (x : List ℕ). let q : Outcome = record { status = b.number; err = x; out = z.0.out; object = z.0.object } in q) err
    ∙ ap (λ (x : List ℕ). let q : Outcome = record { status = b.number; err = c.body; out = x; object = z.0.object } in q) out
    ∙ ap (λ (x : List ℕ). let q : Outcome = record { status = b.number; err = c.body; out = d.body; object = x } in q) object in
    rw used (subst (λ (o : Outcome). BeginsReply text (fields_len fields) o) same z.1)

pub decoded : (text : List ℕ) → Answers reply_format (Good text) text (reply_of text)
unfolding reply_of
decoded text =
    next_field reply_format four_reply (Good text) text [] text (due_of Done) _ (start reply_format text) refl (λ a ra pa.
    next_field reply_format four_reply (Good text) text (a ∷ []) ra (due_of Stat) _ pa refl (λ b rb pb.
    next_field reply_format four_reply (Good text) text (a ∷ b ∷ []) rb (due_of Serr) _ pb refl (λ c rc pc.
    next_field reply_format four_reply (Good text) text (a ∷ b ∷ c ∷ []) rc (due_of Sout) _ pc refl (λ d rd pd.
    next_field reply_format four_reply (Good text) text (a ∷ b ∷ c ∷ d ∷ []) rd (due_of (Doto b.number)) _ pd refl (λ f rf pf.
    finished text a b c d f rf pf)))))
