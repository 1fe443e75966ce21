-- The end of a field.
use Rattle.std.proofs.Common.{◌≡◌, ℕ, ◌+◌, ◌≤◌, eqb, List, [], ◌∷◌, ◌++◌, length, Some, refl, sym, ap, subst, ◌∙◌, append_assoc, arith, inl}
use Rattle.std.specs.Prelude.{nat_le}
use Rattle.std.proofs.lemmas.Bool.{leb-true, eqb-true}
use Rattle.std.proofs.lemmas.List.{append-nil, nil_from_length, length-append}
use Rattle.farm_types.specs.Limits.{messages_max}
use Rattle.farm_types.specs.declared.ran.Outcome.{Outcome}
use Rattle.wire_tokens.specs.declared.faults.ReplyFault.{ReplyFault}
use Rattle.wire_tokens.specs.Format.{Field, Due, IsField, Progress}
use Rattle.wire_tokens.specs.Reply.{reply_format, reply_due, SpellsReply}
use Rattle.wire_tokens.proofs.PartialTokens.{none-short, field-whole, progress-field}
use Rattle.wire_tokens.proofs.Fields.{allowed}
use Rattle.wire_tokens.proofs.Reply.{four_reply, reply_fields, front-spelled, same_outcome}
use Rattle.compile_reply.specs.Decoding.{due_of}
use Rattle.compile_reply.specs.declared.part.Part.{Part}
use Rattle.compile_reply.specs.declared.part.Part.TheVariants.{Done, Stat, Serr, Sout, Doto}
use Rattle.reply_stream.specs.Parts.{number_field, text_field, fields_before, IsAtPart}
use Rattle.reply_stream.specs.declared.partial.Partial.{Partial}
use Rattle.reply_stream.specs.Taking.{fields_of, bytes_of, due_in, IsPlaced, Counts, Holds, IsReady}

-- what is due after the fields before a part
due_before : (part : Part) (status : ℕ) (err out : List ℕ) → IsAtPart part status
    → reply_due (fields_before part status err out) ≡ Some (due_of part)
due_before Done status err out at = refl
due_before Stat status err out at = refl
due_before Serr status err out at = refl
due_before Sout status err out at = refl
due_before (Doto beside) status err out at = ap (λ (k : ℕ). Some (due_of (Doto k))) (sym at)

pub due_is : (p : Partial) → Counts p → reply_due (fields_of p) ≡ Some (due_in p)
due_is p counts = due_before p.part p.status p.err p.out counts.at_part

-- where nothing has come of the next field
pub holds_afresh : (p : Partial) → Counts p → p.left ≡ 0 → p.given ≡ 0 → p.body ≡ [] → p.token ≡ [] → Holds p
holds_afresh p counts left given body token = record {
  counts = counts;
  phase = inl (record {
    nothing_left = left;
    no_body = body;
    none_given = given;
    token = none-short (due_in p) p.token token;
  });
}

pub placed_afresh : (p : Partial) (text object : List ℕ) (fields : List Field) → p.body ≡ [] → p.token ≡ [] → p.given ≡ 0
    → object ≡ [] → fields ≡ fields_of p → Progress reply_format text fields [] → IsPlaced p text object
placed_afresh p text object fields body token given none same g =
    let bytes : [] ≡ bytes_of p ++ object =
    sym (ap (λ (x : List ℕ). (x ++ p.body) ++ object) token ∙ ap (λ (x : List ℕ). x ++ object) body ∙ none) in
    record {
      progress = subst (λ (x : List Field × List ℕ). Progress reply_format text x.0 x.1)
          (ap (λ (x : List Field). (x, [])) same ∙ ap (λ (x : List ℕ). (fields_of p, x)) bytes) g;
      given = ap length none ∙ sym given;
    }

abbrev pub done_field : ℕ → List ℕ → Field
done_field n body = record { number = n; body = body }

-- the field is one more
pub field_done : (p : Partial) (n : ℕ) → IsReady p n → (text object : List ℕ) → IsPlaced p text object
    → Progress reply_format text (fields_of p ++ done_field n (p.body ++ object) ∷ []) []
field_done p n r text object g =
    let due : Due ReplyFault = due_in p in
    let e : reply_due (fields_of p) ≡ Some due = due_is p r.counts in
    let sized = length-append p.body object ∙ ap (λ (k : ℕ). length p.body + k) g.given ∙ sym r.no_more in
    let field = field-whole due p.token (p.body ++ object) n (four_reply (fields_of p) due e) r.token sized in
    progress-field reply_format text (fields_of p) due (done_field n (p.body ++ object)) (bytes_of p ++ object) g.progress e
    (subst (IsField due (done_field n (p.body ++ object))) (sym (append_assoc p.token p.body object)) field)

-- ---- by the part

at_part : (p : Partial) (n : ℕ) (part : Part) → p.part ≡ part → IsReady p n → IsReady (record p { part = part }) n
at_part p n part e r = subst (λ (x : Part). IsReady (record p { part = x }) n) e r

placed_at : (p : Partial) (part : Part) (text object : List ℕ) → p.part ≡ part → IsPlaced p text object
    → IsPlaced (record p { part = part }) text object
placed_at p part text object e g = subst (λ (x : Part). IsPlaced (record p { part = x }) text object) e g

-- what was not counted isn't there
none_given : (p : Partial) (text object : List ℕ) → p.given ≡ 0 → IsPlaced p text object → object ≡ []
none_given p text object given g = nil_from_length object (g.given ∙ given)

-- a message that is whole
whole_text : (n : ℕ) (body object : List ℕ) → n ≡ length body → object ≡ [] → done_field n (body ++ object) ≡ text_field body
whole_text n body object len none =
    ap (λ (x : List ℕ). done_field n (body ++ x)) none ∙ ap (λ (x : List ℕ). done_field n x) (append-nil body)
    ∙ ap (λ (k : ℕ). done_field k body) len

-- a number that is whole
whole_number : (n m : ℕ) (body object : List ℕ) → n ≡ m → body ≡ [] → object ≡ [] → done_field n (body ++ object) ≡ number_field m
whole_number n m body object is bare none =
    ap (λ (x : List ℕ). done_field n (body ++ x)) none ∙ ap (λ (x : List ℕ). done_field n (x ++ [])) bare
    ∙ ap (λ (k : ℕ). done_field k []) is

pub after_done : (old new : Partial) (n : ℕ) → old.part ≡ Done → IsReady old n → new.part ≡ Stat → new.err ≡ old.err
    → new.out ≡ old.out → new.left ≡ 0 → new.given ≡ old.given → new.body ≡ [] → new.token ≡ []
    → Holds new × ((text object : List ℕ) → IsPlaced old text object → IsPlaced new text object)
after_done old new n is r part err out left given body token =
    let q = at_part old n Done is r in
    let one : n ≡ 1 = eqb-true n 1 (allowed (eqb n 1) _ q.token.right) in
    let uncounted : old.given ≡ 0 = q.kept in
    let bare : old.body ≡ [] = nil_from_length old.body (omega (arith, q.no_more, uncounted)) in
    let counts : Counts new = record {
      at_part = subst (λ (x : Part). IsAtPart x new.status) (sym part) tt;
      small_err = rw err r.counts.small_err;
      small_out = rw out r.counts.small_out;
    } in (
      holds_afresh new counts left (given ∙ uncounted) body token,
      λ text object g.
          let none = none_given old text object uncounted g in
          let fields : done_field n (old.body ++ object) ∷ [] ≡ fields_of new =
          ap (λ (x : Field). x ∷ []) (whole_number n 1 old.body object one bare none)
          ∙ ap (λ (x : Part). fields_before x new.status new.err new.out) (sym part) in
          placed_afresh new text object (done_field n (old.body ++ object) ∷ []) body token (given ∙ uncounted) none fields
          (field_done (record old { part = Done }) n q text object (placed_at old Done text object is g)),
    )

pub after_stat : (old new : Partial) (n : ℕ) → old.part ≡ Stat → IsReady old n → new.part ≡ Serr → new.status ≡ n
    → new.err ≡ old.err → new.out ≡ old.out → new.left ≡ 0 → new.given ≡ old.given → new.body ≡ [] → new.token ≡ []
    → Holds new × ((text object : List ℕ) → IsPlaced old text object → IsPlaced new text object)
after_stat old new n is r part status err out left given body token =
    let q = at_part old n Stat is r in
    let uncounted : old.given ≡ 0 = q.kept in
    let bare : old.body ≡ [] = nil_from_length old.body (omega (arith, q.no_more, uncounted)) in
    let counts : Counts new = record {
      at_part = subst (λ (x : Part). IsAtPart x new.status) (sym part) tt;
      small_err = rw err r.counts.small_err;
      small_out = rw out r.counts.small_out;
    } in (
      holds_afresh new counts left (given ∙ uncounted) body token,
      λ text object g.
          let none = none_given old text object uncounted g in
          let fields : number_field 1 ∷ done_field n (old.body ++ object) ∷ [] ≡ fields_of new =
          ap (λ (x : Field). number_field 1 ∷ x ∷ []) (whole_number n new.status old.body object (sym status) bare none)
          ∙ ap (λ (x : Part). fields_before x new.status new.err new.out) (sym part) in
          placed_afresh new text object (number_field 1 ∷ done_field n (old.body ++ object) ∷ []) body token (given ∙ uncounted) none fields
          (field_done (record old { part = Stat }) n q text object (placed_at old Stat text object is g)),
    )

pub after_serr : (old new : Partial) (n : ℕ) → old.part ≡ Serr → IsReady old n → new.part ≡ Sout → new.status ≡ old.status
    → new.err ≡ old.body → new.out ≡ old.out → new.left ≡ 0 → new.given ≡ old.given → new.body ≡ [] → new.token ≡ []
    → Holds new × ((text object : List ℕ) → IsPlaced old text object → IsPlaced new text object)
after_serr old new n is r part status err out left given body token =
    let q = at_part old n Serr is r in
    let uncounted : old.given ≡ 0 = q.kept in
    let len : n ≡ length old.body = omega (arith, q.no_more, uncounted) in
    let small : n ≤ messages_max = leb-true n messages_max (allowed (nat_le n messages_max) _ q.token.right) in
    let counts : Counts new = record {
      at_part = subst (λ (x : Part). IsAtPart x new.status) (sym part) tt;
      small_err = rw err (omega (arith, small, len));
      small_out = rw out r.counts.small_out;
    } in (
      holds_afresh new counts left (given ∙ uncounted) body token,
      λ text object g.
          let none = none_given old text object uncounted g in
          let fields : number_field 1 ∷ number_field old.status ∷ done_field n (old.body ++ object) ∷ [] ≡ fields_of new =
          ap (λ (x : Field). number_field 1 ∷ number_field old.status ∷ x ∷ []) (whole_text n old.body object len none)
          ∙ ap (λ (x : List ℕ). number_field 1 ∷ number_field old.status ∷ text_field x ∷ []) (sym err)
          ∙ ap (λ (k : ℕ). number_field 1 ∷ number_field k ∷ text_field new.err ∷ []) (sym status)
          ∙ ap (λ (x : Part). fields_before x new.status new.err new.out) (sym part) in
          placed_afresh new text object (number_field 1 ∷ number_field old.status ∷ done_field n (old.body ++ object) ∷ []) body
          token (given ∙ uncounted) none fields
          (field_done (record old { part = Serr }) n q text object (placed_at old Serr text object is g)),
    )

pub after_sout : (old new : Partial) (n : ℕ) → old.part ≡ Sout → IsReady old n → new.part ≡ Doto old.status
    → new.status ≡ old.status → new.err ≡ old.err → new.out ≡ old.body → new.left ≡ 0 → new.given ≡ old.given → new.body ≡ []
    → new.token ≡ []
    → Holds new × ((text object : List ℕ) → IsPlaced old text object → IsPlaced new text object)
after_sout old new n is r part status err out left given body token =
    let q = at_part old n Sout is r in
    let uncounted : old.given ≡ 0 = q.kept in
    let len : n ≡ length old.body = omega (arith, q.no_more, uncounted) in
    let small : n ≤ messages_max = leb-true n messages_max (allowed (nat_le n messages_max) _ q.token.right) in
    let counts : Counts new = record {
      at_part = subst (λ (x : Part). IsAtPart x new.status) (sym part) (sym status);
      small_err = rw err r.counts.small_err;
      small_out = rw out (omega (arith, small, len));
    } in (
      holds_afresh new counts left (given ∙ uncounted) body token,
      λ text object g.
          let none = none_given old text object uncounted g in
          let fields : number_field 1 ∷ number_field old.status ∷ text_field old.err ∷ done_field n (old.body ++ object) ∷ []
          ≡ fields_of new =
          ap (λ (x : Field). number_field 1 ∷ number_field old.status ∷ text_field old.err ∷ x ∷ []) (whole_text n old.body object len none)
          ∙ ap (λ (x : List ℕ). number_field 1 ∷ number_field old.status ∷ text_field old.err ∷ text_field x ∷ []) (sym out)
          ∙ ap (λ (x : List ℕ). number_field 1 ∷ number_field old.status ∷ text_field x ∷ text_field new.out ∷ []) (sym err)
          ∙ ap (λ (k : ℕ). number_field 1 ∷ number_field k ∷ text_field new.err ∷ text_field new.out ∷ []) (sym status)
          ∙ ap (λ (x : Part). fields_before x new.status new.err new.out) (sym part) in
          placed_afresh new text object
          (number_field 1 ∷ number_field old.status ∷ text_field old.err ∷ done_field n (old.body ++ object) ∷ []) body token
          (given ∙ uncounted) none fields
          (field_done (record old { part = Sout }) n q text object (placed_at old Sout text object is g)),
    )

-- no byte of the object was kept
pub nothing_kept : (old : Partial) (beside n : ℕ) → old.part ≡ Doto beside → IsReady old n → old.body ≡ []
nothing_kept old beside n is r = (at_part old n (Doto beside) is r).kept

pub after_doto : (old : Partial) (beside n : ℕ) → old.part ≡ Doto beside → IsReady old n → (text object : List ℕ) → IsPlaced old text object
    → SpellsReply text (record { status = old.status; err = old.err; out = old.out; object = object })
unfolding reply_fields
after_doto old beside n is r text object g =
    let q = at_part old n (Doto beside) is r in
    let bare : old.body ≡ [] = q.kept in
    let len : n ≡ length object = q.no_more ∙ ap (λ (x : List ℕ). length x + old.given) bare ∙ omega (arith, g.given) in
    let o : Outcome = record { status = old.status; err = old.err; out = old.out; object = object } in
    let fields : List Field = number_field 1 ∷ number_field old.status ∷ text_field old.err ∷ text_field old.out
    ∷ done_field n (old.body ++ object) ∷ [] in
    let done : Progress reply_format text fields [] =
    field_done (record old { part = Doto beside }) n q text object (placed_at old (Doto beside) text object is g) in
    let whole : text ≡ done.front = done.parts ∙ append-nil done.front in
    let z = front-spelled fields done.front done.is_front refl in
    let last : done_field n (old.body ++ object) ≡ text_field object = ap (λ (x : List ℕ). done_field n (x ++ object)) bare
    ∙ ap (λ (k : ℕ). done_field k object) len in
    let same : fields ≡ reply_fields o =
    ap (λ (x : Field). number_field 1 ∷ number_field old.status ∷ text_field old.err ∷ text_field old.out ∷ x ∷ []) last in
    let one : z.0 ≡ o = same_outcome z.0 o (sym z.2 ∙ same) in
    subst (λ (x : List ℕ). SpellsReply x o) (sym whole) (subst (SpellsReply done.front) one z.1)
