-- The texts that spell outcomes are the whole fronts of the format of replies.
use Rattle.std.proofs.Common.{◌≡◌, ◌≢◌, ℕ, ◌≤◌, true, eqb, List, [], ◌∷◌, ◌++◌, length, get_or, None, refl, sym, ap, subst, ◌∙◌}
use Rattle.std.proofs.Common.{append_assoc, arith, inl, inr}
use Rattle.std.specs.Prelude.{codes, nat_le, ◌||◌}
use Rattle.std.proofs.lemmas.Bool.{leb-true, le-leb, eqb-true, eq-eqb, or_cases, or_left, or_right, cases_lt}
use Rattle.std.proofs.lemmas.List.{append-nil, nil_from_length}
use Rattle.farm_types.specs.Limits.{messages_max, object_max}
use Rattle.farm_types.specs.declared.ran.Outcome.{Outcome}
use Rattle.wire_tokens.specs.Token.{IsToken}
use Rattle.wire_tokens.specs.Format.{Field, IsFront}
use Rattle.wire_tokens.specs.Reply.{SpellsReply, version_fault, err_fault, out_fault, object_fault, reply_due, reply_format}
use Rattle.wire_tokens.proofs.Readings.{FourLetters}
use Rattle.wire_tokens.proofs.Fields.{four_of_due, plain, plain_field, bodied, bodied_field, allowed, allowed_twice, due_again, token_of}
use Rattle.wire_tokens.proofs.Fields.{same_field}
use Rattle.wire_tokens.proofs.Texts.{Spelling}

pub four_reply : FourLetters reply_format
four_reply [] due e = four_of_due _ due refl e
four_reply (a ∷ []) due e = four_of_due _ due refl e
four_reply (a ∷ b ∷ []) due e = four_of_due _ due refl e
four_reply (a ∷ b ∷ c ∷ []) due e = four_of_due _ due refl e
four_reply (a ∷ b ∷ c ∷ d ∷ []) due e = four_of_due _ due refl e
four_reply (a ∷ b ∷ c ∷ d ∷ f ∷ more) due e = absurd cc

either_zero : (m n : ℕ) → (eqb m 0 || eqb n 0) ≡ true → m ≢ 0 → n ≡ 0
either_zero m n e h =
    elim (or_cases (eqb m 0) (eqb n 0) e) [
      | inl p ↦ absurd (h (eqb-true m 0 p))
      | inr q ↦ eqb-true n 0 q
    ]

zero_either : (m n : ℕ) → (m ≢ 0 → n ≡ 0) → (eqb m 0 || eqb n 0) ≡ true
zero_either m n h =
    elim (cases_lt 0 m) [
      | inl lt ↦ or_right (eqb m 0) (eqb n 0) (eq-eqb n 0 (h (omega arith)))
      | inr le ↦ or_left (eqb m 0) (eqb n 0) (eq-eqb m 0 (omega arith))
    ]

unfoldable pub reply_fields : Outcome → List Field
reply_fields o =
    record { number = 1; body = [] } ∷ record { number = o.status; body = [] } ∷ record { number = length o.err; body = o.err }
    ∷ record { number = length o.out; body = o.out } ∷ record { number = length o.object; body = o.object } ∷ []

-- A spelling is a whole front of the format.
pub spelled-front : (text : List ℕ) (o : Outcome) → SpellsReply text o → IsFront reply_format [] (reply_fields o) text
unfolding reply_fields
spelled-front text o s =
    let after_sout : List ℕ = s.sout ++ (o.out ++ (s.doto ++ o.object)) in
    let after_serr : List ℕ = s.serr ++ (o.err ++ after_sout) in
    let ok_err : err_fault (length o.err) ≡ None = rw (le-leb _ _ s.fits.err_fits) refl in
    let ok_out : out_fault (length o.out) ≡ None = rw (le-leb _ _ s.fits.out_fits) refl in
    let ok_object : object_fault o.status (length o.object) ≡ None =
    rw (le-leb _ _ s.fits.object_fits, zero_either o.status (length o.object) (λ h. ap length (s.fits.failure h))) refl in (
      _,
      s.done,
      s.stat ++ after_serr,
      refl,
      plain_field _ 1 s.done refl refl s.is_done,
      s.parts,
      (
        _,
        s.stat,
        after_serr,
        refl,
        plain_field _ o.status s.stat refl refl s.is_stat,
        refl,
        (
          _,
          s.serr ++ o.err,
          after_sout,
          refl,
          bodied_field _ o.err s.serr refl ok_err s.is_serr,
          sym (append_assoc s.serr o.err after_sout),
          (
            _,
            s.sout ++ o.out,
            s.doto ++ o.object,
            refl,
            bodied_field _ o.out s.sout refl ok_out s.is_sout,
            sym (append_assoc s.sout o.out (s.doto ++ o.object)),
            (
              _,
              s.doto ++ o.object,
              [],
              refl,
              bodied_field _ o.object s.doto refl ok_object s.is_doto,
              sym (append-nil (s.doto ++ o.object)),
              refl,
            ),
          ),
        ),
      ),
    )

version_is : (n : ℕ) → version_fault n ≡ None → n ≡ 1
version_is n e = eqb-true n 1 (allowed (eqb n 1) _ e)

pub front-spelled : (fields : List Field) (text : List ℕ) → IsFront reply_format [] fields text → reply_due fields ≡ None
    → (o : Outcome) × SpellsReply text o × (fields ≡ reply_fields o)
unfolding reply_fields
front-spelled [] text r e = absurd cc
front-spelled (a ∷ []) text r e = absurd cc
front-spelled (a ∷ b ∷ []) text r e = absurd cc
front-spelled (a ∷ b ∷ c ∷ []) text r e = absurd cc
front-spelled (a ∷ b ∷ c ∷ d ∷ []) text r e = absurd cc
front-spelled (a ∷ b ∷ c ∷ d ∷ f ∷ []) text r e =
    let r2 = r.6 in
    let r3 = r2.6 in
    let r4 = r3.6 in
    let r5 = r4.6 in
    let fa = due_again _ r.0 a r.1 r.3 r.4 in
    let fb = due_again _ r2.0 b r2.1 r2.3 r2.4 in
    let fc = due_again _ r3.0 c r3.1 r3.3 r3.4 in
    let fd = due_again _ r4.0 d r4.1 r4.3 r4.4 in
    let ff = due_again _ r5.0 f r5.1 r5.3 r5.4 in
    let pa = plain _ a r.1 refl fa in
    let pb = plain _ b r2.1 refl fb in
    let one : a.number ≡ 1 = version_is a.number fa.right in
    let kc = bodied _ c r3.1 refl fc in
    let kd = bodied _ d r4.1 refl fd in
    let kf = bodied _ f r5.1 refl ff in
    let fits_c = leb-true c.number messages_max (allowed (nat_le c.number messages_max) _ fc.right) in
    let fits_d = leb-true d.number messages_max (allowed (nat_le d.number messages_max) _ fd.right) in
    let rule_f = allowed_twice (nat_le f.number object_max) (eqb b.number 0 || eqb f.number 0) _ _ ff.right in
    let fits_f = leb-true f.number object_max rule_f.0 in
    let o : Outcome = record { status = b.number; err = c.body; out = d.body; object = f.body } in
    let last : r5.1 ++ r5.2 ≡ ff.token ++ f.body = ap (λ (x : List ℕ). r5.1 ++ x) r5.6 ∙ append-nil r5.1 ∙ ff.parts in
    let parts5 : r4.2 ≡ ff.token ++ f.body = r5.5 ∙ last in
    let parts4 : r3.2 ≡ fd.token ++ (d.body ++ (ff.token ++ f.body)) = r4.5 ∙ ap (λ (x : List ℕ). x ++ r4.2) fd.parts
    ∙ append_assoc fd.token d.body r4.2 ∙ ap (λ (x : List ℕ). fd.token ++ (d.body ++ x)) parts5 in
    let parts3 : r2.2 ≡ fc.token ++ (c.body ++ (fd.token ++ (d.body ++ (ff.token ++ f.body)))) =
    r3.5 ∙ ap (λ (x : List ℕ). x ++ r3.2) fc.parts ∙ append_assoc fc.token c.body r3.2
    ∙ ap (λ (x : List ℕ). fc.token ++ (c.body ++ x)) parts4 in
    let parts2 : r.2 ≡ r2.1 ++ (fc.token ++ (c.body ++ (fd.token ++ (d.body ++ (ff.token ++ f.body))))) =
    r2.5 ∙ ap (λ (x : List ℕ). r2.1 ++ x) parts3 in (
      o,
      record {
        fits = record {
          err_fits = subst (λ (k : ℕ). k ≤ messages_max) kc fits_c;
          out_fits = subst (λ (k : ℕ). k ≤ messages_max) kd fits_d;
          object_fits = subst (λ (k : ℕ). k ≤ object_max) kf fits_f;
          failure = λ h. nil_from_length f.body (sym kf ∙ either_zero b.number f.number rule_f.1 h);
        };
        done = r.1;
        stat = r2.1;
        serr = fc.token;
        sout = fd.token;
        doto = ff.token;
        is_done = subst (λ (k : ℕ). IsToken (codes "DONE") k r.1) one pa.0;
        is_stat = pb.0;
        is_serr = token_of _ (codes "SERR") c r3.1 refl refl fc;
        is_sout = token_of _ (codes "SOUT") d r4.1 refl refl fd;
        is_doto = token_of _ (codes "DOTO") f r5.1 refl refl ff;
        parts = r.5 ∙ ap (λ (x : List ℕ). r.1 ++ x) parts2;
      },
      let ea = same_field a 1 [] one pa.1 in
          let eb = same_field b b.number [] refl pb.1 in
          let ec = same_field c (length c.body) c.body kc refl in
          let ed = same_field d (length d.body) d.body kd refl in
          let ef = same_field f (length f.body) f.body kf refl in
          cc,
    )
front-spelled (a ∷ b ∷ c ∷ d ∷ f ∷ g ∷ more) text r e =
    let no = r.6.6.6.6.6.3 in
    absurd cc

pub same_outcome : (o p : Outcome) → reply_fields o ≡ reply_fields p → o ≡ p
unfolding reply_fields
same_outcome o p e =
    let none : Field = record { number = 0; body = [] } in
    let status : o.status ≡ p.status = ap (λ (fs : List Field). (get_or fs 1 none).number) e in
    let err : o.err ≡ p.err = ap (λ (fs : List Field). (get_or fs 2 none).body) e in
    let out : o.out ≡ p.out = ap (λ (fs : List Field). (get_or fs 3 none).body) e in
    let object : o.object ≡ p.object = ap (λ (fs : List Field). (get_or fs 4 none).body) e in
    ap (λ (x : ℕ). let q : Outcome = record { status = x; err = o.err; out = o.out; object = o.object } in q) status
    ∙ ap (λ (x : List ℕ). let q : Outcome = record { status = p.status; err = x; out = o.out; object = o.object } in q) err
    ∙ ap (λ (x : List ℕ). let q : Outcome = record { status = p.status; err = p.err; out = x; object = o.object } in q) out
    ∙ ap (λ (x : List ℕ). let q : Outcome = record { status = p.status; err = p.err; out = p.out; object = x } in q) object

pub whole_due : (o : Outcome) → reply_due (reply_fields o) ≡ None
unfolding reply_fields
whole_due o = refl

abbrev pub reply_spelling : Spelling reply_format SpellsReply
reply_spelling = record {
  four = four_reply;
  fields = reply_fields;
  front = spelled-front;
  whole_due = whole_due;
  spelled = front-spelled;
  same = same_outcome;
}
