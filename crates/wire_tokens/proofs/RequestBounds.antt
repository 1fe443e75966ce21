-- How long a short text of a request can be.
use Rattle.std.proofs.Common.{◌≡◌, ℕ, ◌+◌, ◌*◌, ◌<◌, ◌≤◌, List, [], ◌∷◌, ◌++◌, length, Some, refl, sym, ap, subst, ◌∙◌, append_assoc}
use Rattle.std.proofs.Common.{arith, inl, inr}
use Rattle.std.specs.Prelude.{nat_le}
use Rattle.std.proofs.lemmas.Bool.{leb-true, cases_lt}
use Rattle.std.proofs.lemmas.List.{length-append, append-nil}
use Rattle.std.proofs.lemmas.List.Sums.{sum_by-cons, sum_by_push}
use Rattle.farm_types.specs.Limits.{word_max, words_bytes_max, words_max, source_max}
use Rattle.wire_tokens.specs.declared.faults.RequestFault.{RequestFault}
use Rattle.wire_tokens.specs.Format.{Field, Due, IsFront}
use Rattle.wire_tokens.specs.Request.{request_format, request_due, dist_due, argc_due, argv_due, doti_due, bodies_len, SpellsRequest}
use Rattle.wire_tokens.specs.Request.{IsShortRequest}
use Rattle.wire_tokens.proofs.Readings.{short, Ends, front_of, front_len, fields_len}
use Rattle.wire_tokens.proofs.Texts.{short-reads}
use Rattle.wire_tokens.proofs.Fields.{allowed_twice, due_again, plain, bodied}
use Rattle.wire_tokens.proofs.Request.{four_request, due_word, due_source, due_none, count_is, request_spelling}
use Rattle.wire_tokens.proofs.ReplyBounds.{last_len, at_most, at_most_twice}

fields_len-is : (fields : List Field) → fields_len fields ≡ 12 * length fields + bodies_len fields
unfolding fields_len
fields_len-is [] = refl
fields_len-is (f ∷ fields) = omega (arith, fields_len-is fields, sum_by-cons (λ (f : Field). length f.body) f fields)

-- while something is due, the words are no more than the count, and have no more bytes than they may
words_bound : (a b : Field) (done fields : List Field) (front : List ℕ) (due : Due RequestFault) → length done ≤ b.number
    → bodies_len done ≤ words_bytes_max → IsFront request_format (a ∷ b ∷ done) fields front
    → request_due (a ∷ b ∷ (done ++ fields)) ≡ Some due
    → (length (done ++ fields) ≤ b.number) × (bodies_len (done ++ fields) ≤ words_bytes_max)
words_bound a b done [] front due count together r e =
    subst (λ (x : List Field). (length x ≤ b.number) × (bodies_len x ≤ words_bytes_max)) (sym (append-nil done)) (count, together)
words_bound a b done (f ∷ fields) front due count together r e =
    elim (cases_lt (length done) b.number) [
      | inl lt ↦
          let word : Due RequestFault = argv_due (bodies_len done) in
          let is = due_again word r.0 f r.1 (sym (due_word a b done lt) ∙ r.3) r.4 in
          let k : f.number ≡ length f.body = bodied word f r.1 refl is in
          let rule = allowed_twice (nat_le f.number word_max) (nat_le (bodies_len done + f.number) words_bytes_max) _ _ is.right in
          let sum : bodies_len done + f.number ≤ words_bytes_max = leb-true (bodies_len done + f.number) words_bytes_max rule.1 in
          let push : bodies_len (done ++ f ∷ []) ≡ bodies_len done + length f.body = sum_by_push (λ (f : Field). length f.body) done f in
          let len : length (done ++ f ∷ []) ≡ length done + 1 = length-append done (f ∷ []) in
          let same : (done ++ f ∷ []) ++ fields ≡ done ++ f ∷ fields = append_assoc done (f ∷ []) fields in
          let z = words_bound a b (done ++ f ∷ []) fields r.2 due (omega arith) (omega arith) r.6
          (subst (λ (x : List Field). request_due (a ∷ b ∷ x) ≡ Some due) (sym same) e) in
          subst (λ (x : List Field). (length x ≤ b.number) × (bodies_len x ≤ words_bytes_max)) same z
      | inr le ↦
          let past = due_none a b (done ++ f ∷ fields) (omega (arith, length-append done (f ∷ fields))) in
          let no = sym past ∙ e in
          absurd cc
    ]

by_fields : (fields : List Field) (front rest : List ℕ) → IsFront request_format [] fields front
    → Ends request_format fields rest short → fields_len fields + length rest < 34615332
unfolding fields_len
by_fields [] front rest r e =
    let l = last_len request_format _ e.0 rest 0 e.1 e.2 (λ m ok. omega arith) in
    omega (arith, l)
by_fields (a ∷ []) front rest r e =
    let pa = ap length (plain _ a r.1 refl (due_again _ r.0 a r.1 r.3 r.4)).1 in
    let l = last_len request_format _ e.0 rest 0 e.1 e.2 (λ m ok. omega arith) in
    omega (arith, l, pa)
by_fields (a ∷ b ∷ words) front rest r e =
    let r2 = r.6 in
    let fb = due_again argc_due r2.0 b r2.1 r2.3 r2.4 in
    let pa = ap length (plain dist_due a r.1 refl (due_again dist_due r.0 a r.1 r.3 r.4)).1 in
    let pb = ap length (plain argc_due b r2.1 refl fb).1 in
    let most : b.number ≤ words_max = leb-true b.number words_max (count_is (nat_le 1 b.number) (nat_le b.number words_max) _ fb.right).1 in
    let z = words_bound a b [] words r2.2 e.0 (omega arith) (omega arith) r2.6 e.1 in
    let few = z.0 in
    let bytes = z.1 in
    let is = fields_len-is words in
    elim (cases_lt (length words) b.number) [
      | inl lt ↦
          let l = last_len request_format (argv_due (bodies_len words)) e.0 rest word_max (sym (due_word a b words lt) ∙ e.1) e.2
          (λ m ok. at_most_twice m word_max _ _ _ ok) in
          omega (arith, l, pa, pb, is)
      | inr le ↦
          let l = last_len request_format doti_due e.0 rest source_max (sym (due_source a b words (omega arith)) ∙ e.1) e.2
          (λ m ok. at_most m source_max _ ok) in
          omega (arith, l, pa, pb, is)
    ]

-- A short text of a request has at most 34,615,331 bytes.
pub short_request_len : (text : List ℕ) → IsShortRequest text → length text ≤ 34615331
short_request_len text h =
    let r = short-reads request_format SpellsRequest request_spelling text h in
    let z = front_of request_format [] text r.0 short r.1 in
    let l = by_fields r.0 z.0 z.1 z.2 z.4 in
    omega (arith, l, ap length z.3, length-append z.0 z.1, front_len request_format four_request [] r.0 z.0 z.2)
