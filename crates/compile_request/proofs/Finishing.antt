-- The end of a field.
use Rattle.std.proofs.Common.{◌≡◌, ℕ, ◌+◌, ◌≤◌, eqb, List, [], ◌∷◌, ◌++◌, length, Some, None, refl, sym, ap, subst, ◌∙◌, arith, inl, inr}
use Rattle.std.specs.Prelude.{nat_le, sum_by, ◌⊎◌, ◌≢◌}
use Rattle.std.proofs.lemmas.Bool.{leb-true, eqb-true}
use Rattle.std.proofs.lemmas.List.{append-nil, nil_from_length, length-append}
use Rattle.std.proofs.lemmas.List.Sums.{sum_by_push}
use Rattle.farm_types.specs.Limits.{word_max, words_bytes_max, words_max}
use Rattle.farm_types.specs.declared.request.Request.{Request}
use Rattle.wire_tokens.specs.declared.faults.RequestFault.{RequestFault}
use Rattle.wire_tokens.specs.Format.{Field, Due, Progress}
use Rattle.wire_tokens.specs.Request.{request_format, request_due, SpellsRequest, dist_field, argc_field, word_fields}
use Rattle.wire_tokens.proofs.PartialTokens.{none-short, field-whole, progress-field}
use Rattle.wire_tokens.proofs.Fields.{allowed, allowed_twice}
use Rattle.wire_tokens.proofs.Request.{four_request, request_fields, length-word_fields, bodies_len-word_fields, word_fields-push}
use Rattle.wire_tokens.proofs.Request.{due_word, due_source, due_none, count_is, front-spelled, same_request}
use Rattle.compile_request.specs.Parts.{due_of, fields_before, IsAtPart}
use Rattle.compile_request.specs.declared.part.Part.{Part}
use Rattle.compile_request.specs.declared.part.Part.TheVariants.{Dist, Argc, Argv, Doti}
use Rattle.compile_request.specs.declared.partial.Partial.{Partial}
use Rattle.compile_request.specs.Taking.{fields_of, bytes_of, due_in, IsPlaced, Counts, Holds, IsReady}

-- what is due after the fields before a part
due_before : (part : Part) (count : ℕ) (words : List (List ℕ)) (together : ℕ) → IsAtPart part count words
    → together ≡ sum_by length words → request_due (fields_before part count words) ≡ Some (due_of part together)
due_before Dist count words together at sum = refl
due_before Argc count words together at sum = refl
due_before Argv count words together at sum =
    due_word dist_field (argc_field count) (word_fields words) (omega (arith, length-word_fields words, at.0))
    ∙ ap (λ (k : ℕ). Some (due_of Argv k)) (bodies_len-word_fields words ∙ sym sum)
due_before Doti count words together at sum = due_source dist_field (argc_field count) (word_fields words) (length-word_fields words ∙ at.0)

pub due_is : (p : Partial) → Counts p → request_due (fields_of p) ≡ Some (due_in p)
due_is p counts = due_before p.part p.count p.words p.together counts.at_part counts.sum

-- where nothing has come of the next field
pub holds_afresh : (p : Partial) → Counts p → p.left ≡ 0 → p.body ≡ [] → p.token ≡ [] → Holds p
holds_afresh p counts left body token = record {
  counts = counts;
  phase = inl (record {
    nothing_left = left;
    no_body = body;
    token = none-short (due_in p) p.token token;
  });
}

pub placed_afresh : (p : Partial) (text : List ℕ) (fields : List Field) → p.body ≡ [] → p.token ≡ [] → fields ≡ fields_of p
    → Progress request_format text fields [] → IsPlaced p text
placed_afresh p text fields body token same g =
    let bytes : [] ≡ bytes_of p = sym (ap (λ (x : List ℕ). x ++ p.body) token ∙ body) in
    subst (λ (x : List Field × List ℕ). Progress request_format text x.0 x.1)
    (ap (λ (x : List Field). (x, [])) same ∙ ap (λ (x : List ℕ). (fields_of p, x)) bytes) g

abbrev pub done_field : ℕ → List ℕ → Field
done_field n body = record { number = n; body = body }

-- the field is one more
pub field_done : (p : Partial) (n : ℕ) → IsReady p n → (text : List ℕ) → IsPlaced p text
    → Progress request_format text (fields_of p ++ done_field n p.body ∷ []) []
field_done p n r text g =
    let due : Due RequestFault = due_in p in
    let e : request_due (fields_of p) ≡ Some due = due_is p r.counts in
    progress-field request_format text (fields_of p) due (done_field n p.body) (bytes_of p) g e
    (field-whole due p.token p.body n (four_request (fields_of p) due e) r.token (sym r.no_more))

-- ---- by the part

at_part : (p : Partial) (n : ℕ) (part : Part) → p.part ≡ part → IsReady p n → IsReady (record p { part = part }) n
at_part p n part e r = subst (λ (x : Part). IsReady (record p { part = x }) n) e r

placed_at : (p : Partial) (part : Part) (text : List ℕ) → p.part ≡ part → IsPlaced p text → IsPlaced (record p { part = part }) text
placed_at p part text e g = subst (λ (x : Part). IsPlaced (record p { part = x }) text) e g

Goes : Partial → Partial → Type 0
Goes old new = Holds new × ((text : List ℕ) → IsPlaced old text → IsPlaced new text)

pub after_dist : (old new : Partial) (n : ℕ) → old.part ≡ Dist → IsReady old n → new.part ≡ Argc → new.together ≡ old.together
    → new.words ≡ old.words → new.left ≡ 0 → new.body ≡ [] → new.token ≡ []
    → Holds new × ((text : List ℕ) → IsPlaced old text → IsPlaced new text)
after_dist old new n is r part together words left body token =
    let q = at_part old n Dist is r in
    let none : old.words ≡ [] = q.counts.at_part in
    let one : n ≡ 1 = eqb-true n 1 (allowed (eqb n 1) _ q.token.right) in
    let bare : old.body ≡ [] = nil_from_length old.body (sym q.no_more) in
    let counts : Counts new = record {
      at_part = subst (λ (x : Part). IsAtPart x new.count new.words) (sym part) (words ∙ none);
      sum = together ∙ r.counts.sum ∙ ap (sum_by length) (sym words);
      small = rw together r.counts.small;
    } in
    let fields : done_field n old.body ∷ [] ≡ fields_of new =
    ap (λ (k : ℕ). done_field k old.body ∷ []) one ∙ ap (λ (x : List ℕ). done_field 1 x ∷ []) bare
    ∙ ap (λ (x : Part). fields_before x new.count new.words) (sym part) in (
      holds_afresh new counts left body token,
      λ text g. placed_afresh new text (done_field n old.body ∷ []) body token fields
          (field_done (record old { part = Dist }) n q text (placed_at old Dist text is g)),
    )

after_count : (k : ℕ) (words : List (List ℕ)) → words ≡ [] → dist_field ∷ argc_field k ∷ [] ≡ fields_before Argv k words
unfolding word_fields
after_count k words e = ap (λ (x : List (List ℕ)). dist_field ∷ argc_field k ∷ word_fields x) (sym e)

pub after_argc : (old new : Partial) (n : ℕ) → old.part ≡ Argc → IsReady old n → new.part ≡ Argv → new.count ≡ n
    → new.together ≡ old.together → new.words ≡ old.words → new.left ≡ 0 → new.body ≡ [] → new.token ≡ []
    → Holds new × ((text : List ℕ) → IsPlaced old text → IsPlaced new text)
after_argc old new n is r part count together words left body token =
    let q = at_part old n Argc is r in
    let none : old.words ≡ [] = q.counts.at_part in
    let rule = count_is (nat_le 1 n) (nat_le n words_max) _ q.token.right in
    let low : 1 ≤ n = leb-true 1 n rule.0 in
    let high : n ≤ words_max = leb-true n words_max rule.1 in
    let bare : old.body ≡ [] = nil_from_length old.body (sym q.no_more) in
    let empty : length new.words ≡ 0 = ap length (words ∙ none) in
    let here : IsAtPart Argv new.count new.words = (omega arith, omega arith) in
    let counts : Counts new = record {
      at_part = subst (λ (x : Part). IsAtPart x new.count new.words) (sym part) here;
      sum = together ∙ r.counts.sum ∙ ap (sum_by length) (sym words);
      small = rw together r.counts.small;
    } in
    let fields : dist_field ∷ done_field n old.body ∷ [] ≡ fields_of new =
    ap (λ (x : List ℕ). dist_field ∷ done_field n x ∷ []) bare ∙ ap (λ (k : ℕ). dist_field ∷ argc_field k ∷ []) (sym count)
    ∙ after_count new.count new.words (words ∙ none) ∙ ap (λ (x : Part). fields_before x new.count new.words) (sym part) in (
      holds_afresh new counts left body token,
      λ text g. placed_afresh new text (dist_field ∷ done_field n old.body ∷ []) body token fields
          (field_done (record old { part = Argc }) n q text (placed_at old Argc text is g)),
    )

pub after_argv : (old new : Partial) (n : ℕ) → old.part ≡ Argv → IsReady old n → new.count ≡ old.count
    → new.together ≡ old.together + length old.body → new.words ≡ old.words ++ old.body ∷ [] → new.left ≡ 0 → new.body ≡ [] → new.token ≡ []
    → (new.part ≡ Argv) × (length new.words ≢ new.count) ⊎ (new.part ≡ Doti) × (length new.words ≡ new.count)
    → Holds new × ((text : List ℕ) → IsPlaced old text → IsPlaced new text)
after_argv old new n is r count together words left body token part =
    let q = at_part old n Argv is r in
    let at : IsAtPart Argv old.count old.words = q.counts.at_part in
    let is_n : n ≡ length old.body = q.no_more in
    let rule = allowed_twice (nat_le n word_max) (nat_le (old.together + n) words_bytes_max) _ _ q.token.right in
    let small : old.together + n ≤ words_bytes_max = leb-true (old.together + n) words_bytes_max rule.1 in
    let len : length new.words ≡ length old.words + 1 = ap length words ∙ length-append old.words (old.body ∷ []) in
    let sum : new.together ≡ sum_by length new.words = together ∙ ap (λ (k : ℕ). k + length old.body) r.counts.sum
    ∙ sym (ap (sum_by length) words ∙ sum_by_push length old.words old.body) in
    let fits : new.together ≤ words_bytes_max = omega arith in
    let fields : dist_field ∷ argc_field old.count ∷ (word_fields old.words ++ done_field n old.body ∷ [])
    ≡ dist_field ∷ argc_field new.count ∷ word_fields new.words =
    ap (λ (k : ℕ). dist_field ∷ argc_field old.count ∷ (word_fields old.words ++ done_field k old.body ∷ [])) is_n
    ∙ ap (λ (x : List Field). dist_field ∷ argc_field old.count ∷ x) (sym (word_fields-push old.words old.body))
    ∙ ap (λ (x : List (List ℕ)). dist_field ∷ argc_field old.count ∷ word_fields x) (sym words)
    ∙ ap (λ (k : ℕ). dist_field ∷ argc_field k ∷ word_fields new.words) (sym count) in
    let done = λ (text : List ℕ) (g : IsPlaced old text). field_done (record old { part = Argv }) n q text (placed_at old Argv text is g) in
    elim part [
      | inl p ↦
          let here : IsAtPart Argv new.count new.words = (omega arith, omega arith) in
          let counts : Counts new =
          record { at_part = subst (λ (x : Part). IsAtPart x new.count new.words) (sym p.0) here; sum = sum; small = fits } in (
            holds_afresh new counts left body token,
            λ text g. placed_afresh new text
                (dist_field ∷ argc_field old.count ∷ (word_fields old.words ++ done_field n old.body ∷ [])) body token
                (fields ∙ ap (λ (x : Part). fields_before x new.count new.words) (sym p.0)) (done text g),
          )
      | inr p ↦
          let here : IsAtPart Doti new.count new.words = (p.1, omega arith) in
          let counts : Counts new =
          record { at_part = subst (λ (x : Part). IsAtPart x new.count new.words) (sym p.0) here; sum = sum; small = fits } in (
            holds_afresh new counts left body token,
            λ text g. placed_afresh new text
                (dist_field ∷ argc_field old.count ∷ (word_fields old.words ++ done_field n old.body ∷ [])) body token
                (fields ∙ ap (λ (x : Part). fields_before x new.count new.words) (sym p.0)) (done text g),
          )
    ]

pub after_doti : (old : Partial) (n : ℕ) → old.part ≡ Doti → IsReady old n → (text : List ℕ) → IsPlaced old text
    → SpellsRequest text (record { words = old.words; source = old.body })
unfolding request_fields
after_doti old n is r text g =
    let q = at_part old n Doti is r in
    let at : IsAtPart Doti old.count old.words = q.counts.at_part in
    let is_n : n ≡ length old.body = q.no_more in
    let fields : List Field = dist_field ∷ argc_field old.count ∷ (word_fields old.words ++ done_field n old.body ∷ []) in
    let done : Progress request_format text fields [] = field_done (record old { part = Doti }) n q text (placed_at old Doti text is g) in
    let none : request_due fields ≡ None =
    due_none dist_field (argc_field old.count) (word_fields old.words ++ done_field n old.body ∷ [])
    (omega (arith, length-append (word_fields old.words) (done_field n old.body ∷ []), length-word_fields old.words, at.0)) in
    let whole : text ≡ done.front = done.parts ∙ append-nil done.front in
    let z = front-spelled fields done.front done.is_front none in
    let p : Request = record { words = old.words; source = old.body } in
    let same : fields ≡ request_fields p =
    ap (λ (k : ℕ). dist_field ∷ argc_field k ∷ (word_fields old.words ++ done_field n old.body ∷ [])) (sym at.0)
    ∙ ap (λ (k : ℕ). dist_field ∷ argc_field (length old.words) ∷ (word_fields old.words ++ done_field k old.body ∷ [])) is_n in
    let one : z.0 ≡ p = same_request z.0 p (sym z.2 ∙ same) in
    subst (λ (x : List ℕ). SpellsRequest x p) (sym whole) (subst (SpellsRequest done.front) one z.1)
