-- The texts that spell requests are the whole fronts of the format of requests.
use Rattle.std.proofs.Common.{◌≡◌, ℕ, suc, ◌+◌, ◌<◌, ◌≤◌, Bool, true, false, cond, eqb, List, [], ◌∷◌, ◌++◌, length, drop, map, All, Some}
use Rattle.std.proofs.Common.{None, refl, sym, ap, subst, ◌∙◌, append_assoc, arith, inl, inr}
use Rattle.std.specs.Prelude.{codes, nat_le, nat_lt, ◌&&◌, sum_by}
use Rattle.std.proofs.lemmas.Bool.{leb-true, le-leb, eqb-true, eq-eqb, ne_eqb, le-ltb, lt-ltb, cases_lt}
use Rattle.std.proofs.lemmas.List.{append-nil, length-append, same_from_push}
use Rattle.std.proofs.lemmas.List.Elements.{All-cons, All-nil, All-head, All-tail}
use Rattle.std.proofs.lemmas.List.Sums.{sum_by-cons, sum_by_push}
use Rattle.farm_types.specs.Limits.{word_max, words_bytes_max, words_max, source_max}
use Rattle.farm_types.specs.declared.request.Request.{Request}
use Rattle.wire_tokens.specs.declared.faults.RequestFault.{RequestFault}
use Rattle.wire_tokens.specs.Token.{IsToken}
use Rattle.wire_tokens.specs.Format.{Field, Due, IsFront}
use Rattle.wire_tokens.specs.Request.{SpellsWords, SpellsRequest, count_fault, word_fault, dist_due, argc_due, argv_due, doti_due}
use Rattle.wire_tokens.specs.Request.{bodies_len, request_due, request_format, word_fields, dist_field, argc_field}
use Rattle.wire_tokens.proofs.Readings.{FourLetters}
use Rattle.wire_tokens.proofs.Fields.{four_of_due, plain, plain_field, bodied, bodied_field, allowed, allowed_twice, same_field}
use Rattle.wire_tokens.proofs.Fields.{due_again, token_of}
use Rattle.wire_tokens.proofs.Texts.{Spelling}

pub four_request : FourLetters request_format
four_request [] due e = four_of_due _ due refl e
four_request (a ∷ []) due e = four_of_due _ due refl e
four_request (a ∷ b ∷ words) due e = by_count (nat_lt (length words) b.number) (eqb (length words) b.number) (bodies_len words) due e
  where
    by_count : (p q : Bool) (n : ℕ) (due : Due RequestFault) → cond p (Some (argv_due n)) (cond q (Some doti_due) None) ≡ Some due
        → length due.name ≡ 4
    by_count true q n due e = four_of_due _ due refl e
    by_count false true n due e = four_of_due _ due refl e
    by_count false false n due e = absurd cc

-- ---- a request's fields

unfoldable pub request_fields : Request → List Field
request_fields q = dist_field ∷ argc_field (length q.words)
    ∷ (word_fields q.words ++ record { number = length q.source; body = q.source } ∷ [])

pub length-word_fields : (words : List (List ℕ)) → length (word_fields words) ≡ length words
unfolding word_fields
length-word_fields [] = refl
length-word_fields (word ∷ words) = ap suc (length-word_fields words)

pub bodies_len-word_fields : (words : List (List ℕ)) → bodies_len (word_fields words) ≡ sum_by length words
unfolding word_fields
bodies_len-word_fields [] = refl
bodies_len-word_fields (word ∷ words) =
    sum_by-cons (λ (f : Field). length f.body) (record { number = length word; body = word }) (word_fields words)
    ∙ ap (λ (k : ℕ). length word + k) (bodies_len-word_fields words) ∙ sym (sum_by-cons length word words)

pub word_fields-push : (words : List (List ℕ)) (word : List ℕ)
    → word_fields (words ++ word ∷ []) ≡ word_fields words ++ record { number = length word; body = word } ∷ []
unfolding word_fields
word_fields-push [] word = refl
word_fields-push (w ∷ words) word = ap (λ (fs : List Field). record { number = length w; body = w } ∷ fs) (word_fields-push words word)

-- ---- what is due

pub due_word : (a b : Field) (words : List Field) → length words < b.number
    → request_due (a ∷ b ∷ words) ≡ Some (argv_due (bodies_len words))
due_word a b words lt = rw (lt-ltb _ _ lt) refl

pub due_source : (a b : Field) (words : List Field) → length words ≡ b.number → request_due (a ∷ b ∷ words) ≡ Some doti_due
due_source a b words e = rw (le-ltb (length words) b.number (omega arith), eq-eqb _ _ e) refl

pub due_none : (a b : Field) (words : List Field) → b.number < length words → request_due (a ∷ b ∷ words) ≡ None
due_none a b words lt = rw (le-ltb (length words) b.number (omega arith), ne_eqb (length words) b.number (λ e. omega arith)) refl

-- ---- a spelling is a whole front

abbrev pub source_field : List ℕ → Field
source_field source = record { number = length source; body = source }

words-front : (a b : Field) (done words : List (List ℕ)) (text doti source : List ℕ) → length done + length words ≡ b.number
    → sum_by length done + sum_by length words ≤ words_bytes_max → All (λ word. length word ≤ word_max) words → length source ≤ source_max
    → SpellsWords words text → IsToken (codes "DOTI") (length source) doti
    → IsFront request_format (a ∷ b ∷ word_fields done) (word_fields words ++ record { number = length source; body = source } ∷ [])
    (text ++ (doti ++ source))
unfolding word_fields
words-front a b done [] text doti source count together each fits spelled is_doti =
    let all : length (word_fields done) ≡ b.number = omega (arith, length-word_fields done) in (
      doti_due,
      doti ++ source,
      [],
      due_source a b (word_fields done) all,
      bodied_field doti_due source doti refl (rw (le-leb _ _ fits) refl) is_doti,
      ap (λ (x : List ℕ). x ++ (doti ++ source)) spelled ∙ sym (append-nil (doti ++ source)),
      refl,
    )
words-front a b done (word ∷ words) text doti source count together each fits spelled is_doti =
    let cons : sum_by length (word ∷ words) ≡ length word + sum_by length words = sum_by-cons length word words in
    let push : sum_by length (done ++ word ∷ []) ≡ sum_by length done + length word = sum_by_push length done word in
    let some : length (word_fields done) < b.number = omega (arith, length-word_fields done) in
    let before : bodies_len (word_fields done) ≡ sum_by length done = bodies_len-word_fields done in
    let small : length word ≤ word_max = All-head (λ (w : List ℕ). length w ≤ word_max) word words each in
    let right : word_fault (bodies_len (word_fields done)) (length word) ≡ None =
    rw (le-leb (length word) word_max small, le-leb (bodies_len (word_fields done) + length word) words_bytes_max (omega arith)) refl in
    let len : length (done ++ word ∷ []) ≡ length done + 1 = length-append done (word ∷ []) in
    let later = words-front a b (done ++ word ∷ []) words spelled.1 doti source (omega arith) (omega arith)
    (All-tail (λ (w : List ℕ). length w ≤ word_max) word words each) fits spelled.4 is_doti in (
      argv_due (bodies_len (word_fields done)),
      spelled.0 ++ word,
      spelled.1 ++ (doti ++ source),
      due_word a b (word_fields done) some,
      bodied_field (argv_due (bodies_len (word_fields done))) word spelled.0 refl right spelled.2,
      ap (λ (x : List ℕ). x ++ (doti ++ source)) spelled.3 ∙ append_assoc spelled.0 (word ++ spelled.1) (doti ++ source)
          ∙ ap (λ (x : List ℕ). spelled.0 ++ x) (append_assoc word spelled.1 (doti ++ source))
          ∙ sym (append_assoc spelled.0 word (spelled.1 ++ (doti ++ source))),
      subst (λ (fs : List Field). IsFront request_format (a ∷ b ∷ fs)
          (word_fields words ++ record { number = length source; body = source } ∷ []) (spelled.1 ++ (doti ++ source)))
          (word_fields-push done word) later,
    )

count_right : (n : ℕ) → 1 ≤ n → n ≤ words_max → count_fault n ≡ None
count_right n low high = rw (le-leb 1 n low, le-leb n words_max high) refl

pub spelled-front : (text : List ℕ) (q : Request) → SpellsRequest text q → IsFront request_format [] (request_fields q) text
unfolding request_fields word_fields
spelled-front text q s =
    let after : List ℕ = s.words ++ (s.doti ++ q.source) in
    let n : ℕ = length q.words in (
      dist_due,
      s.dist,
      s.argc ++ after,
      refl,
      plain_field dist_due 1 s.dist refl refl s.is_dist,
      s.parts,
      (
        argc_due,
        s.argc,
        after,
        refl,
        plain_field argc_due n s.argc refl (count_right n s.fits.some s.fits.count) s.is_argc,
        refl,
        words-front dist_field (argc_field n) [] q.words s.words s.doti q.source (omega arith)
            (omega (arith, s.fits.words_fit.together)) s.fits.words_fit.each s.fits.source_fits s.are_words s.is_doti,
      ),
    )

-- ---- and back

pub count_is : (p q : Bool) (f : RequestFault) → cond (p && q) None (Some f) ≡ None → (p ≡ true) × (q ≡ true)
count_is true true f e = (refl, refl)
count_is true false f e = absurd cc
count_is false q f e = absurd cc

-- the words and the source that some fields are
record WordsAndSource (a b : Field) (done : List (List ℕ)) (fields : List Field) (text : List ℕ) : Type 0 where
  words : List (List ℕ)
  source : List ℕ
  spelled : List ℕ
  doti : List ℕ
  fields_are : fields ≡ word_fields words ++ record { number = length source; body = source } ∷ []
  are_words : SpellsWords words spelled
  is_doti : IsToken (codes "DOTI") (length source) doti
  parts : text ≡ spelled ++ (doti ++ source)
  count : length done + length words ≡ b.number
  each : All (λ word. length word ≤ word_max) words
  together : sum_by length done + sum_by length words ≤ words_bytes_max
  source_fits : length source ≤ source_max

front-last : (a b : Field) (done : List (List ℕ)) (f : Field) (fields : List Field) (text : List ℕ) → length done ≡ b.number
    → sum_by length done ≤ words_bytes_max → IsFront request_format (a ∷ b ∷ word_fields done) (f ∷ fields) text
    → WordsAndSource a b done (f ∷ fields) text
unfolding word_fields
front-last a b done f [] text all together r =
    let e : length (word_fields done) ≡ b.number = length-word_fields done ∙ all in
    let is = due_again doti_due r.0 f r.1 (sym (due_source a b (word_fields done) e) ∙ r.3) r.4 in
    let k : f.number ≡ length f.body = bodied doti_due f r.1 refl is in
    let small : f.number ≤ source_max = leb-true f.number source_max (allowed (nat_le f.number source_max) _ is.right) in
    record {
      words = [];
      source = f.body;
      spelled = [];
      doti = is.token;
      fields_are = ap (λ (g : Field). g ∷ []) (same_field f (length f.body) f.body k refl);
      are_words = refl;
      is_doti = token_of doti_due (codes "DOTI") f r.1 refl refl is;
      parts = r.5 ∙ ap (λ (x : List ℕ). r.1 ++ x) r.6 ∙ append-nil r.1 ∙ is.parts;
      count = omega arith;
      each = All-nil (λ (word : List ℕ). length word ≤ word_max);
      together = omega arith;
      source_fits = subst (λ (k : ℕ). k ≤ source_max) k small;
    }
front-last a b done f (g ∷ fields) text all together r =
    let len : length (word_fields done ++ f ∷ []) ≡ length (word_fields done) + 1 = length-append (word_fields done) (f ∷ []) in
    let past = due_none a b (word_fields done ++ f ∷ []) (omega (arith, length-word_fields done)) in
    let no = sym past ∙ r.6.3 in
    absurd cc

front-words : (a b : Field) (done : List (List ℕ)) (fields : List Field) (text : List ℕ) → length done ≤ b.number
    → sum_by length done ≤ words_bytes_max → IsFront request_format (a ∷ b ∷ word_fields done) fields text
    → request_due (a ∷ b ∷ (word_fields done ++ fields)) ≡ None → WordsAndSource a b done fields text
unfolding word_fields
front-words a b done [] text count together r e =
    let w : word_fields done ++ [] ≡ word_fields done = append-nil (word_fields done) in
    let none : request_due (a ∷ b ∷ word_fields done) ≡ None = subst (λ (fs : List Field). request_due (a ∷ b ∷ fs) ≡ None) w e in
    elim (cases_lt (length done) b.number) [
      | inl lt ↦ let no = sym none ∙ due_word a b (word_fields done) (omega (arith, length-word_fields done)) in absurd cc
      | inr le ↦ let no = sym none ∙ due_source a b (word_fields done) (omega (arith, length-word_fields done)) in absurd cc
    ]
front-words a b done (f ∷ fields) text count together r e =
    elim (cases_lt (length done) b.number) [
      | inl lt ↦
          let due : Due RequestFault = argv_due (bodies_len (word_fields done)) in
          let is = due_again due r.0 f r.1 (sym (due_word a b (word_fields done) (omega (arith, length-word_fields done))) ∙ r.3) r.4 in
          let k : f.number ≡ length f.body = bodied due f r.1 refl is in
          let rule = allowed_twice (nat_le f.number word_max) (nat_le (bodies_len (word_fields done) + f.number) words_bytes_max)
          _ _ is.right in
          let small : f.number ≤ word_max = leb-true f.number word_max rule.0 in
          let sum : bodies_len (word_fields done) + f.number ≤ words_bytes_max =
          leb-true (bodies_len (word_fields done) + f.number) words_bytes_max rule.1 in
          let before : bodies_len (word_fields done) ≡ sum_by length done = bodies_len-word_fields done in
          let push : sum_by length (done ++ f.body ∷ []) ≡ sum_by length done + length f.body = sum_by_push length done f.body in
          let len : length (done ++ f.body ∷ []) ≡ length done + 1 = length-append done (f.body ∷ []) in
          let one : f ≡ record { number = length f.body; body = f.body } = same_field f (length f.body) f.body k refl in
          let fs : word_fields done ++ f ∷ [] ≡ word_fields (done ++ f.body ∷ []) =
          ap (λ (g : Field). word_fields done ++ g ∷ []) one ∙ sym (word_fields-push done f.body) in
          let next : IsFront request_format (a ∷ b ∷ word_fields (done ++ f.body ∷ [])) fields r.2 =
          subst (λ (gs : List Field). IsFront request_format (a ∷ b ∷ gs) fields r.2) fs r.6 in
          let last : request_due (a ∷ b ∷ (word_fields (done ++ f.body ∷ []) ++ fields)) ≡ None =
          subst (λ (gs : List Field). request_due (a ∷ b ∷ gs) ≡ None) (sym (append_assoc (word_fields done) (f ∷ []) fields)
          ∙ ap (λ (gs : List Field). gs ++ fields) fs) e in
          let z = front-words a b (done ++ f.body ∷ []) fields r.2 (omega arith) (omega arith) next last in
          record {
            words = f.body ∷ z.words;
            source = z.source;
            spelled = is.token ++ (f.body ++ z.spelled);
            doti = z.doti;
            fields_are = ap (λ (g : Field). g ∷ fields) one
                ∙ ap (λ (gs : List Field). record { number = length f.body; body = f.body } ∷ gs) z.fields_are;
            are_words = (is.token, z.spelled, token_of due (codes "ARGV") f r.1 refl refl is, refl, z.are_words);
            is_doti = z.is_doti;
            parts = r.5 ∙ ap (λ (x : List ℕ). x ++ r.2) is.parts ∙ append_assoc is.token f.body r.2
                ∙ ap (λ (x : List ℕ). is.token ++ (f.body ++ x)) z.parts
                ∙ ap (λ (x : List ℕ). is.token ++ x) (sym (append_assoc f.body z.spelled (z.doti ++ z.source)))
                ∙ sym (append_assoc is.token (f.body ++ z.spelled) (z.doti ++ z.source));
            count = omega (arith, z.count);
            each = All-cons (λ (word : List ℕ). length word ≤ word_max) f.body z.words (subst (λ (m : ℕ). m ≤ word_max) k small) z.each;
            together = omega (arith, z.together, sum_by-cons length f.body z.words);
            source_fits = z.source_fits;
          }
      | inr le ↦ front-last a b done f fields text (omega arith) together r
    ]

pub front-spelled : (fields : List Field) (text : List ℕ) → IsFront request_format [] fields text → request_due fields ≡ None
    → (q : Request) × SpellsRequest text q × (fields ≡ request_fields q)
unfolding request_fields word_fields
front-spelled [] text r e = absurd cc
front-spelled (a ∷ []) text r e = absurd cc
front-spelled (a ∷ b ∷ fields) text r e =
    let r2 = r.6 in
    let fa = due_again dist_due r.0 a r.1 r.3 r.4 in
    let fb = due_again argc_due r2.0 b r2.1 r2.3 r2.4 in
    let pa = plain dist_due a r.1 refl fa in
    let pb = plain argc_due b r2.1 refl fb in
    let one : a.number ≡ 1 = eqb-true a.number 1 (allowed (eqb a.number 1) _ fa.right) in
    let rule = count_is (nat_le 1 b.number) (nat_le b.number words_max) _ fb.right in
    let low : 1 ≤ b.number = leb-true 1 b.number rule.0 in
    let high : b.number ≤ words_max = leb-true b.number words_max rule.1 in
    let z = front-words a b [] fields r2.2 (omega arith) (omega arith) r2.6 e in
    let count : length z.words ≡ b.number = omega (arith, z.count) in
    let q : Request = record { words = z.words; source = z.source } in (
      q,
      record {
        fits = record {
          some = omega arith;
          count = omega arith;
          words_fit = record { each = z.each; together = omega (arith, z.together) };
          source_fits = z.source_fits;
        };
        dist = r.1;
        argc = r2.1;
        words = z.spelled;
        doti = z.doti;
        is_dist = subst (λ (k : ℕ). IsToken (codes "DIST") k r.1) one pa.0;
        is_argc = subst (λ (k : ℕ). IsToken (codes "ARGC") k r2.1) (sym count) pb.0;
        are_words = z.are_words;
        is_doti = z.is_doti;
        parts = r.5 ∙ ap (λ (x : List ℕ). r.1 ++ x) (r2.5 ∙ ap (λ (x : List ℕ). r2.1 ++ x) z.parts);
      },
      ap (λ (f : Field). f ∷ b ∷ fields) (same_field a 1 [] one pa.1)
          ∙ ap (λ (f : Field). dist_field ∷ f ∷ fields) (same_field b (length z.words) [] (sym count) pb.1)
          ∙ ap (λ (fs : List Field). dist_field ∷ argc_field (length z.words) ∷ fs) z.fields_are,
    )

-- ---- the laws

same_word_fields : (xs ys : List (List ℕ)) (s t : List ℕ) → word_fields xs ++ record { number = length s; body = s } ∷ []
    ≡ word_fields ys ++ record { number = length t; body = t } ∷ [] → (xs ≡ ys) × (s ≡ t)
unfolding word_fields
same_word_fields xs ys s t e =
    let words : word_fields xs ≡ word_fields ys = (same_from_push _ _ _ _ e).0 in
    let last : s ≡ t = ap (λ (f : Field). f.body) (same_from_push (word_fields xs) (word_fields ys) _ _ e).1 in
    (sym (map-body xs) ∙ ap (map (λ (f : Field). f.body)) words ∙ map-body ys, last)
  where
    map-body : (words : List (List ℕ)) → map (λ (f : Field). f.body) (word_fields words) ≡ words
    map-body [] = refl
    map-body (word ∷ words) = ap (λ (x : List (List ℕ)). word ∷ x) (map-body words)

pub same_request : (q p : Request) → request_fields q ≡ request_fields p → q ≡ p
unfolding request_fields
same_request q p e =
    let z = same_word_fields q.words p.words q.source p.source (ap (drop 2) e) in
    ap (λ (x : List (List ℕ)). let r : Request = record { words = x; source = q.source } in r) z.0
    ∙ ap (λ (x : List ℕ). let r : Request = record { words = p.words; source = x } in r) z.1

pub whole_due : (q : Request) → request_due (request_fields q) ≡ None
unfolding request_fields
whole_due q = due_none dist_field (argc_field (length q.words))
    (word_fields q.words ++ record { number = length q.source; body = q.source } ∷ [])
    (omega (arith, length-append (word_fields q.words) (source_field q.source ∷ []), length-word_fields q.words))

abbrev pub request_spelling : Spelling request_format SpellsRequest
request_spelling = record {
  four = four_request;
  fields = request_fields;
  front = spelled-front;
  whole_due = whole_due;
  spelled = front-spelled;
  same = same_request;
}
