-- Every line has words or a fault.
use Rattle.std.proofs.Common.{◌≡◌, ℕ, true, false, List, [], ◌∷◌, ◌++◌, refl, ap, sym, ◌∙◌, subst, inl, inr, ⊎_elim}
use Rattle.std.specs.Prelude.{not, ◌==◌, ◌⊎◌}
use Rattle.std.specs.List.{flat_map}
use Rattle.std.proofs.lemmas.List.{append_assoc, append-nil}
use Rattle.std.proofs.lemmas.List.Concat.{flat_map-append}
use Rattle.std.proofs.lemmas.Bool.{cases_Bool, eqb-true}
use Rattle.farm_types.specs.Bytes.{single_quote, double_quote, backslash, is_blank}
use Rattle.job_list.specs.declared.fault.JobFault.{JobFault}
use Rattle.job_list.specs.declared.fault.JobFault.TheVariants.{OpenQuote, BadEscape}
use Rattle.job_list.specs.Parts.{Each, IsInSingle, Quoted, literal, kept, escaped, IsQuoted, quoted_text, is_mark, is_bare, Part, blank}
use Rattle.job_list.specs.Parts.{bare, after_backslash, single, double, IsPart, part_text}
use Rattle.job_list.specs.Lines.{words_of, LineOf, LineFault, BreaksOff}
use Rattle.job_list.proofs.Taking.{all_append}
use Rattle.job_list.proofs.Cutting.{Place, outside, marked, in_single, in_double, marked_double}

-- a line with words, or with a fault
abbrev Whole : List ℕ → Type 0
Whole line = ((words : List (List ℕ)) × LineOf line words) ⊎ ((fault : JobFault) × LineFault line fault)

-- a part more at the front
whole_more : (p : Part) (rest : List ℕ) → IsPart p → Whole rest → Whole (part_text p ++ rest)
whole_more p rest is (inl (words, h)) = inl (
  words_of (p ∷ h.parts),
  record {
    parts = p ∷ h.parts;
    right = (is, h.right);
    spelled = ap (λ t. part_text p ++ t) h.spelled;
    meant = refl;
  },
)
whole_more p rest is (inr (fault, h)) = inr (
  fault,
  record {
    parts = p ∷ h.parts;
    right = (is, h.right);
    tail = h.tail;
    broken = h.broken;
    spelled = ap (λ t. part_text p ++ t) h.spelled ∙ sym (append_assoc (part_text p) (flat_map part_text h.parts) h.tail);
  },
)

whole_broken : (tail : List ℕ) (fault : JobFault) → BreaksOff tail fault → Whole tail
whole_broken tail fault h = inr (fault, record { parts = []; right = tt; tail = tail; broken = h; spelled = refl })

-- what stands before a place since the last part
abbrev text_before : Place → List ℕ
text_before outside = []
text_before marked = backslash ∷ []
text_before (in_single bytes) = single_quote ∷ bytes
text_before (in_double quoted) = double_quote ∷ flat_map quoted_text quoted
text_before (marked_double quoted) = double_quote ∷ (flat_map quoted_text quoted ++ backslash ∷ [])

abbrev IsPlace : Place → Type 0
IsPlace outside = Unit {0}
IsPlace marked = Unit {0}
IsPlace (in_single bytes) = Each IsInSingle bytes
IsPlace (in_double quoted) = Each IsQuoted quoted
IsPlace (marked_double quoted) = Each IsQuoted quoted

is_bare_byte : (c : ℕ) → is_blank c ≡ false → (c == single_quote) ≡ false → (c == double_quote) ≡ false → (c == backslash) ≡ false
    → is_bare c ≡ true
is_bare_byte c a b d e = rw (a, b, d, e) refl

no_mark_byte : (c : ℕ) → (c == double_quote) ≡ false → (c == backslash) ≡ false → not (is_mark c) ≡ true
no_mark_byte c d e = rw (d, e) refl

quoted_more : (quoted : List Quoted) (q : Quoted) (rest : List ℕ) → (double_quote ∷ flat_map quoted_text (quoted ++ q ∷ [])) ++ rest
    ≡ (double_quote ∷ flat_map quoted_text quoted) ++ (quoted_text q ++ rest)
quoted_more quoted q rest =
    ap (λ t. double_quote ∷ (t ++ rest)) (flat_map-append quoted_text quoted (q ∷ [])
    ∙ ap (λ t. flat_map quoted_text quoted ++ t) (append-nil (quoted_text q)))
    ∙ ap (λ t. double_quote ∷ t) (append_assoc (flat_map quoted_text quoted) (quoted_text q) rest)

marked_more : (quoted : List Quoted) (c : ℕ) (rest : List ℕ) → (double_quote ∷ (flat_map quoted_text quoted ++ backslash ∷ []))
    ++ c ∷ rest ≡ (double_quote ∷ flat_map quoted_text quoted) ++ (backslash ∷ c ∷ rest)
marked_more quoted c rest = ap (λ t. double_quote ∷ t) (append_assoc (flat_map quoted_text quoted) (backslash ∷ []) (c ∷ rest))

-- the parts of a line from a place on
every_rest : (cs : List ℕ) (place : Place) → IsPlace place → Whole (text_before place ++ cs)
every_rest [] outside h = inl ([], record { parts = []; right = tt; spelled = refl; meant = refl })
every_rest [] marked h = whole_broken (backslash ∷ []) BadEscape (inr (inr (refl, refl)))
every_rest [] (in_single bytes) h =
    whole_broken (single_quote ∷ (bytes ++ [])) OpenQuote
    (inl (refl, record { bytes = bytes; plain = h; spelled = ap (λ t. single_quote ∷ t) (append-nil bytes) }))
every_rest [] (in_double quoted) h =
    whole_broken (double_quote ∷ (flat_map quoted_text quoted ++ [])) OpenQuote
    (inr (inl (refl, record { quoted = quoted; right = h; end = []; last = inl refl; spelled = refl })))
every_rest [] (marked_double quoted) h =
    whole_broken (double_quote ∷ ((flat_map quoted_text quoted ++ backslash ∷ []) ++ [])) OpenQuote
    (inr (inl (
      refl,
      record {
        quoted = quoted;
        right = h;
        end = backslash ∷ [];
        last = inr refl;
        spelled = ap (λ t. double_quote ∷ t) (append-nil (flat_map quoted_text quoted ++ backslash ∷ []));
      },
    )))
every_rest (c ∷ cs) outside h =
    let later = every_rest cs in
    ⊎_elim
    (λ is. whole_more (blank c) cs is (later outside tt))
    (λ no_blank. ⊎_elim
    (λ is. subst (λ x. Whole (x ∷ cs)) (sym (eqb-true c single_quote is)) (later (in_single []) tt))
    (λ no_single. ⊎_elim
    (λ is. subst (λ x. Whole (x ∷ cs)) (sym (eqb-true c double_quote is)) (later (in_double []) tt))
    (λ no_double. ⊎_elim
    (λ is. subst (λ x. Whole (x ∷ cs)) (sym (eqb-true c backslash is)) (later marked tt))
    (λ no_backslash. whole_more (bare c) cs (is_bare_byte c no_blank no_single no_double no_backslash) (later outside tt))
    (cases_Bool (c == backslash)))
    (cases_Bool (c == double_quote)))
    (cases_Bool (c == single_quote)))
    (cases_Bool (is_blank c))
every_rest (c ∷ cs) marked h = whole_more (after_backslash c) cs tt (every_rest cs outside tt)
every_rest (c ∷ cs) (in_single bytes) h =
    let later = every_rest cs in
    ⊎_elim
    (λ is.
    let e : part_text (single bytes) ++ cs ≡ (single_quote ∷ bytes) ++ c ∷ cs =
    ap (λ t. single_quote ∷ t) (append_assoc bytes (single_quote ∷ []) cs
    ∙ ap (λ x. bytes ++ x ∷ cs) (sym (eqb-true c single_quote is))) in
    subst Whole e (whole_more (single bytes) cs h (later outside tt)))
    (λ no.
    let e : (single_quote ∷ (bytes ++ c ∷ [])) ++ cs ≡ (single_quote ∷ bytes) ++ c ∷ cs =
    ap (λ t. single_quote ∷ t) (append_assoc bytes (c ∷ []) cs) in
    subst Whole e (later (in_single (bytes ++ c ∷ [])) (all_append IsInSingle bytes (c ∷ []) h (ap not no, tt))))
    (cases_Bool (c == single_quote))
every_rest (c ∷ cs) (in_double quoted) h =
    let later = every_rest cs in
    ⊎_elim
    (λ is.
    let e : part_text (double quoted) ++ cs ≡ (double_quote ∷ flat_map quoted_text quoted) ++ c ∷ cs =
    ap (λ t. double_quote ∷ t) (append_assoc (flat_map quoted_text quoted) (double_quote ∷ []) cs
    ∙ ap (λ x. flat_map quoted_text quoted ++ x ∷ cs) (sym (eqb-true c double_quote is))) in
    subst Whole e (whole_more (double quoted) cs h (later outside tt)))
    (λ no_double. ⊎_elim
    (λ is.
    let e : (double_quote ∷ (flat_map quoted_text quoted ++ backslash ∷ [])) ++ cs ≡ (double_quote ∷ flat_map quoted_text quoted)
    ++ c ∷ cs = ap (λ t. double_quote ∷ t) (append_assoc (flat_map quoted_text quoted) (backslash ∷ []) cs
    ∙ ap (λ x. flat_map quoted_text quoted ++ x ∷ cs) (sym (eqb-true c backslash is))) in
    subst Whole e (later (marked_double quoted) h))
    (λ no_backslash. subst Whole (quoted_more quoted (literal c) cs)
    (later (in_double (quoted ++ literal c ∷ []))
    (all_append IsQuoted quoted (literal c ∷ []) h (no_mark_byte c no_double no_backslash, tt))))
    (cases_Bool (c == backslash)))
    (cases_Bool (c == double_quote))
every_rest (c ∷ cs) (marked_double quoted) h =
    let later = every_rest cs in
    ⊎_elim
    (λ is. subst Whole (quoted_more quoted (escaped c) cs ∙ sym (marked_more quoted c cs))
    (later (in_double (quoted ++ escaped c ∷ [])) (all_append IsQuoted quoted (escaped c ∷ []) h (is, tt))))
    (λ no. subst Whole (quoted_more quoted (kept c) cs ∙ sym (marked_more quoted c cs))
    (later (in_double (quoted ++ kept c ∷ [])) (all_append IsQuoted quoted (kept c ∷ []) h (ap not no, tt))))
    (cases_Bool (is_mark c))

pub every_line : (line : List ℕ) → ((words : List (List ℕ)) × LineOf line words) ⊎ ((fault : JobFault) × LineFault line fault)
every_line line = every_rest line outside tt
