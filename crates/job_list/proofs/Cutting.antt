-- A line, cut into parts from its first byte on.
use Rattle.std.proofs.Common.{◌≡◌, ℕ, true, false, List, [], ◌∷◌, ◌++◌, refl, ap, sym, ◌∙◌, inl, inr, Result, Ok, Err, arith}
use Rattle.std.specs.Prelude.{not, ◌==◌, if◌then◌else◌}
use Rattle.std.specs.List.{flat_map}
use Rattle.std.proofs.lemmas.List.{append_assoc, append-nil}
use Rattle.std.proofs.lemmas.Bool.Decides.{nat_tests}
use Rattle.farm_types.specs.Bytes.{single_quote, double_quote, backslash, is_blank}
use Rattle.job_list.specs.declared.fault.JobFault.{JobFault}
use Rattle.job_list.specs.declared.fault.JobFault.TheVariants.{OpenQuote, BadEscape}
use Rattle.job_list.specs.Parts.{Each, IsInSingle, Quoted, literal, kept, escaped, IsQuoted, quoted_text, is_mark, is_bare, Part, blank}
use Rattle.job_list.specs.Parts.{bare, after_backslash, single, double, IsPart, part_text}
use Rattle.job_list.specs.Lines.{words_of, LineOf, LineFault, BreaksOff, IsCutMark}

-- where in a line a byte stands: outside quotes, there behind a backslash, between single quotes, between double
-- quotes, or there behind a backslash; between quotes with what stands before it there
pub data Place : Type 0 where
  outside : Place
  marked : Place
  in_single : List ℕ → Place
  in_double : List Quoted → Place
  marked_double : List Quoted → Place

abbrev pub Cut : Type 0
Cut = Result (List Part) JobFault

abbrev pub with_part : Part → Cut → Cut
with_part p (Ok ps) = Ok (p ∷ ps)
with_part p (Err fault) = Err fault

-- the byte behind a backslash between double quotes
abbrev pub behind_mark : ℕ → Quoted
behind_mark c = if is_mark c then escaped c else kept c

-- the parts of a line from a place on, or its fault
abbrev pub cut : List ℕ → Place → Cut
cut [] outside = Ok []
cut [] marked = Err BadEscape
cut [] (in_single bytes) = Err OpenQuote
cut [] (in_double quoted) = Err OpenQuote
cut [] (marked_double quoted) = Err OpenQuote
cut (c ∷ cs) outside =
    if is_blank c then with_part (blank c) (cut cs outside)
    else if c == single_quote then cut cs (in_single [])
    else if c == double_quote then cut cs (in_double [])
    else if c == backslash then cut cs marked
    else with_part (bare c) (cut cs outside)
cut (c ∷ cs) marked = with_part (after_backslash c) (cut cs outside)
cut (c ∷ cs) (in_single bytes) =
    if c == single_quote then with_part (single bytes) (cut cs outside) else cut cs (in_single (bytes ++ c ∷ []))
cut (c ∷ cs) (in_double quoted) =
    if c == double_quote then with_part (double quoted) (cut cs outside)
    else if c == backslash then cut cs (marked_double quoted)
    else cut cs (in_double (quoted ++ literal c ∷ []))
cut (c ∷ cs) (marked_double quoted) = cut cs (in_double (quoted ++ behind_mark c ∷ []))

-- ---- bytes

pub no_mark : (c : ℕ) → not (is_mark c) ≡ true → is_mark c ≡ false
no_mark c h = grind arith

no_single : (c : ℕ) → not (c == single_quote) ≡ true → (c == single_quote) ≡ false
no_single c h = grind arith

pub mark_double : (c : ℕ) → is_mark c ≡ false → (c == double_quote) ≡ false
mark_double c h = grind (arith, nat_tests)

pub mark_backslash : (c : ℕ) → is_mark c ≡ false → (c == backslash) ≡ false
mark_backslash c h = grind (arith, nat_tests)

bare_blank : (c : ℕ) → is_bare c ≡ true → is_blank c ≡ false
bare_blank c h = grind (arith, nat_tests)

bare_single : (c : ℕ) → is_bare c ≡ true → (c == single_quote) ≡ false
bare_single c h = grind (arith, nat_tests)

bare_double : (c : ℕ) → is_bare c ≡ true → (c == double_quote) ≡ false
bare_double c h = grind (arith, nat_tests)

bare_backslash : (c : ℕ) → is_bare c ≡ true → (c == backslash) ≡ false
bare_backslash c h = grind (arith, nat_tests)

-- ---- parts

single_body : (cs rest bytes : List ℕ) → Each IsInSingle cs → cut ((cs ++ single_quote ∷ []) ++ rest) (in_single bytes)
    ≡ with_part (single (bytes ++ cs)) (cut rest outside)
single_body [] rest bytes h = ap (λ t. with_part (single t) (cut rest outside)) (sym (append-nil bytes))
single_body (c ∷ cs) rest bytes h =
    let no = no_single c h.0 in
    rw no (single_body cs rest (bytes ++ c ∷ []) h.1 ∙ ap (λ t. with_part (single t) (cut rest outside)) (append_assoc bytes (c ∷ []) cs))

-- one byte, or two, between double quotes
quoted_cut : (q : Quoted) (rest : List ℕ) (quoted : List Quoted) → IsQuoted q
    → cut (quoted_text q ++ rest) (in_double quoted) ≡ cut rest (in_double (quoted ++ q ∷ []))
quoted_cut (literal c) rest quoted h =
    let no = no_mark c h in
    let one = mark_double c no in
    let other = mark_backslash c no in
    rw (one, other) refl
quoted_cut (kept c) rest quoted h = let no = no_mark c h in rw no refl
quoted_cut (escaped c) rest quoted h = rw h refl

quoteds_cut : (qs : List Quoted) (rest : List ℕ) (quoted : List Quoted) → Each IsQuoted qs
    → cut (flat_map quoted_text qs ++ rest) (in_double quoted) ≡ cut rest (in_double (quoted ++ qs))
quoteds_cut [] rest quoted h = ap (λ t. cut rest (in_double t)) (sym (append-nil quoted))
quoteds_cut (q ∷ qs) rest quoted h =
    ap (λ t. cut t (in_double quoted)) (append_assoc (quoted_text q) (flat_map quoted_text qs) rest)
    ∙ quoted_cut q (flat_map quoted_text qs ++ rest) quoted h.0
    ∙ quoteds_cut qs rest (quoted ++ q ∷ []) h.1
    ∙ ap (λ t. cut rest (in_double t)) (append_assoc quoted (q ∷ []) qs)

part_cut : (p : Part) (rest : List ℕ) → IsPart p → cut (part_text p ++ rest) outside ≡ with_part p (cut rest outside)
part_cut (blank c) rest h = rw h refl
part_cut (bare c) rest h =
    let a = bare_blank c h in
    let b = bare_single c h in
    let d = bare_double c h in
    let e = bare_backslash c h in
    rw (a, b, d, e) refl
part_cut (after_backslash c) rest h = refl
part_cut (single cs) rest h = single_body cs rest [] h
part_cut (double qs) rest h =
    ap (λ t. cut t (in_double [])) (append_assoc (flat_map quoted_text qs) (double_quote ∷ []) rest)
    ∙ quoteds_cut qs (double_quote ∷ rest) [] h

abbrev pub with_parts : List Part → Cut → Cut
with_parts [] cut = cut
with_parts (p ∷ ps) cut = with_part p (with_parts ps cut)

parts_cut : (ps : List Part) (rest : List ℕ) → Each IsPart ps
    → cut (flat_map part_text ps ++ rest) outside ≡ with_parts ps (cut rest outside)
parts_cut [] rest h = refl
parts_cut (p ∷ ps) rest h =
    ap (λ t. cut t outside) (append_assoc (part_text p) (flat_map part_text ps) rest)
    ∙ part_cut p (flat_map part_text ps ++ rest) h.0
    ∙ ap (with_part p) (parts_cut ps rest h.1)

with_all : (ps : List Part) → with_parts ps (Ok []) ≡ Ok ps
with_all [] = refl
with_all (p ∷ ps) = ap (with_part p) (with_all ps)

with_fault : (ps : List Part) (fault : JobFault) → with_parts ps (Err fault) ≡ Err fault
with_fault [] fault = refl
with_fault (p ∷ ps) fault = ap (with_part p) (with_fault ps fault)

-- ---- what breaks off

open_single : (cs bytes : List ℕ) → Each IsInSingle cs → cut cs (in_single bytes) ≡ Err OpenQuote
open_single [] bytes h = refl
open_single (c ∷ cs) bytes h = let no = no_single c h.0 in rw no (open_single cs (bytes ++ c ∷ []) h.1)

cut_mark : (end : List ℕ) (quoted : List Quoted) → IsCutMark end → cut end (in_double quoted) ≡ Err OpenQuote
cut_mark end quoted (inl e) = ap (λ t. cut t (in_double quoted)) e
cut_mark end quoted (inr e) = ap (λ t. cut t (in_double quoted)) e

breaks : (tail : List ℕ) (fault : JobFault) → BreaksOff tail fault → cut tail outside ≡ Err fault
breaks tail fault (inl p) = ap (λ t. cut t outside) p.1.spelled ∙ open_single p.1.bytes [] p.1.plain ∙ ap Err (sym p.0)
breaks tail fault (inr (inl p)) =
    ap (λ t. cut t outside) p.1.spelled ∙ quoteds_cut p.1.quoted p.1.end [] p.1.right ∙ cut_mark p.1.end p.1.quoted p.1.last
    ∙ ap Err (sym p.0)
breaks tail fault (inr (inr p)) = ap (λ t. cut t outside) p.1 ∙ ap Err (sym p.0)

-- ---- a line

abbrev pub Reading : Type 0
Reading = Result (List (List ℕ)) JobFault

abbrev words_in : Cut → Reading
words_in (Ok ps) = Ok (words_of ps)
words_in (Err fault) = Err fault

-- the words of a line, or its fault
abbrev pub reading_of : List ℕ → Reading
reading_of line = words_in (cut line outside)

pub line_right : (line : List ℕ) (words : List (List ℕ)) → LineOf line words → reading_of line ≡ Ok words
line_right line words h =
    ap words_in (ap (λ t. cut t outside) (h.spelled ∙ sym (append-nil (flat_map part_text h.parts))) ∙ parts_cut h.parts [] h.right
    ∙ with_all h.parts)
    ∙ ap Ok (sym h.meant)

pub line_wrong : (line : List ℕ) (fault : JobFault) → LineFault line fault → reading_of line ≡ Err fault
line_wrong line fault h =
    ap words_in (ap (λ t. cut t outside) h.spelled ∙ parts_cut h.parts h.tail h.right
    ∙ ap (with_parts h.parts) (breaks h.tail fault h.broken) ∙ with_fault h.parts fault)

pub one_words : (line : List ℕ) (one other : List (List ℕ)) → LineOf line one → LineOf line other → one ≡ other
one_words line one other h k = let e = sym (line_right line one h) ∙ line_right line other k in cc

pub words_no_fault : (line : List ℕ) (words : List (List ℕ)) (fault : JobFault) → LineOf line words → LineFault line fault → ⊥
words_no_fault line words fault h k = let e = sym (line_right line words h) ∙ line_wrong line fault k in cc

pub one_line_fault : (line : List ℕ) (fault other : JobFault) → LineFault line fault → LineFault line other → fault ≡ other
one_line_fault line fault other h k = let e = sym (line_wrong line fault h) ∙ line_wrong line other k in cc
