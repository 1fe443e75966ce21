-- Words of right parts are read as these parts.
use Rattle.std.proofs.Common.{◌≡◌, ℕ, ◌<◌, ◌^◌, Bool, true, false, cond, eqb, ltb, leb, List, [], ◌∷◌, ◌++◌, length, get_or, map, Some}
use Rattle.std.proofs.Common.{refl, ap, sym, ◌∙◌, subst, ⊎_elim, append_assoc, arith}
use Rattle.std.specs.Prelude.{not, ◌||◌, ◌==◌}
use Rattle.std.specs.List.{list_all, flat_map, slice_split, All}
use Rattle.std.specs.Str.{bytes_eq}
use Rattle.std.specs.Str.Parse.{AllDigits, digits_value}
use Rattle.std.specs.Char.{digit_value, is_ascii_digit}
use Rattle.std.specs.Fmt.{decimal}
use Rattle.std.proofs.lemmas.Bool.{and_parts, and_from, and_left, lt-ltb, cases_lt}
use Rattle.std.proofs.lemmas.List.{append-nil}
use Rattle.std.proofs.lemmas.Bool.Decides.{nat_tests}
use Rattle.std.proofs.lemmas.Fmt.{decimal_is_IsNumeral, decimal_digit, first_decimal}
use Rattle.std.proofs.lemmas.List.Elements.{All-nil, All-cons}
use Rattle.std.proofs.lemmas.List.Splits.{slice_split_none, slice_split_at}
use Rattle.sample_lang.specs.declared.program.Part.{Part}
use Rattle.sample_lang.specs.declared.program.Part.TheVariants.{Number, Name, Add, Sub, Mul}
use Rattle.sample_lang.specs.Bytes.{is_name_byte}
use Rattle.sample_compiler.specs.Objects.{code_part_text}
use Rattle.sample_linker.specs.Lines.{is_line_feed, is_space, begins_by, is_name, is_number, part_of, parts_behind, and_then, whole_code}
use Rattle.sample_linker.specs.Lines.{code_of, leaves_one}
use Rattle.sample_linker.specs.Right.{IsRightPart, AreRightParts}

-- ---- bytes

digit_is : (c : ℕ) → digit_value c < 10 → is_ascii_digit c ≡ true
digit_is c h = grind (arith, nat_tests)

digit_clear : (c : ℕ) → is_ascii_digit c ≡ true → (is_space c ≡ false) × (is_line_feed c ≡ false)
digit_clear c h = (grind (arith, nat_tests), grind (arith, nat_tests))

name_clear : (c : ℕ) → is_name_byte c ≡ true → (is_space c ≡ false) × (is_line_feed c ≡ false)
name_clear c h = (grind (arith, nat_tests), grind (arith, nat_tests))

-- ---- words have no blanks and no line feeds

abbrev pub Clear : (ℕ → Bool) → List ℕ → Type 0
Clear p [] = Unit {0}
Clear p (c ∷ cs) = (p c ≡ false) × Clear p cs

pub all_clear : (p : ℕ → Bool) (xs : List ℕ) → Clear p xs → All (λ x. p x ≡ false) xs
all_clear p [] h = All-nil (λ x. p x ≡ false)
all_clear p (x ∷ xs) h = All-cons (λ x. p x ≡ false) x xs h.0 (all_clear p xs h.1)

pub Clear-append : (p : ℕ → Bool) (xs ys : List ℕ) → Clear p xs → Clear p ys → Clear p (xs ++ ys)
Clear-append p [] ys h k = k
Clear-append p (x ∷ xs) ys h k = (h.0, Clear-append p xs ys h.1 k)

digits_pass : (ds : List ℕ) → AllDigits 10 ds → list_all is_ascii_digit ds ≡ true
digits_pass [] h = refl
digits_pass (c ∷ cs) h = and_from (is_ascii_digit c) (list_all is_ascii_digit cs) (digit_is c h.0) (digits_pass cs h.1)

pub digits_clear : (ds : List ℕ) → list_all is_ascii_digit ds ≡ true → Clear is_space ds × Clear is_line_feed ds
digits_clear [] h = (tt, tt)
digits_clear (c ∷ cs) h =
    let both = and_parts (is_ascii_digit c) (list_all is_ascii_digit cs) h in
    let here = digit_clear c both.0 in
    let more = digits_clear cs both.1 in
    ((here.0, more.0), (here.1, more.1))

pub bytes_clear : (cs : List ℕ) → list_all is_name_byte cs ≡ true → Clear is_space cs × Clear is_line_feed cs
bytes_clear [] h = (tt, tt)
bytes_clear (c ∷ cs) h =
    let both = and_parts (is_name_byte c) (list_all is_name_byte cs) h in
    let here = name_clear c both.0 in
    let more = bytes_clear cs both.1 in
    ((here.0, more.0), (here.1, more.1))

name_bytes : (name : List ℕ) → is_name name ≡ true → list_all is_name_byte name ≡ true
name_bytes name h =
    let a = and_parts _ _ h in
    let b = and_parts _ _ a.0 in
    let c = and_parts _ _ b.0 in
    (and_parts _ _ c.0).1

pub name_is_clear : (name : List ℕ) → is_name name ≡ true → Clear is_space name × Clear is_line_feed name
name_is_clear name h = bytes_clear name (name_bytes name h)

-- ---- numbers

pub decimal_passes : (n : ℕ) → n < 2 ^ 64 → list_all is_ascii_digit (decimal n) ≡ true
decimal_passes n h = digits_pass (decimal n) (decimal_is_IsNumeral n h).0.1

-- the first byte of some digits
first_digit : (w : List ℕ) → 0 < length w → list_all is_ascii_digit w ≡ true → begins_by is_ascii_digit w ≡ true
first_digit [] h k = absurd (omega (arith, h))
first_digit (c ∷ cs) h k = (and_parts (is_ascii_digit c) (list_all is_ascii_digit cs) k).0

not_zero : (w : List ℕ) → 48 < get_or w 0 0 → begins_by (λ c. c == 48) w ≡ false
not_zero [] h = refl
not_zero (c ∷ cs) h = grind (arith, nat_tests)

or_true : (b : Bool) → (b || true) ≡ true
or_true true = refl
or_true false = refl

abbrev Plain : List ℕ → Bool
Plain w = leb (length w) 1 || not (begins_by (λ c. c == 48) w)

plain_decimal : (n : ℕ) → n < 2 ^ 64 → Plain (decimal n) ≡ true
plain_decimal n h =
    ⊎_elim (λ some. ap (λ b. leb (length (decimal n)) 1 || not b) (not_zero (decimal n) (first_decimal n some h))
    ∙ or_true (leb (length (decimal n)) 1))
    (λ none. let zero_is : n ≡ 0 = omega (arith, none) in ap (λ m. Plain (decimal m)) zero_is ∙ ap Plain (decimal_digit 0 (omega arith)))
    (cases_lt 0 n)

pub decimal_is_number : (n : ℕ) → n < 2 ^ 64 → is_number (decimal n) ≡ true
decimal_is_number n h =
    let numeral = decimal_is_IsNumeral n h in
    let pass = decimal_passes n h in
    let small : ltb (digits_value 10 (decimal n)) (2 ^ 64) ≡ true = ap (λ m. ltb m (2 ^ 64)) numeral.1 ∙ lt-ltb n (2 ^ 64) h in
    and_from _ _ (and_from _ _ (and_from _ _ (first_digit (decimal n) numeral.0.0 pass) pass) (plain_decimal n h)) small

cond_no : {X : Type 0} (b : Bool) (x y : X) → b ≡ false → cond b x y ≡ y
cond_no b x y h = ap (λ t. cond t x y) h

cond_yes : {X : Type 0} (b : Bool) (x y : X) → b ≡ true → cond b x y ≡ x
cond_yes b x y h = ap (λ t. cond t x y) h

digit_not : (c : ℕ) → is_ascii_digit c ≡ true → (eqb c 64 ≡ false) × (eqb c 43 ≡ false) × (eqb c 45 ≡ false) × (eqb c 42 ≡ false)
digit_not c h = (grind (arith, nat_tests), grind (arith, nat_tests), grind (arith, nat_tests), grind (arith, nat_tests))

number_reads : (w : List ℕ) (n : ℕ) → is_number w ≡ true → digits_value 10 w ≡ n → part_of w ≡ Some (Number n)
number_reads [] n h k = cc
number_reads (c ∷ cs) n h k =
    let a = and_parts _ _ h in
    let b = and_parts _ _ a.0 in
    let d = and_parts _ _ b.0 in
    let other = digit_not c d.0 in
    cond_no (eqb c 64) _ _ other.0
    ∙ cond_no (bytes_eq (c ∷ cs) (43 ∷ [])) _ _ (and_left (eqb c 43) _ other.1)
    ∙ cond_no (bytes_eq (c ∷ cs) (45 ∷ [])) _ _ (and_left (eqb c 45) _ other.2)
    ∙ cond_no (bytes_eq (c ∷ cs) (42 ∷ [])) _ _ (and_left (eqb c 42) _ other.3)
    ∙ cond_yes (is_number (c ∷ cs)) _ _ h
    ∙ ap (λ m. Some (Number m)) k

-- ---- parts

-- a part without the blank in front
abbrev pub part_word : Part → List ℕ
part_word (Number n) = decimal n
part_word (Name name) = 64 ∷ name
part_word Add = 43 ∷ []
part_word Sub = 45 ∷ []
part_word Mul = 42 ∷ []

pub part_is : (part : Part) → code_part_text part ≡ 32 ∷ part_word part
part_is (Number n) = refl
part_is (Name name) = refl
part_is Add = refl
part_is Sub = refl
part_is Mul = refl

word_reads : (part : Part) → IsRightPart part → part_of (part_word part) ≡ Some part
word_reads (Number n) h = number_reads (decimal n) n (decimal_is_number n h) (decimal_is_IsNumeral n h).1
word_reads (Name name) h = cond_yes (is_name name) _ _ h
word_reads Add h = refl
word_reads Sub h = refl
word_reads Mul h = refl

pub word_clear : (part : Part) → IsRightPart part → Clear is_space (part_word part) × Clear is_line_feed (part_word part)
word_clear (Number n) h = digits_clear (decimal n) (decimal_passes n h)
word_clear (Name name) h = let rest = name_is_clear name h in ((refl, rest.0), (refl, rest.1))
word_clear Add h = ((refl, tt), (refl, tt))
word_clear Sub h = ((refl, tt), (refl, tt))
word_clear Mul h = ((refl, tt), (refl, tt))

-- ---- codes

split_words : (p : Part) (ps : List Part) → IsRightPart p → AreRightParts ps
    → slice_split is_space (part_word p ++ flat_map code_part_text ps) ≡ part_word p ∷ map part_word ps
split_words p [] h k =
    ap (slice_split is_space) (append-nil (part_word p))
    ∙ slice_split_none is_space (part_word p) (all_clear is_space (part_word p) (word_clear p h).0)
split_words p (q ∷ qs) h k =
    ap (λ t. slice_split is_space (part_word p ++ (t ++ flat_map code_part_text qs))) (part_is q)
    ∙ slice_split_at is_space (part_word p) 32 (part_word q ++ flat_map code_part_text qs)
    (all_clear is_space (part_word p) (word_clear p h).0) refl
    ∙ ap (λ ws. part_word p ∷ ws) (split_words q qs k.0 k.1)

parts_read : (code ps : List Part) → AreRightParts ps → parts_behind code (map part_word ps) ≡ Some (code ++ ps)
parts_read code [] h = ap Some (sym (append-nil code))
parts_read code (p ∷ ps) h =
    ap (λ o. and_then o (λ part. parts_behind (code ++ part ∷ []) (map part_word ps))) (word_reads p h.0)
    ∙ parts_read (code ++ p ∷ []) ps h.1 ∙ ap Some (append_assoc code (p ∷ []) ps)

pub code_reads : (p : Part) (ps : List Part) → AreRightParts (p ∷ ps) → leaves_one 0 (p ∷ ps) ≡ true
    → code_of (part_word p ++ flat_map code_part_text ps) ≡ Some (p ∷ ps)
code_reads p ps h k =
    ap (λ ws. and_then (parts_behind [] ws) whole_code) (split_words p ps h.0 h.1)
    ∙ ap (λ o. and_then o whole_code) (parts_read [] (p ∷ ps) h)
    ∙ cond_yes (leaves_one 0 (p ∷ ps)) _ _ k

-- a code's text has no line feed
pub code_clear : (ps : List Part) → AreRightParts ps → Clear is_line_feed (flat_map code_part_text ps)
code_clear [] h = tt
code_clear (p ∷ ps) h =
    subst (λ t. Clear is_line_feed (t ++ flat_map code_part_text ps)) (sym (part_is p))
    (refl, Clear-append is_line_feed (part_word p) (flat_map code_part_text ps) (word_clear p h.0).1 (code_clear ps h.1))
