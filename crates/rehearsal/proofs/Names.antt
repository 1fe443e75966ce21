-- The names of the workload's files: `jK.c` and `jK.o`, with a number K in decimal.
use Rattle.std.proofs.Common.{◌≡◌, ℕ, ◌-◌, ◌<◌, ◌≤◌, ◌^◌, Bool, true, false, cond, nat_eq, List, [], ◌∷◌, ◌++◌, length, drop, take}
use Rattle.std.proofs.Common.{get_or, refl, sym, ap, ◌∙◌, append_assoc, length-append, take-append-drop, arith}
use Rattle.std.specs.Prelude.{codes, Some, All, nat_lt, ◌&&◌, ◌||◌}
use Rattle.std.specs.List.{list_any, find, starts_with, ends_with}
use Rattle.std.specs.Fmt.{decimal}
use Rattle.std.specs.Cmp.Lexicographic.{same_text}
use Rattle.std.proofs.lemmas.Bool.{lt-ltb}
use Rattle.std.proofs.lemmas.Bool.Decides.{eqb_tells}
use Rattle.std.proofs.lemmas.Cmp.{nat_list_eq_equiv}
use Rattle.std.proofs.lemmas.Fmt.{decimal_is_IsNumeral}
use Rattle.std.proofs.lemmas.List.Elements.{All-append, All-from_get_or, All-from_recursion, All-weaker}
use Rattle.std.proofs.lemmas.List.Folds.{list_any_none}
use Rattle.std.proofs.lemmas.List.Prefix.{end_rest}
use Rattle.std.proofs.lemmas.Str.Parse.{digit_at}
use lib.Pointwise.{pointwise}
use Rattle.arg_scan.specs.declared.names.Ending.TheVariants.{C}
use Rattle.arg_scan.specs.declared.part.Role.TheVariants as role
use Rattle.arg_scan.specs.declared.why.Why.TheVariants as why
use Rattle.arg_scan.specs.Names.{last_name, is_conftest, is_reserved, has_ending, ending_of, endings}
use Rattle.arg_scan.specs.Roles.{role_of, source_role}
use Rattle.arg_scan.specs.Forces.{when, output_reasons}
use Rattle.sample_compiler.specs.Samples.{is_preprocessed_name}
use Rattle.rehearsal.proofs.Plain.{ArePlain}

abbrev pub IsDigit : ℕ → Type 0
IsDigit b = (48 ≤ b) × (b ≤ 57)

-- each byte of a number in decimal is a digit
pub digits : (n : ℕ) → n < 2 ^ 64 → All IsDigit (decimal n)
digits n small = All-from_get_or IsDigit (decimal n) 0 (λ k within. digit_at (decimal n) k (decimal_is_IsNumeral n small).0.1 within)

pub other_byte : (b c : ℕ) → (b ≡ c → ⊥) → nat_eq c b ≡ false
other_byte b c apart = grind (arith, eqb_tells)

-- `j`, a number, and this ending
abbrev pub named : ℕ → List ℕ → List ℕ
named job ending = (codes "j" ++ decimal job) ++ ending

-- what holds of `j`, of digits and of an ending holds of such a name
all_named : (P : ℕ → Type 0) (job : ℕ) (ending : List ℕ) → job < 2 ^ 64 → P 106 → ((b : ℕ) → IsDigit b → P b) → All P ending
    → All P (named job ending)
all_named P job ending small first digit last =
    All-append P (codes "j" ++ decimal job) ending
    (All-append P (codes "j") (decimal job) (All-from_recursion P (codes "j") (first, tt))
    (All-weaker IsDigit P digit (decimal job) (digits job small))) last

abbrev IsNoSlash : ℕ → Type 0
IsNoSlash b = nat_eq 47 b ≡ false

digit_no_slash : (b : ℕ) → IsDigit b → IsNoSlash b
digit_no_slash b is = other_byte b 47 (λ same. absurd (omega (arith, is.0, same)))

-- such a name is no path
last_whole : (job : ℕ) (ending : List ℕ) → job < 2 ^ 64 → All IsNoSlash ending → last_name (named job ending) ≡ named job ending
last_whole job ending small plain =
    let none : list_any (nat_eq 47) (named job ending) ≡ false =
    list_any_none (nat_eq 47) (named job ending) (all_named IsNoSlash job ending small refl digit_no_slash plain) in
    ap (λ (t : Bool). cond t (last_name (decimal job ++ ending)) (named job ending)) none

-- how it ends
ends_itself : (job : ℕ) (ending : List ℕ) → ends_with nat_eq (named job ending) ending ≡ true
ends_itself job ending = ap (λ rest. pointwise nat_eq ending rest)
    (end_rest (named job ending) ending (codes "j" ++ decimal job) refl) ∙ nat_list_eq_equiv.refl ending

-- a text ends in one byte alone
last_byte : (xs : List ℕ) (a : ℕ) → get_or (xs ++ a ∷ []) (length xs) 0 ≡ a
last_byte [] a = refl
last_byte (x ∷ xs) a = last_byte xs a

one_end : (xs ys : List ℕ) (a b : ℕ) → xs ++ a ∷ [] ≡ ys ++ b ∷ [] → a ≡ b
one_end xs ys a b h =
    let n : length xs ≡ length ys = omega (arith, simp length-append at (ap length h)) in
    sym (last_byte xs a) ∙ ap (λ l. get_or l (length xs) 0) h ∙ ap (λ k. get_or (ys ++ b ∷ []) k 0) n ∙ last_byte ys b

whole_end : (xs ending : List ℕ) → ends_with nat_eq xs ending ≡ true → xs ≡ take (length xs - length ending) xs ++ ending
whole_end xs ending is =
    sym (take-append-drop (length xs - length ending) xs)
    ∙ ap (λ rest. take (length xs - length ending) xs ++ rest) (sym (same_text ending (drop (length xs - length ending) xs) (sym is)))

-- it has no ending with another last byte
other_end : (front : List ℕ) (a : ℕ) (begins : List ℕ) (b : ℕ) → (a ≡ b → ⊥) → ends_with nat_eq (front ++ a ∷ []) (begins ++ b ∷ []) ≡ false
other_end front a begins b apart = by_test (ends_with nat_eq (front ++ a ∷ []) (begins ++ b ∷ [])) refl
  where
    by_test : (test : Bool) → ends_with nat_eq (front ++ a ∷ []) (begins ++ b ∷ []) ≡ test → test ≡ false
    by_test false is = refl
    by_test true is =
        let xs = front ++ a ∷ [] in
        let ending = begins ++ b ∷ [] in
        absurd (apart (one_end front (take (length xs - length ending) xs ++ begins) a b
        (whole_end xs ending is ∙ sym (append_assoc (take (length xs - length ending) xs) begins (b ∷ [])))))

-- ---- `jK.c`

dot_c : All IsNoSlash (codes ".c")
dot_c = All-from_recursion IsNoSlash (codes ".c") (refl, (refl, tt))

c_ending : (job : ℕ) → has_ending (named job (codes ".c")) C ≡ true
c_ending job =
    let long : nat_lt 2 (length (named job (codes ".c"))) ≡ true =
    lt-ltb 2 (length (named job (codes ".c")))
    (omega (arith, length-append (codes "j" ++ decimal job) (codes ".c"), length-append (codes "j") (decimal job))) in
    ap (λ (t : Bool). t && ends_with nat_eq (named job (codes ".c")) (codes ".c")) long ∙ ends_itself job (codes ".c")

source_role_is : (job : ℕ) → job < 2 ^ 64 → role_of (named job (codes ".c")) ≡ role.Source C
unfolding role_of
source_role_is job small =
    ap (λ name. source_role (ending_of name)) (last_whole job (codes ".c") small dot_c)
    ∙ ap (λ (t : Bool). source_role (cond t (Some C) (find (has_ending (named job (codes ".c"))) (drop 1 endings)))) (c_ending job)

no_conftest : (job : ℕ) → job < 2 ^ 64 → is_conftest (named job (codes ".c")) ≡ false
no_conftest job small = ap (λ name. starts_with nat_eq name (codes "conftest.")) (last_whole job (codes ".c") small dot_c)

-- ---- `jK.o`

pub unreserved : (job : ℕ) → is_reserved (named job (codes ".o")) ≡ false
unreserved job = ap (λ name. is_reserved name) (sym (append_assoc (codes "j" ++ decimal job) (codes ".") (codes "o")))
    ∙ other_end ((codes "j" ++ decimal job) ++ codes ".") 111 (codes ".farm") 126 (λ same. absurd (omega (arith, same)))

plain_output : (job : ℕ) → output_reasons (named job (codes ".o")) ≡ []
plain_output job = ap (λ (t : Bool). when t why.ReservedName) (unreserved job)

pub are_plain : (job : ℕ) → job < 2 ^ 64 → ArePlain (named job (codes ".c")) (named job (codes ".o"))
are_plain job small = record { source = source_role_is job small; conftest = no_conftest job small; output = plain_output job }

-- the source isn't preprocessed
pub unready : (job : ℕ) → is_preprocessed_name (named job (codes ".c")) ≡ false
unready job =
    let front = (codes "j" ++ decimal job) ++ codes "." in
    let name : named job (codes ".c") ≡ front ++ codes "c" = sym (append_assoc (codes "j" ++ decimal job) (codes ".") (codes "c")) in
    ap (λ n. is_preprocessed_name n) name
    ∙ ap (λ (t : Bool). t || ends_with nat_eq (front ++ codes "c") (codes ".ii"))
    (other_end front 99 (codes ".") 105 (λ same. absurd (omega (arith, same))))
    ∙ other_end front 99 (codes ".i") 105 (λ same. absurd (omega (arith, same)))
