-- What the preprocessor makes of a text of one line that is no directive: the text itself.
use Rattle.std.proofs.Common.{◌≡◌, ℕ, ◌<◌, ◌^◌, Bool, true, false, List, [], ◌∷◌, ◌++◌, Ok, refl, sym, ap, ◌∙◌, append_assoc, arith}
use Rattle.std.specs.Prelude.{codes, All, ◌==◌, if◌then◌else◌}
use Rattle.std.specs.Fmt.{decimal}
use Rattle.std.specs.List.{flat_map}
use Rattle.std.proofs.lemmas.List.{append-nil}
use Rattle.std.proofs.lemmas.List.Concat.{flat_map-cons}
use Rattle.std.proofs.lemmas.List.Elements.{All-append, All-from_recursion, All-weaker, All-head, All-tail}
use Rattle.farm_types.specs.Bytes.{line_feed}
use Rattle.file_map.specs.FileMaps.{Files}
use Rattle.sample_compiler.specs.Lines.{with_byte, source_lines}
use Rattle.sample_lang.specs.Bytes.{begins_name, is_name_byte}
use Rattle.sample_compiler.specs.Words.{begins, join, word_pieces, piece_text, replaced}
use Rattle.sample_compiler.specs.Expanding.{include, expand_lines, expanded}
use Rattle.workload.specs.Loads.{source_text}
use Rattle.rehearsal.proofs.Names.{IsDigit, digits, other_byte}

-- ---- with no defined names nothing is replaced

piece_itself : (piece : List ℕ) → piece_text [] piece ≡ piece
piece_itself piece = by_test (begins begins_name piece)
  where
    by_test : (test : Bool) → (if test then piece else piece) ≡ piece
    by_test true = refl
    by_test false = refl

abbrev texts : List (List ℕ) → List ℕ
texts ws = flat_map (piece_text []) ws

joined : (c : ℕ) (ws : List (List ℕ)) → texts (join c ws) ≡ c ∷ texts ws
joined c [] = flat_map-cons (piece_text []) (c ∷ []) [] ∙ ap (λ t. t ++ texts []) (piece_itself (c ∷ []))
joined c (w ∷ ws) = by_test (begins is_name_byte w)
  where
    by_test : (test : Bool) → texts (if test then (c ∷ w) ∷ ws else (c ∷ []) ∷ w ∷ ws) ≡ c ∷ texts (w ∷ ws)
    by_test true =
        flat_map-cons (piece_text []) (c ∷ w) ws ∙ ap (λ t. t ++ texts ws) (piece_itself (c ∷ w))
        ∙ ap (λ t. c ∷ (t ++ texts ws)) (sym (piece_itself w)) ∙ ap (λ t. c ∷ t) (sym (flat_map-cons (piece_text []) w ws))
    by_test false = flat_map-cons (piece_text []) (c ∷ []) (w ∷ ws) ∙ ap (λ t. t ++ texts (w ∷ ws)) (piece_itself (c ∷ []))

pub unreplaced : (line : List ℕ) → replaced [] line ≡ line
unreplaced [] = refl
unreplaced (c ∷ cs) = by_test (is_name_byte c) (unreplaced cs)
  where
    by_test : (test : Bool) → texts (word_pieces cs) ≡ cs
        → texts (if test then join c (word_pieces cs) else (c ∷ []) ∷ word_pieces cs) ≡ c ∷ cs
    by_test true later = joined c (word_pieces cs) ∙ ap (λ t. c ∷ t) later
    by_test false later = flat_map-cons (piece_text []) (c ∷ []) (word_pieces cs)
        ∙ ap (λ t. t ++ texts (word_pieces cs)) (piece_itself (c ∷ [])) ∙ ap (λ t. c ∷ t) later

-- ---- a text of one line

abbrev IsOnLine : ℕ → Type 0
IsOnLine c = (c == line_feed) ≡ false

one_line : (line : List ℕ) → All IsOnLine line → source_lines (line ++ codes ";\n") ≡ (line ++ codes ";") ∷ []
one_line [] all = refl
one_line (c ∷ cs) all =
    let later : source_lines (cs ++ codes ";\n") ≡ (cs ++ codes ";") ∷ [] = one_line cs (All-tail IsOnLine c cs all) in
    ap (λ (t : Bool). if t then [] ∷ source_lines (cs ++ codes ";\n") else with_byte c (source_lines (cs ++ codes ";\n")))
    (All-head IsOnLine c cs all)
    ∙ ap (with_byte c) later

-- the line begins with a byte other than `#`
pub expands : (files : Files) (dirs : List (List ℕ)) (first : ℕ) (line : List ℕ) → (first == 35) ≡ false → All IsOnLine (first ∷ line)
    → expanded files dirs [] (first ∷ line ++ codes ";\n") ≡ Ok (record { defines = []; text = first ∷ line ++ codes ";\n" })
expands files dirs first line plain all =
    let bytes = first ∷ (line ++ codes ";") in
    let text : replaced [] bytes ++ codes "\n" ≡ first ∷ line ++ codes ";\n" = ap (λ t. t ++ codes "\n") (unreplaced bytes)
    ∙ ap (λ t. first ∷ t) (append_assoc line (codes ";") (codes "\n")) in
    ap (λ ls. expand_lines (include files dirs 16) 1 [] ls) (one_line (first ∷ line) all)
    ∙ rw plain (ap (λ t. Ok (record { defines = []; text = t })) (append-nil (replaced [] bytes ++ codes "\n") ∙ text))

-- ---- the sources of the workload

digit_on_line : (b : ℕ) → IsDigit b → IsOnLine b
digit_on_line b is = other_byte 10 b (λ same. absurd (omega (arith, is.0, same)))

number_on_line : (n : ℕ) → n < 2 ^ 64 → All IsOnLine (decimal n)
number_on_line n small = All-weaker IsDigit IsOnLine digit_on_line (decimal n) (digits n small)

-- the source of a job but for its last two bytes
abbrev front_text : ℕ → ℕ → List ℕ
front_text job factor = ((((codes "nt j" ++ decimal job) ++ codes " = ") ++ decimal factor) ++ codes " * 7 + ") ++ decimal job

front_on_line : (job factor : ℕ) → job < 2 ^ 64 → factor < 2 ^ 64 → All IsOnLine (105 ∷ front_text job factor)
front_on_line job factor small few =
    let P = IsOnLine in
    let a = codes "int j" in
    let b = codes " = " in
    let d = codes " * 7 + " in
    let ja = All-append P a (decimal job) (All-from_recursion P a (refl, (refl, (refl, (refl, (refl, tt)))))) (number_on_line job small) in
    let jb = All-append P (a ++ decimal job) b ja (All-from_recursion P b (refl, (refl, (refl, tt)))) in
    let jf = All-append P ((a ++ decimal job) ++ b) (decimal factor) jb (number_on_line factor few) in
    let jd = All-append P (((a ++ decimal job) ++ b) ++ decimal factor) d jf
    (All-from_recursion P d (refl, (refl, (refl, (refl, (refl, (refl, (refl, tt)))))))) in
    All-append P ((((a ++ decimal job) ++ b) ++ decimal factor) ++ d) (decimal job) jd (number_on_line job small)

-- a source of the workload is left as it is
pub source_expands : (files : Files) (dirs : List (List ℕ)) (job factor : ℕ) → job < 2 ^ 64 → factor < 2 ^ 64
    → expanded files dirs [] (source_text job factor) ≡ Ok (record { defines = []; text = source_text job factor })
source_expands files dirs job factor small few = expands files dirs 105 (front_text job factor) refl (front_on_line job factor small few)
