-- The words of a line.
use Rattle.std.proofs.Common.{◌≡◌, ℕ, zero, suc, ◌-◌, ◌<◌, ◌≤◌, Bool, true, false, List, [], ◌∷◌, ◌++◌, length, get_or, take, drop}
use Rattle.std.proofs.Common.{refl, ap, sym, ◌∙◌, subst, arith}
use Rattle.std.specs.Prelude.{not, nat_le}
use Rattle.std.specs.List.{AllPass, filter, slice_split}
use Rattle.std.proofs.lemmas.Bool.Decides.{nat_tests}
use Rattle.std.proofs.lemmas.List.{append-nil, take-append-drop, length-drop, length-take-le, drop_more, take_rest}
use Rattle.std.proofs.lemmas.List.Splits.{slice_split-cons_yes, slice_split_none, slice_split_at}
use Rattle.farm_types.specs.Bytes.{is_blank}
use Rattle.job_graph.specs.Lines.{plain_words}

-- a part that is a word
abbrev pub has_bytes : List ℕ → Bool
has_bytes word = nat_le 1 (length word)

pub words_blank : (c : ℕ) (cs : List ℕ) → is_blank c ≡ true → plain_words (c ∷ cs) ≡ plain_words cs
words_blank c cs h = ap (filter has_bytes) (slice_split-cons_yes is_blank c cs h)

pub not_false : (b : Bool) → not b ≡ true → b ≡ false
not_false true h = cc
not_false false h = refl

some_bytes : (n : ℕ) → 1 ≤ n → nat_le 1 n ≡ true
some_bytes n h = grind (arith, nat_tests)

keeps : (w : List ℕ) (ws : List (List ℕ)) → 1 ≤ length w → filter has_bytes (w ∷ ws) ≡ w ∷ filter has_bytes ws
keeps w ws h = let t : nat_le 1 (length w) ≡ true = some_bytes (length w) h in rw t refl

pub words_first : (line : List ℕ) (end : ℕ) → 1 ≤ end → end ≤ length line → AllPass (λ c. not (is_blank c)) (take end line)
    → (end < length line → is_blank (get_or line end 0) ≡ true) → plain_words line ≡ take end line ∷ plain_words (drop end line)
words_first line end some high plain ends = by (drop end line) refl
  where
    by : (rest : List ℕ) → drop end line ≡ rest → plain_words line ≡ take end line ∷ plain_words (drop end line)
    by [] e =
        let w : List ℕ = take end line in
        let n : length w ≡ end = length-take-le end line high in
        let whole : line ≡ w = sym (take-append-drop end line) ∙ ap (λ t. w ++ t) e ∙ append-nil w in
        let apart : slice_split is_blank w ≡ w ∷ [] = slice_split_none is_blank w
        (λ k d l. not_false (is_blank (get_or w k d)) (plain k d l)) in
        ap plain_words whole ∙ ap (filter has_bytes) apart ∙ keeps w [] (omega arith) ∙ ap (λ t. w ∷ plain_words t) (sym e)
    by (c ∷ rest) e =
        let w : List ℕ = take end line in
        let n : length w ≡ end = length-take-le end line high in
        let m : length (drop end line) ≡ suc (length rest) = ap length e in
        let lt : end < length line = omega (arith, length-drop end line) in
        let there = sym e ∙ drop_more line end 0 lt in
        let first : c ≡ get_or line end 0 = cc in
        let b : is_blank c ≡ true = ap is_blank first ∙ ends lt in
        let whole : line ≡ w ++ c ∷ rest = sym (take-append-drop end line) ∙ ap (λ t. w ++ t) e in
        let apart : slice_split is_blank (w ++ c ∷ rest) ≡ w ∷ slice_split is_blank rest =
        slice_split_at is_blank w c rest (λ k d l. not_false (is_blank (get_or w k d)) (plain k d l)) b in
        ap plain_words whole ∙ ap (filter has_bytes) apart ∙ keeps w (slice_split is_blank rest) (omega arith)
        ∙ ap (λ t. w ∷ t) (sym (ap plain_words e ∙ words_blank c rest b))

-- the line from a byte on that is no blank
pub words_cut : (line : List ℕ) (end : ℕ) → 1 ≤ length line → is_blank (get_or line 0 0) ≡ false → end ≤ length line
    → AllPass (λ c. not (is_blank c)) (take (end - 0) line) → (end < length line → is_blank (get_or line end 0) ≡ true)
    → plain_words line ≡ take end line ∷ plain_words (take (length line - end) (drop end line))
words_cut line end long first high plain ends =
    let whole : end - 0 ≡ end = omega arith in
    words_first line end (by end refl) high (subst (λ n. AllPass (λ c. not (is_blank c)) (take n line)) whole plain) ends
    ∙ ap (λ t. take end line ∷ plain_words t) (sym (take_rest line end))
  where
    by : (n : ℕ) → end ≡ n → 1 ≤ end
    by zero e =
        let hit : is_blank (get_or line end 0) ≡ true = ends (omega arith) in
        let miss : is_blank (get_or line end 0) ≡ false = ap (λ n. is_blank (get_or line n 0)) e ∙ first in
        absurd cc
    by (suc n) e = omega arith
