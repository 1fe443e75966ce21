-- The words behind `--link`, and the names of files.
use Rattle.std.proofs.Common.{◌≡◌, ℕ, zero, suc, ◌+◌, ◌-◌, ◌<◌, ◌≤◌, Bool, true, false, cond, List, [], ◌∷◌, length, take, drop, get_or}
use Rattle.std.proofs.Common.{map, Some, None, refl, ap, sym, ◌∙◌, subst, string_bytes, Global, arith}
use Rattle.std.specs.Prelude.{not, ◌&&◌, nat_lt, nat_le, String}
use Rattle.std.specs.List.{position_or_len}
use Rattle.std.proofs.lemmas.List.{length-take-le, length-drop, length-map}
use Rattle.std.proofs.lemmas.Bool.{le-leb, lt-ltb}
use Rattle.sample_program.specs.Links.{file_name}
use Rattle.arg_scan.specs.Names.{is_reserved}
use Rattle.sample_program.specs.Forms.{link_max, is_output, link_of, link_form}

-- three tests, and what they choose
all_hold : {A : Type 0} (a b c : Bool) (x y : A) → a ≡ true → b ≡ true → c ≡ false → cond (a && b && not c) x y ≡ x
all_hold true true false x y h k l = refl
all_hold true true true x y h k l = cc
all_hold true false c x y h k l = cc
all_hold false b c x y h k l = cc

pub link_some : (words : List (List ℕ)) (count : ℕ) (image : List ℕ) → count ≡ position_or_len is_output words
    → drop (count + 1) words ≡ image ∷ []
    → nat_lt 0 (length (take count words)) ≡ true → nat_le (length (take count words)) link_max ≡ true → is_reserved image ≡ false
    → link_form words ≡ Some (take count words, image)
link_some words count image e d some few plain =
    ap (λ n. link_of (take n words) (drop (n + 1) words)) (sym e)
    ∙ ap (link_of (take count words)) d
    ∙ all_hold (nat_lt 0 (length (take count words))) (nat_le (length (take count words)) link_max) (is_reserved image)
    (Some (take count words, image)) None some few plain

-- ---- the words of a link

map_take : (n : ℕ) (words : List (String Global))
    → take n (map (string_bytes {Z = Global}) words) ≡ map (string_bytes {Z = Global}) (take n words)
map_take zero words = refl
map_take (suc n) [] = refl
map_take (suc n) (word ∷ words) = ap (λ ws. string_bytes word ∷ ws) (map_take n words)

map_drop : (n : ℕ) (words : List (String Global))
    → drop n (map (string_bytes {Z = Global}) words) ≡ map (string_bytes {Z = Global}) (drop n words)
map_drop zero words = refl
map_drop (suc n) [] = refl
map_drop (suc n) (word ∷ words) = map_drop n words

second : (words : List (String Global)) (image : String Global) → 2 ≤ length words → length words < 3 → image ≡ get_or words 1 image
    → drop 1 words ≡ image ∷ []
second [] image low high is = absurd (omega (arith, low))
second (a ∷ []) image low high is = absurd (omega (arith, low))
second (a ∷ b ∷ []) image low high is = ap (λ (w : String Global). w ∷ []) (sym is)
second (a ∷ b ∷ c ∷ words) image low high is = absurd (omega (arith, high))

-- the word behind the first `-o` is the last
last_word : (words : List (String Global)) (count : ℕ) (image : String Global) → length words ≡ count + 2
    → image ≡ get_or words (count + 1) image → drop (count + 1) words ≡ image ∷ []
last_word [] count image many is = absurd (omega (arith, many))
last_word (a ∷ words) zero image many is = second (a ∷ words) image (omega (arith, many)) (omega (arith, many)) is
last_word (a ∷ words) (suc count) image many is =
    let more : suc count + 1 ≡ suc (count + 1) = omega arith in
    ap (λ k. drop k (a ∷ words)) more
    ∙ last_word words count image (omega (arith, many)) (subst (λ k. image ≡ get_or (a ∷ words) k image) more is)

module _ (words : List (String Global)) (count : ℕ) (image : String Global) (many : length words ≡ count + 2)
    (is : image ≡ get_or words (count + 1) image) where
  tail_is : drop (count + 1) (map (string_bytes {Z = Global}) words) ≡ string_bytes image ∷ []
  tail_is = map_drop (count + 1) words ∙ ap (map (string_bytes {Z = Global})) (last_word words count image many is)

  number_is : length (take count (map (string_bytes {Z = Global}) words)) ≡ count
  number_is = ap length (map_take count words) ∙ length-map (take count words) string_bytes
      ∙ length-take-le count words (omega (arith, many))

  pub link_here : count ≡ position_or_len is_output (map (string_bytes {Z = Global}) words) → 0 < count → count ≤ link_max
      → is_reserved (string_bytes image) ≡ false
      → link_form (map (string_bytes {Z = Global}) words) ≡ Some (map (string_bytes {Z = Global}) (take count words), string_bytes image)
  link_here e some few plain =
      link_some (map (string_bytes {Z = Global}) words) count (string_bytes image) e tail_is
      (ap (λ n. nat_lt 0 n) number_is ∙ lt-ltb 0 count some) (ap (λ n. nat_le n link_max) number_is ∙ le-leb count link_max few) plain
      ∙ ap (λ files. Some (files, string_bytes image)) (map_take count words)

-- ---- the name of a file

nth_bytes : (words : List (String Global)) (k : ℕ) (word : String Global) → k < length words → word ≡ get_or words k word
    → string_bytes word ≡ get_or (map (string_bytes {Z = Global}) words) k []
nth_bytes [] k word lt is = absurd (omega (arith, lt))
nth_bytes (first ∷ words) zero word lt is = ap string_bytes is
nth_bytes (first ∷ words) (suc k) word lt is = nth_bytes words k word (omega (arith, lt)) is

pub file_is : (words : List (String Global)) (file at : ℕ) (word : String Global) → 1 ≤ file → at ≡ file - 1 → at < length words
    → word ≡ get_or words at word
    → string_bytes word ≡ file_name (map (string_bytes {Z = Global}) words) file
file_is words zero at word le e lt is = absurd (omega (arith, le))
file_is words (suc k) at word le e lt is =
    let same : at ≡ k = omega (arith, e) in
    nth_bytes words k word (subst (λ n. n < length words) same lt) (subst (λ n. word ≡ get_or words n word) same is)

-- ---- words that ask for no link

none_behind : (files words : List (List ℕ)) → (length words ≡ 1 → ⊥) → link_of files words ≡ None
none_behind files [] h = refl
none_behind files (word ∷ []) h = absurd (h refl)
none_behind files (word ∷ other ∷ words) h = refl

pub none_other : (words : List (String Global)) (count : ℕ) → count ≡ position_or_len is_output (map (string_bytes {Z = Global}) words)
    → count ≤ length words
    → (length words - count ≡ 2 → ⊥) → link_form (map (string_bytes {Z = Global}) words) ≡ None
none_other words count e within h =
    let all : List (List ℕ) = map (string_bytes {Z = Global}) words in
    ap (λ n. link_of (take n all) (drop (n + 1) all)) (sym e)
    ∙ none_behind (take count all) (drop (count + 1) all)
    (λ one. h (omega (arith, within, one, length-drop (count + 1) all, length-map words (string_bytes {Z = Global}))))
