-- What is kept of an entry is the entry.
use Rattle.std.proofs.Common.{◌≡◌, ℕ, ◌+◌, ◌*◌, ◌<◌, ◌≤◌, List, [], ◌∷◌, ◌++◌, length, take, drop, refl, ◌∙◌, ap, arith, append_assoc}
use Rattle.std.specs.Prelude.{true, nat_lt}
use Rattle.std.specs.Int.{w32, to_be_bytes, from_be_bytes}
use Rattle.std.specs.List.{flat_map, list_all}
use Rattle.std.proofs.lemmas.List.{length-append, take_at, drop_at}
use Rattle.std.proofs.lemmas.Nat.{from_be_bytes-to_be_bytes_4}
use Rattle.std.proofs.lemmas.Bool.{and_parts}
use Rattle.std.proofs.Math.Seq.{take-append_seam, drop-append_seam}
use Rattle.farm_types.specs.declared.placed.Ext.TheVariants.{I, Ii}
use Rattle.farm_types.specs.declared.placed.Word.{Word}
use Rattle.farm_types.specs.declared.placed.Word.TheVariants.{Text, Input, Output}
use Rattle.farm_types.specs.declared.ran.Ran.{Ran}
use Rattle.object_cache.specs.Entries.{Entry}
use Rattle.object_cache.specs.Entries.{words_len, size_of}
use Rattle.object_cache.specs.Keys.{text_len}
use Rattle.object_cache.specs.Packs.{len_bytes, len_in, coded, word_in, behind_word, words_in, behind_words, packed, behind_ran, unpacked}

pub len_bytes_four : (n : ℕ) → length (len_bytes n) ≡ 4
unfolding len_bytes
len_bytes_four n = refl

len_back : (n : ℕ) (rest : List ℕ) → n < 4294967296 → len_in (len_bytes n ++ rest) ≡ n
unfolding len_bytes len_in
len_back n rest small =
    ap (from_be_bytes w32) (take_at (to_be_bytes w32 n) rest 4 refl) ∙ from_be_bytes-to_be_bytes_4 n small

-- the front of a text of coded words is the word
text_back : (bytes rest : List ℕ) → length bytes < 4294967296
    → take (len_in ((len_bytes (length bytes) ++ bytes) ++ rest)) (drop 4 ((len_bytes (length bytes) ++ bytes) ++ rest)) ≡ bytes
text_back bytes rest small =
    let whole = append_assoc (len_bytes (length bytes)) bytes rest in
    let len : len_in ((len_bytes (length bytes) ++ bytes) ++ rest) ≡ length bytes = ap len_in whole
    ∙ len_back (length bytes) (bytes ++ rest) small in
    let behind : drop 4 ((len_bytes (length bytes) ++ bytes) ++ rest) ≡ bytes ++ rest =
    ap (drop 4) whole ∙ drop_at (len_bytes (length bytes)) (bytes ++ rest) 4 (len_bytes_four (length bytes)) in
    ap (λ n. take n (drop 4 ((len_bytes (length bytes) ++ bytes) ++ rest))) len ∙ ap (take (length bytes)) behind
    ∙ take-append_seam bytes rest

behind_back : (bytes rest : List ℕ) → length bytes < 4294967296
    → drop (len_in ((len_bytes (length bytes) ++ bytes) ++ rest)) (drop 4 ((len_bytes (length bytes) ++ bytes) ++ rest)) ≡ rest
behind_back bytes rest small =
    let whole = append_assoc (len_bytes (length bytes)) bytes rest in
    let len : len_in ((len_bytes (length bytes) ++ bytes) ++ rest) ≡ length bytes = ap len_in whole
    ∙ len_back (length bytes) (bytes ++ rest) small in
    let behind : drop 4 ((len_bytes (length bytes) ++ bytes) ++ rest) ≡ bytes ++ rest =
    ap (drop 4) whole ∙ drop_at (len_bytes (length bytes)) (bytes ++ rest) 4 (len_bytes_four (length bytes)) in
    ap (λ n. drop n (drop 4 ((len_bytes (length bytes) ++ bytes) ++ rest))) len ∙ ap (drop (length bytes)) behind
    ∙ drop-append_seam bytes rest

pub small_by : (word : Word) → nat_lt (text_len word) 4294967296 ≡ true → text_len word < 4294967296
small_by word h = grind (arith, h)

word_back : (word : Word) (rest : List ℕ) → text_len word < 4294967296 → word_in (coded word ++ rest) ≡ word
word_back (Text bytes) rest small = ap Text (text_back bytes rest small)
word_back (Input I) rest small = refl
word_back (Input Ii) rest small = refl
word_back Output rest small = refl

rest_back : (word : Word) (rest : List ℕ) → text_len word < 4294967296 → behind_word (coded word ++ rest) ≡ rest
rest_back (Text bytes) rest small = behind_back bytes rest small
rest_back (Input I) rest small = refl
rest_back (Input Ii) rest small = refl
rest_back Output rest small = refl

pub words_back : (words : List Word) (input : List ℕ) → list_all (λ word. nat_lt (text_len word) 4294967296) words ≡ true
    → words_in (length words) (flat_map coded words ++ input) ≡ words
unfolding words_in
words_back [] input short = refl
words_back (w ∷ words) input short =
    let parts = and_parts (nat_lt (text_len w) 4294967296) (list_all (λ word. nat_lt (text_len word) 4294967296) words) short in
    let whole = append_assoc (coded w) (flat_map coded words) input in
    let small = small_by w parts.0 in
    let first : word_in ((coded w ++ flat_map coded words) ++ input) ≡ w = ap word_in whole
    ∙ word_back w (flat_map coded words ++ input) small in
    let rest : behind_word ((coded w ++ flat_map coded words) ++ input) ≡ flat_map coded words ++ input =
    ap behind_word whole ∙ rest_back w (flat_map coded words ++ input) small in
    ap (λ x. x ∷ words_in (length words) (behind_word ((coded w ++ flat_map coded words) ++ input))) first
    ∙ ap (λ xs. w ∷ words_in (length words) xs) rest ∙ ap (λ xs. w ∷ xs) (words_back words input parts.1)

pub input_back : (words : List Word) (input : List ℕ) → list_all (λ word. nat_lt (text_len word) 4294967296) words ≡ true
    → behind_words (length words) (flat_map coded words ++ input) ≡ input
unfolding behind_words
input_back [] input short = refl
input_back (w ∷ words) input short =
    let parts = and_parts (nat_lt (text_len w) 4294967296) (list_all (λ word. nat_lt (text_len word) 4294967296) words) short in
    let whole = append_assoc (coded w) (flat_map coded words) input in
    let small = small_by w parts.0 in
    let rest : behind_word ((coded w ++ flat_map coded words) ++ input) ≡ flat_map coded words ++ input =
    ap behind_word whole ∙ rest_back w (flat_map coded words ++ input) small in
    ap (behind_words (length words)) rest ∙ input_back words input parts.1

-- a text has at most five bytes more for each word than the size says
head_len : (word : Word) → length (coded word) ≤ text_len word + 5
head_len (Text bytes) = omega (arith, length-append (len_bytes (length bytes)) bytes, len_bytes_four (length bytes))
head_len (Input I) = omega arith
head_len (Input Ii) = omega arith
head_len Output = omega arith

pub coded_len : (words : List Word) → length (flat_map coded words) ≤ words_len words + 5 * length words
coded_len [] = omega arith
coded_len (w ∷ words) = omega (arith, head_len w, coded_len words, length-append (coded w) (flat_map coded words))

pub packed_len : (entry : Entry) → length (packed entry) ≤ size_of entry + 5 * length entry.words
packed_len entry =
    let ran = entry.ran in
    omega (
      arith,
      length-append (((ran.out ++ ran.err) ++ ran.object) ++ flat_map coded entry.words) entry.input,
      length-append ((ran.out ++ ran.err) ++ ran.object) (flat_map coded entry.words),
      length-append (ran.out ++ ran.err) ran.object,
      length-append ran.out ran.err,
      coded_len entry.words,
    )

-- ---- the entry of its text

abbrev entry_with : List Word → List ℕ → ℕ → List ℕ → List ℕ → List ℕ → Entry
entry_with words input status out err object =
    record { words = words; input = input; ran = record { status = status; out = out; err = err; object = object } }

same_entry : (words w : List Word) (input i : List ℕ) (status : ℕ) (out o err e object j : List ℕ) → w ≡ words → i ≡ input → o ≡ out
    → e ≡ err → j ≡ object → entry_with w i status o e j ≡ entry_with words input status out err object
same_entry words w input i status out o err e object j named source first second third =
    ap (λ x. entry_with x i status o e j) named ∙ ap (λ x. entry_with words x status o e j) source
    ∙ ap (λ x. entry_with words input status x e j) first ∙ ap (λ x. entry_with words input status out x j) second
    ∙ ap (λ x. entry_with words input status out err x) third

module _ (words : List Word) (input : List ℕ) (ran : Ran) (text : List ℕ)
    (short : list_all (λ word. nat_lt (text_len word) 4294967296) words ≡ true)
    (joined : text ≡ packed (record { words = words; input = input; ran = ran })) where
  in_order : text ≡ ran.out ++ (ran.err ++ (ran.object ++ (flat_map coded words ++ input)))
  in_order =
      joined ∙ append_assoc ((ran.out ++ ran.err) ++ ran.object) (flat_map coded words) input
      ∙ append_assoc (ran.out ++ ran.err) ran.object (flat_map coded words ++ input)
      ∙ append_assoc ran.out ran.err (ran.object ++ (flat_map coded words ++ input))

  behind_out : drop (length ran.out) text ≡ ran.err ++ (ran.object ++ (flat_map coded words ++ input))
  behind_out = ap (drop (length ran.out)) in_order
      ∙ drop-append_seam ran.out (ran.err ++ (ran.object ++ (flat_map coded words ++ input)))

  behind_err : drop (length ran.err) (drop (length ran.out) text) ≡ ran.object ++ (flat_map coded words ++ input)
  behind_err = ap (drop (length ran.err)) behind_out ∙ drop-append_seam ran.err (ran.object ++ (flat_map coded words ++ input))

  pub behind_object : behind_ran (length ran.out) (length ran.err) (length ran.object) text ≡ flat_map coded words ++ input
  behind_object = ap (drop (length ran.object)) behind_err ∙ drop-append_seam ran.object (flat_map coded words ++ input)

  pub words_are : words_in (length words) (behind_ran (length ran.out) (length ran.err) (length ran.object) text) ≡ words
  words_are = ap (words_in (length words)) behind_object ∙ words_back words input short

  pub input_is : behind_words (length words) (behind_ran (length ran.out) (length ran.err) (length ran.object) text) ≡ input
  input_is = ap (behind_words (length words)) behind_object ∙ input_back words input short

  pub out_is : take (length ran.out) text ≡ ran.out
  out_is = ap (take (length ran.out)) in_order ∙ take-append_seam ran.out (ran.err ++ (ran.object ++ (flat_map coded words ++ input)))

  pub err_is : take (length ran.err) (drop (length ran.out) text) ≡ ran.err
  err_is = ap (take (length ran.err)) behind_out ∙ take-append_seam ran.err (ran.object ++ (flat_map coded words ++ input))

  pub object_is : take (length ran.object) (drop (length ran.err) (drop (length ran.out) text)) ≡ ran.object
  object_is = ap (take (length ran.object)) behind_err ∙ take-append_seam ran.object (flat_map coded words ++ input)

  pub unpacked_is : unpacked (length words) ran.status (length ran.out) (length ran.err) (length ran.object) text
      ≡ record { words = words; input = input; ran = ran }
  unpacked_is =
      let behind = behind_ran (length ran.out) (length ran.err) (length ran.object) text in
      same_entry words (words_in (length words) behind) input (behind_words (length words) behind) ran.status ran.out
      (take (length ran.out) text) ran.err (take (length ran.err) (drop (length ran.out) text)) ran.object
      (take (length ran.object) (drop (length ran.err) (drop (length ran.out) text))) words_are input_is out_is err_is object_is
