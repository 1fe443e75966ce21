-- What is kept of an entry against words and an input.
use Rattle.std.proofs.Common.{◌≡◌, ℕ, List, ◌++◌, length, take, drop, refl, sym, ◌∙◌, ap, subst, arith}
use Rattle.std.specs.Prelude.{Bool, true, false, ◌&&◌, nat_lt}
use Rattle.std.specs.List.{flat_map, list_all, concat}
use Rattle.std.specs.Str.{bytes_eq}
use Rattle.std.proofs.lemmas.Bool.{and_parts, and_from}
use Rattle.std.proofs.lemmas.List.{take-append-drop, take_all}
use Rattle.std.proofs.Math.Seq.{take-append_seam, drop-append_seam}
use Rattle.farm_types.specs.declared.placed.Word.{Word}
use Rattle.farm_types.specs.declared.ran.Ran.{Ran}
use Rattle.object_cache.specs.declared.kept.Kept.{Kept}
use Rattle.object_cache.specs.Keys.{text_len, digest_of}
use Rattle.object_cache.specs.Entries.{Entry}
use Rattle.object_cache.specs.Entries.{is_of, size_of}
use Rattle.object_cache.specs.Packs.{coded, words_in, behind_words, behind_ran, packed, unpacked}
use Rattle.object_cache.specs.Shelves.{Stored, text_in, entry_in, IsGood, IsKept}
use Rattle.object_cache.proofs.Packs.{words_back, input_back, unpacked_is, behind_object}
use Rattle.object_cache.proofs.Comparing.{is_of-same, is_of-own, bytes_same, bytes_own, false_by}

same_test : (a b : Bool) → (a ≡ true → b ≡ true) → (b ≡ true → a ≡ true) → a ≡ b
same_test true b h k = sym (h refl)
same_test false true h k = k refl
same_test false false h k = refl

is_of_by : (words : List Word) (input : List ℕ) (entry : Entry) → entry.words ≡ words → entry.input ≡ input → is_of words input entry ≡ true
is_of_by words input entry named source =
    subst (λ w. is_of w input entry ≡ true) named (subst (λ i. is_of entry.words i entry ≡ true) source (is_of-own entry))

pub other_count : (words : List Word) (input : List ℕ) (item : Stored) → IsGood item → (item.kept.words ≡ length words → ⊥)
    → is_of words input (entry_in item) ≡ false
other_count words input item good differ =
    false_by (is_of words input (entry_in item))
    (λ h. differ (sym good.words_is ∙ ap length ((is_of-same words input (entry_in item) h).words_are)))

module _ (words : List Word) (input : List ℕ) (item : Stored) (good : IsGood item)
    (short : list_all (λ word. nat_lt (text_len word) 4294967296) words ≡ true)
    (count : item.kept.words ≡ length words) where
  abbrev behind : List ℕ
  behind = behind_ran item.kept.out item.kept.err item.kept.object item.text

  abbrev codes : List ℕ
  codes = flat_map coded words

  from_text : behind ≡ codes ++ input → is_of words input (entry_in item) ≡ true
  from_text is =
      let named : (entry_in item).words ≡ words =
      ap (λ n. words_in n behind) count ∙ ap (words_in (length words)) is ∙ words_back words input short in
      let source : (entry_in item).input ≡ input =
      ap (λ n. behind_words n behind) count ∙ ap (behind_words (length words)) is ∙ input_back words input short in
      is_of_by words input (entry_in item) named source

  to_text : is_of words input (entry_in item) ≡ true → behind ≡ codes ++ input
  to_text h =
      let same = is_of-same words input (entry_in item) h in
      good.rest_is ∙ ap (λ w. flat_map coded w ++ (entry_in item).input) same.words_are ∙ ap (λ i. codes ++ i) same.input_is

  pub text_is_of : (bytes_eq (take (length codes) behind) codes && bytes_eq (drop (length codes) behind) input) ≡ is_of words input
      (entry_in item)
  text_is_of =
      same_test (bytes_eq (take (length codes) behind) codes && bytes_eq (drop (length codes) behind) input) (is_of words input
      (entry_in item))
      (λ h.
      let parts = and_parts (bytes_eq (take (length codes) behind) codes) (bytes_eq (drop (length codes) behind) input) h in
      let first = bytes_same (take (length codes) behind) codes parts.0 in
      let rest = bytes_same (drop (length codes) behind) input parts.1 in
      from_text (sym (take-append-drop (length codes) behind) ∙ ap (λ xs. xs ++ drop (length codes) behind) first
      ∙ ap (λ xs. codes ++ xs) rest))
      (λ h.
      let text = to_text h in
      let first : take (length codes) behind ≡ codes = ap (take (length codes)) text ∙ take-append_seam codes input in
      let rest : drop (length codes) behind ≡ input = ap (drop (length codes)) text ∙ drop-append_seam codes input in
      and_from (bytes_eq (take (length codes) behind) codes) (bytes_eq (drop (length codes) behind) input)
      (subst (λ xs. bytes_eq xs codes ≡ true) (sym first) (bytes_own codes)) (subst (λ xs. bytes_eq xs input ≡ true) (sym rest)
      (bytes_own input)))

-- what is kept of a run
module _ (kept : Kept) (pieces : List (List ℕ)) (words : List Word) (input : List ℕ) (ran : Ran)
    (short : list_all (λ word. nat_lt (text_len word) 4294967296) words ≡ true)
    (all : length pieces ≡ kept.pieces)
    (joined : take kept.len (concat pieces) ≡ packed (record { words = words; input = input; ran = ran }))
    (digest_is : kept.digest ≡ digest_of words input)
    (size_is : kept.size ≡ size_of (record { words = words; input = input; ran = ran }))
    (status_is : kept.status ≡ ran.status) (words_is : kept.words ≡ length words)
    (out_is : kept.out ≡ length ran.out) (err_is : kept.err ≡ length ran.err) (object_is : kept.object ≡ length ran.object) where
  abbrev entry : Entry
  entry = record { words = words; input = input; ran = ran }

  text_is : text_in kept pieces ≡ packed entry
  text_is = ap (λ ps. take kept.len (concat ps)) (take_all kept.pieces pieces (omega (arith, all))) ∙ joined

  entry_is : unpacked kept.words kept.status kept.out kept.err kept.object (text_in kept pieces) ≡ entry
  entry_is =
      ap (λ n. unpacked n kept.status kept.out kept.err kept.object (text_in kept pieces)) words_is
      ∙ ap (λ n. unpacked (length words) n kept.out kept.err kept.object (text_in kept pieces)) status_is
      ∙ ap (λ n. unpacked (length words) ran.status n kept.err kept.object (text_in kept pieces)) out_is
      ∙ ap (λ n. unpacked (length words) ran.status (length ran.out) n kept.object (text_in kept pieces)) err_is
      ∙ ap (λ n. unpacked (length words) ran.status (length ran.out) (length ran.err) n (text_in kept pieces)) object_is
      ∙ unpacked_is words input ran (text_in kept pieces) short text_is

  rest_is : behind_ran kept.out kept.err kept.object (text_in kept pieces) ≡ flat_map coded words ++ input
  rest_is =
      ap (λ n. behind_ran n kept.err kept.object (text_in kept pieces)) out_is
      ∙ ap (λ n. behind_ran (length ran.out) n kept.object (text_in kept pieces)) err_is
      ∙ ap (λ n. behind_ran (length ran.out) (length ran.err) n (text_in kept pieces)) object_is
      ∙ behind_object words input ran (text_in kept pieces) short text_is

  pub kept_is : IsKept kept pieces entry
  kept_is = record {
    all = all;
    entry_is = entry_is;
    good = record {
      named = digest_is ∙ ap (λ e. digest_of e.words e.input) (sym entry_is);
      measured = size_is ∙ ap size_of (sym entry_is);
      out_is = ap (λ e. length e.ran.out) entry_is ∙ sym out_is;
      err_is = ap (λ e. length e.ran.err) entry_is ∙ sym err_is;
      object_is = ap (λ e. length e.ran.object) entry_is ∙ sym object_is;
      words_is = ap (λ e. length e.words) entry_is ∙ sym words_is;
      rest_is = rest_is ∙ ap (λ e. flat_map coded e.words ++ e.input) (sym entry_is);
    };
  }
