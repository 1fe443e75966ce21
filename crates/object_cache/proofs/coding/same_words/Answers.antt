use Rattle.std.proofs.Common.{◌≡◌, ◌-◌, length, take, drop, sym, ◌∙◌, ap, subst}
use Rattle.std.specs.Prelude.{true, ◌&&◌, nat_lt}
use Rattle.std.specs.List.{flat_map, list_all}
use Rattle.std.specs.Str.{bytes_eq}
use Rattle.std.proofs.lemmas.Bool.{and_parts}
use Rattle.object_cache.specs.Keys.{text_len}
use Rattle.object_cache.specs.Packs.{coded}
use Rattle.object_cache.proofs.Reading.{both_match, both_left, first_rest}
use Rattle.object_cache.proofs.coding.same_words.Goals as goal

pub returns-then-not-same_word-clause-same : goal.returns-then-not-same_word-clause-same
returns-then-not-same_word-clause-same c =
    let rest = c.comparing.rest.now in
    let word = c.word-item.result in
    let text = c.comparing.cursor in
    let codes = flat_map coded (take (length rest - 1) (drop 1 rest)) in
    let split = ap (flat_map coded) (first_rest rest word c.in-len1-up.len_at_least c.word-item.is) in
    ap (λ b. b && bytes_eq (take (length codes) (drop (length (coded word)) text)) codes) (sym c.if-not-same_word.true
    ∙ c.same_word.ensures.same)
    ∙ sym (both_match (coded word) codes text)
    ∙ ap (λ bs. bytes_eq (take (length bs) text) bs) (sym split)
    ∙ c.comparing.invariant.same

pub comparing-preserved : goal.comparing-preserved
comparing-preserved c =
    let rest = c.comparing.rest.now in
    let word = c.word-item.result in
    let text = c.comparing.cursor in
    let after = take (length rest - 1) (drop 1 rest) in
    let codes = flat_map coded after in
    let parts = first_rest rest word c.in-len1-up.len_at_least c.word-item.is in
    let split = ap (flat_map coded) parts in
    let left = c.same_word.ensures.rest c.if-not-same_word.false in
    let both = subst (λ ws. list_all (λ w. nat_lt (text_len w) 4294967296) ws ≡ true) parts c.comparing.invariant.short in record {
      short = (and_parts (nat_lt (text_len word) 4294967296) (list_all (λ w. nat_lt (text_len w) 4294967296) after) both).1;
      same =
          ap (λ xs. bytes_eq (take (length codes) xs) codes) left
          ∙ ap (λ b. b && bytes_eq (take (length codes) (drop (length (coded word)) text)) codes) (sym c.if-not-same_word.false
          ∙ c.same_word.ensures.same)
          ∙ sym (both_match (coded word) codes text)
          ∙ ap (λ bs. bytes_eq (take (length bs) text) bs) (sym split)
          ∙ c.comparing.invariant.same;
      left =
          ap (drop (length codes)) left ∙ sym (both_left (coded word) codes text) ∙ ap (λ bs. drop (length bs) text) (sym split)
          ∙ c.comparing.invariant.left;
    }
