use Rattle.std.proofs.Common.{◌≡◌, length, take, drop, sym, ◌∙◌, ap, arith}
use Rattle.std.specs.Prelude.{◌&&◌, true, nat_lt}
use Rattle.std.specs.List.{flat_map, list_all}
use Rattle.std.specs.Str.{bytes_eq}
use Rattle.std.proofs.lemmas.Bool.{and_parts}
use Rattle.object_cache.specs.Keys.{text_len}
use Rattle.object_cache.specs.Packs.{coded, behind_ran}
use Rattle.object_cache.specs.Shelves.{Stored}
use Rattle.object_cache.proofs.Matching.{text_is_of}
use Rattle.object_cache.proofs.entry.same_text.Goals as goal

pub returns-then-same_words : goal.returns-then-same_words
returns-then-same_words c =
    let kept = c.args.kept.now in
    let words = c.args.words.now in
    let input = c.args.input.now in
    let codes = flat_map coded words in
    let behind = behind_ran kept.out kept.err kept.object c.args.cursor.now in
    let item : Stored = record { kept = kept; text = c.args.cursor.now } in
    let short = (and_parts (list_all (λ word. nat_lt (text_len word) 4294967296) words) (nat_lt
    (length input) 4294967296) c.requires.nameable).0 in
    let skipped : c.skip-3.new.self ≡ behind =
    c.skip-3.ensures ∙ ap (drop kept.object) (c.skip-2.ensures ∙ ap (drop kept.err) c.skip.ensures) in
    let front : true ≡ bytes_eq (take (length codes) behind) codes =
    sym c.if-same_words.true ∙ c.same_words.ensures.same ∙ ap (λ xs. bytes_eq (take (length codes) xs) codes) skipped in
    c.is_all.ensures
    ∙ ap (λ xs. bytes_eq xs input) (c.same_words.ensures.rest c.if-same_words.true ∙ ap (drop (length codes)) skipped)
    ∙ ap (λ b. b && bytes_eq (drop (length codes) behind) input) front
    ∙ text_is_of words input item c.requires.good short (omega (arith, c.if-kept-words.false))

pub returns-else-same_words : goal.returns-else-same_words
returns-else-same_words c =
    let kept = c.args.kept.now in
    let words = c.args.words.now in
    let input = c.args.input.now in
    let codes = flat_map coded words in
    let behind = behind_ran kept.out kept.err kept.object c.args.cursor.now in
    let item : Stored = record { kept = kept; text = c.args.cursor.now } in
    let short = (and_parts (list_all (λ word. nat_lt (text_len word) 4294967296) words) (nat_lt
    (length input) 4294967296) c.requires.nameable).0 in
    let skipped : c.skip-3.new.self ≡ behind =
    c.skip-3.ensures ∙ ap (drop kept.object) (c.skip-2.ensures ∙ ap (drop kept.err) c.skip.ensures) in
    c.same_words.ensures.same ∙ ap (λ xs. bytes_eq (take (length codes) xs) codes) skipped
    ∙ (let none = sym c.if-same_words.false ∙ c.same_words.ensures.same ∙ ap (λ xs. bytes_eq (take (length codes) xs) codes) skipped in
    sym none ∙ ap (λ b. b && bytes_eq (drop (length codes) behind) input) none)
    ∙ text_is_of words input item c.requires.good short (omega (arith, c.if-kept-words.false))
