use Rattle.std.proofs.Common.{length, take, drop, sym, ◌∙◌, ap}
use Rattle.std.specs.Prelude.{◌&&◌}
use Rattle.std.specs.Str.{bytes_eq}
use Rattle.object_cache.specs.Packs.{head_of, bytes_of}
use Rattle.object_cache.proofs.Reading.{both_match}
use Rattle.object_cache.proofs.coding.same_word.Goals as goal

pub returns-then-same_head-clause-same : goal.returns-then-same_head-clause-same
returns-then-same_head-clause-same c =
    let head = head_of c.args.word.now in
    let bytes = bytes_of c.args.word.now in
    let text = c.args.cursor.now in
    c.matches.ensures.same
    ∙ ap (λ bs. bytes_eq (take (length bs) c.same_head.new.cursor) bs) c.bytes_of.ensures
    ∙ ap (λ xs. bytes_eq (take (length bytes) xs) bytes) (c.same_head.ensures.rest c.if-same_head.true)
    ∙ ap (λ b. b && bytes_eq (take (length bytes) (drop (length head) text)) bytes) (sym c.if-same_head.true ∙ c.same_head.ensures.same)
    ∙ sym (both_match head bytes text)

pub returns-else-same_head-clause-same : goal.returns-else-same_head-clause-same
returns-else-same_head-clause-same c =
    let head = head_of c.args.word.now in
    let bytes = bytes_of c.args.word.now in
    let text = c.args.cursor.now in
    c.if-same_head.false
    ∙ ap (λ b. b && bytes_eq (take (length bytes) (drop (length head) text)) bytes) (sym c.if-same_head.false ∙ c.same_head.ensures.same)
    ∙ sym (both_match head bytes text)
