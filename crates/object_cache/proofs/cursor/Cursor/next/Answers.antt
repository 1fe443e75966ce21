use Rattle.std.proofs.Common.{◌≡◌, ◌≤◌, ◌++◌, length, drop, sym, ◌∙◌, ap, arith}
use Rattle.std.specs.List.{concat}
use Rattle.std.proofs.lemmas.List.{take-append-drop}
use Rattle.object_cache.specs.Pieces.{in_order}
use Rattle.object_cache.proofs.Reading.{next_piece}
use Rattle.object_cache.proofs.cursor.Cursor.next.Goals as goal

pub returns-clause-whole : goal.returns-clause-whole
returns-clause-whole c =
    let inside = c.self.inside in
    let first = c.first_piece.result.0.now in
    let piece = c.split_at.result.0.now in
    let rest = concat (in_order inside.block.now c.first_piece.result.1.now) in
    let parts : first ≡ piece ++ c.split_at.result.1.now =
    sym (take-append-drop c.min-2.result first) ∙ ap (λ xs. xs ++ drop c.min-2.result first) (sym c.split_at.ensures.front)
    ∙ ap (λ xs. piece ++ xs) (sym c.split_at.ensures.back) in
    let within : length piece ≤ inside.left = omega (arith, c.split_at.ensures.front_len, c.min-2.ensures) in
    sym c.self.view_is
    ∙ next_piece inside.left first piece c.split_at.result.1.now rest (inside.front.now ++ concat
    (in_order inside.block.now inside.rest.now))
    parts c.first_piece.ensures.whole within
