use Rattle.std.proofs.Common.{◌++◌, ◌-◌, length, take, drop, sym, ◌∙◌, ap, append_assoc}
use Rattle.object_cache.proofs.Reading.{take_piece, drop_piece}
use Rattle.object_cache.proofs.cursor.Cursor.read.Goals as goal

pub reading-preserved : goal.reading-preserved
reading-preserved c =
    let piece = c.next-piece.result.now in
    let next = c.next-piece.new.self in
    let left = c.reading.left in record {
      made =
          ap (λ xs. xs ++ take (left - length piece) next) c.in_ok-extend_from_slice.ensures.items
          ∙ append_assoc c.reading.made.items piece (take (left - length piece) next)
          ∙ ap (λ xs. c.reading.made.items ++ xs)
          (sym (take_piece piece next left c.next-piece.ensures.most) ∙ ap (take left) (sym c.next-piece.ensures.whole))
          ∙ c.reading.invariant.made;
      left =
          sym (drop_piece piece next left c.next-piece.ensures.most)
          ∙ ap (drop left) (sym c.next-piece.ensures.whole)
          ∙ c.reading.invariant.left;
    }
