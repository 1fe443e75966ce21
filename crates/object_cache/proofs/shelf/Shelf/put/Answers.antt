use Rattle.std.proofs.Common.{length, ap, arith}
use Rattle.std.proofs.lemmas.List.{length-drop, length-take}
use Rattle.object_cache.proofs.shelf.Shelf.put.Goals as goal

pub overflow_add-first : goal.overflow_add-first
overflow_add-first c =
    let old = c.self.inside.pieces.used in
    let now = c.keep_text-kept.new.pieces.used in
    let front = ap length c.keep_text-kept.ensures.front in
    omega (
      arith,
      c.count-first.ensures,
      c.keep_text-kept.ensures.kept.all,
      length-drop (length old) now,
      front,
      length-take (length old) now,
      c.keep_text-kept.ensures.few,
    )
