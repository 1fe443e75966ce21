use Rattle.std.proofs.Common.{◌≡◌, ◌+◌, ◌-◌, ◌++◌, length, take, drop, ◌∙◌, ap, arith}
use Rattle.std.specs.Prelude.{slice_range}
use Rattle.std.proofs.lemmas.List.{take_at, length-take-le, length-drop}
use Rattle.object_cache.proofs.Ordering.{moved_is}
use Rattle.object_cache.proofs.order.turn_numbers.Goals as goal

pub returns : goal.returns
returns c =
    let from = c.args.from in
    let mid = c.args.mid in
    let end = c.args.end in
    let count = end - mid in
    let xs = c.args.numbers.now in
    let ys = c.copy_within.new.self in
    let moved = c.copy_from_slice-2.new.self in
    let first = c.copy_from_slice.new.self in
    let some : from + count - from ≡ count = omega arith in
    let first_is : first ≡ slice_range xs mid end = c.copy_from_slice.ensures.after in
    let len : length first ≡ count =
    ap length first_is ∙ length-take-le count (drop mid xs) (omega (arith, length-drop mid xs, c.requires.end)) in
    let copied : moved ≡ slice_range xs mid end =
    c.copy_from_slice-2.ensures.after ∙ take_at first _ count len ∙ first_is in
    ap (λ n. take from ys ++ (moved ++ drop n (drop from ys))) some
    ∙ moved_is from mid end xs ys moved c.requires.from c.requires.mid c.requires.end c.copy_within.ensures.after copied
