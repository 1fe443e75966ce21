use Rattle.std.proofs.Common.{◌-◌, length, take, refl, ◌∙◌, ap, arith}
use Rattle.object_cache.specs.Shelves.{stored}
use Rattle.object_cache.proofs.Shelving.{last_size, last_within, rest_items, rest_shelf}
use Rattle.object_cache.proofs.shelf.Shelf.drop_last.Goals as goal

pub overflow_sub-self : goal.overflow_sub-self
overflow_sub-self c =
    let inside = c.self.inside in
    let last = c.in-Some.last in
    let left = last_size inside.kept.items c.pop.new.self.items inside.pieces.used (take
    (length inside.pieces.used - last.pieces) inside.pieces.used)
    inside.bytes 0 last c.self.invariant c.in-Some.ensures.items refl in
    omega (arith, left)

pub shorten-requires : goal.shorten-requires
shorten-requires c =
    let inside = c.self.inside in
    let last = c.in-Some.last in
    last_within inside.kept.items c.pop.new.self.items inside.pieces.used (take
    (length inside.pieces.used - last.pieces) inside.pieces.used)
    inside.bytes 0 last c.self.invariant c.in-Some.ensures.items refl

pub invariant_of-self : goal.invariant_of-self
invariant_of-self c =
    let inside = c.self.inside in
    let last = c.in-Some.last in
    let left = last_size inside.kept.items c.pop.new.self.items inside.pieces.used c.shorten.new.self.used
    inside.bytes 0 last c.self.invariant c.in-Some.ensures.items c.shorten.ensures.used in
    rest_shelf inside.kept.items c.pop.new.self.items inside.pieces.used c.shorten.new.self.used inside.bytes
    (inside.bytes - last.size) last
    c.self.invariant c.in-Some.ensures.items c.shorten.ensures.used (omega (arith, left))

pub returns-clause-stored : goal.returns-clause-stored
returns-clause-stored c = λ rest item is.
    let inside = c.self.inside in
    rest_items inside.kept.items c.pop.new.self.items inside.pieces.used c.shorten.new.self.used inside.bytes 0 c.in-Some.last
    c.self.invariant c.in-Some.ensures.items c.shorten.ensures.used rest item (ap stored c.self.view_is ∙ is)
