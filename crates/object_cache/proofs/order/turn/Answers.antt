use Rattle.object_cache.proofs.Ordering.{turned_is}
use Rattle.object_cache.proofs.order.turn.Goals as goal

pub returns : goal.returns
returns g c =
    turned_is c.args.from c.args.mid c.args.end c.args.items.now c.rotate_left.new.self c.requires.from c.requires.mid
    c.rotate_left.ensures.after
