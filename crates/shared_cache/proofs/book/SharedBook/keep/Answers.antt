use Rattle.std.proofs.Common.{arith, sym, ◌∙◌}
use Rattle.std.proofs.lemmas.Grind.{common_steps}
use Rattle.shared_cache.proofs.Keeping.{put_keeps}
use Rattle.shared_cache.proofs.book.SharedBook.keep.Goals as goal

pub returns-else-not-put : goal.returns-else-not-put
returns-else-not-put g c =
    put_keeps c.put.result c.args.digest c.args.entry c.self.inside.order c.put.new.self c.self.inside.unkept c.args.self.now
    (grind (arith, common_steps, c.if-not-put.false)) c.put.ensures c.self.view_is
