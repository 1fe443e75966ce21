use Rattle.std.proofs.Common.{◌≡◌, drop}
use Rattle.object_cache.proofs.cursor.Cursor.skip.Given as goal

abbrev pub invariant-skipping : goal.invariant-skipping
invariant-skipping l = drop l.left l.self ≡ drop l.len l.fn.self

abbrev pub decreases-skipping : goal.decreases-skipping
decreases-skipping l = l.left
