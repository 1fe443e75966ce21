use Rattle.std.proofs.Common.{◌≡◌, ◌++◌, drop, take}
use Rattle.object_cache.proofs.cursor.Cursor.read.Given as goal

abbrev pub invariant-reading : goal.invariant-reading
invariant-reading l = record {
  made : l.made.items ++ take l.left l.self ≡ take l.len l.fn.self;
  left : drop l.left l.self ≡ drop l.len l.fn.self;
}

abbrev pub decreases-reading : goal.decreases-reading
decreases-reading l = l.left
