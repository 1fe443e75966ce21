use Rattle.std.proofs.Common.{◌≡◌, length}
use Rattle.object_cache.specs.Keys.{words_eq}
use Rattle.shared_cache.proofs.comparing.same_words.Given as goal

abbrev pub invariant-comparing : goal.invariant-comparing
invariant-comparing l = words_eq l.rest l.others ≡ words_eq l.fn.one l.fn.other

abbrev pub decreases-comparing : goal.decreases-comparing
decreases-comparing l = length l.rest
