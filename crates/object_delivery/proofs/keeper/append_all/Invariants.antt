use Rattle.std.proofs.Common.{length}
use Rattle.object_delivery.proofs.Filling.{Filling}
use Rattle.object_delivery.proofs.keeper.append_all.Given as goal

abbrev pub invariant-adding : goal.invariant-adding
invariant-adding g l = Filling (g.F.Files.shows l.fn.files) (g.F.Files.shows l.files) l.name l.piece l.rest

abbrev pub decreases-adding : goal.decreases-adding
decreases-adding g l = length l.rest
