use Rattle.std.proofs.Common.{map, string_bytes, Global, subst}
use Rattle.farmd.proofs.Doors.{few_doors}
use Rattle.farmd.proofs.doors_of.Goals as goal

pub doors_at-requires : goal.doors_at-requires
doors_at-requires g = few_doors (map (string_bytes {Z = Global}) g.args.words.now) g.door_place-place.result
    g.door_place-place.ensures.some
