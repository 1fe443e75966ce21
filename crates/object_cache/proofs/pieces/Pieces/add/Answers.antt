use Rattle.std.proofs.Common.{length, ap, arith}
use Rattle.std.proofs.lemmas.List.{length-append}
use Rattle.object_cache.proofs.pieces.Pieces.add.Goals as goal

pub add_front-rest-requires-clause-room : goal.add_front-rest-requires-clause-room
add_front-rest-requires-clause-room c =
    let all = ap length c.adding.invariant.text in
    let a = length-append c.adding.self.text c.adding.rest.now in
    let b = length-append c.args.self.now.text c.args.bytes.now in
    let used = ap length c.adding.invariant.used in
    omega (arith, all, a, b, used, c.adding.invariant.room, c.requires)
