use Rattle.std.proofs.Common.{◌≡◌, ◌++◌, ◌∷◌, [], arith}
use Rattle.std.proofs.lemmas.Grind.{common_steps}
use Rattle.daemon_program.specs.Sharing.{bare_kit, counts_of}
use Rattle.daemon_program.proofs.Beside.{one_back}
use Rattle.daemon_program.proofs.sharing.share_out.Goals as goal

pub moving-preserved : goal.moving-preserved
moving-preserved g c =
    let before = c.moving.invariant in
    let moved : c.push_reserved-in-Some.new.self.items ≡ c.moving.doors.items ++ bare_kit c.in-Some.kit ∷ [] =
    grind (arith, common_steps, c.apart-station.ensures.station, c.push_reserved-in-Some.ensures.items) in
    let told : c.push_reserved.new.self.items ≡ c.moving.counts.items ++ counts_of c.in-Some.kit ∷ [] =
    grind (arith, common_steps, c.apart-station.ensures.counts, c.push_reserved.ensures.items) in
    record {
      kits = one_back bare_kit c.moving.doors.items c.push_reserved-in-Some.new.self.items _ c.moving.shared.items c.pop.new.self.items
          c.in-Some.kit moved c.in-Some.ensures.items before.kits;
      counts = one_back counts_of c.moving.counts.items c.push_reserved.new.self.items _ c.moving.shared.items
          c.pop.new.self.items c.in-Some.kit told c.in-Some.ensures.items before.counts;
      room = grind (arith, common_steps);
      space = grind (arith, common_steps);
    }
