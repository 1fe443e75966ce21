use Rattle.std.proofs.Common.{◌≡◌, ◌++◌, ◌∷◌, [], refl, sym, ◌∙◌, ap, subst, arith, map, reverse}
use Rattle.std.specs.Prelude.{All}
use Rattle.std.proofs.lemmas.Grind.{common_steps}
use Rattle.std.proofs.lemmas.List.Elements.{All-push}
use Rattle.edge_traits.specs.Told.{SameRelation3}
use Rattle.shared_cache.specs.Shared.{no_counts}
use Rattle.daemon_program.specs.Sharing.{bare_kit, counts_of}
use Rattle.daemon_program.proofs.Beside.{one_moved, all_moved}
use Rattle.daemon_program.proofs.SharesBeside.{all_popped, all_reversed}
use Rattle.daemon_program.proofs.sharing.share_in.Goals as goal

pub returns-clause-kits : goal.returns-clause-kits
returns-clause-kits g c =
    all_moved c.moving.doors.items c.args.doors.now.items (map bare_kit c.moving.shared.items) c.moving.invariant.kits

pub new-station-requires-clause-same : goal.new-station-requires-clause-same
new-station-requires-clause-same g c =
    (all_popped (λ kit. SameRelation3 (g.S.Station.ran kit.station) g.P.Sharing.ran) c.pop.new.self.items _
    (subst (All (λ kit. SameRelation3 (g.S.Station.ran kit.station) g.P.Sharing.ran)) c.in-Some.ensures.items c.moving.invariant.alike)).1

pub moving-preserved : goal.moving-preserved
moving-preserved g c =
    let before = c.moving.invariant in
    let pushed : c.push_reserved.new.self.items ≡ c.moving.shared.items ++ record {
      door = c.in-Some.kit.door;
      station = record { station = c.in-Some.kit.station; counts = no_counts };
    } ∷ [] = c.push_reserved.ensures.items ∙ ap (λ s. c.moving.shared.items ++ record { door = c.in-Some.kit.door; station = s } ∷ [])
    c.new-station.ensures in
    record {
      kits = one_moved bare_kit c.moving.doors.items c.pop.new.self.items _ c.moving.shared.items c.push_reserved.new.self.items _
          c.in-Some.ensures.items pushed before.kits;
      alike = (all_popped (λ kit. SameRelation3 (g.S.Station.ran kit.station) g.P.Sharing.ran) c.pop.new.self.items _
          (subst (All (λ kit. SameRelation3 (g.S.Station.ran kit.station) g.P.Sharing.ran)) c.in-Some.ensures.items before.alike)).0;
      counts = subst (All (λ kit. counts_of kit ≡ no_counts)) (sym pushed)
          (All-push (λ kit. counts_of kit ≡ no_counts) c.moving.shared.items _ before.counts refl);
      many = grind (arith, common_steps);
      left = grind (arith, common_steps);
      space = grind (arith, common_steps);
      back = grind (arith, common_steps);
    }
