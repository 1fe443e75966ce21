use Rattle.std.proofs.Common.{◌≡◌, ◌≤◌, ◌++◌, ◌∷◌, [], arith}
use Rattle.object_cache.specs.Entries.{sizes}
use Rattle.std.proofs.lemmas.Grind.{common_steps}
use Rattle.daemon_program.specs.Books.{plain_kit, book_of, stats_of}
use Rattle.daemon_program.proofs.Beside.{one_back, one_more_within}
use Rattle.daemon_program.proofs.books.move_out.Goals as goal

pub moving-preserved : goal.moving-preserved
moving-preserved g c =
    let before = c.moving.invariant in
    let moved : c.push_reserved-in-Some.new.self.items ≡ c.moving.doors.items ++ plain_kit c.in-Some.kit ∷ [] =
    grind (arith, common_steps, c.station.view_is, c.push_reserved-in-Some.ensures.items) in
    let told : c.push_reserved.new.self.items ≡ c.moving.stats.items ++ stats_of (book_of c.in-Some.kit) ∷ [] =
    grind (arith, common_steps, c.station.view_is, c.push_reserved.ensures.items, c.stats.ensures.stats) in
    let small : sizes (book_of c.in-Some.kit).entries ≤ (book_of c.in-Some.kit).bound =
    grind (arith, common_steps, c.station.view_is, c.stats.ensures.stats, c.stats.ensures.within) in
    record {
      kits = one_back plain_kit c.moving.doors.items c.push_reserved-in-Some.new.self.items _ c.moving.cached.items c.pop.new.self.items
          c.in-Some.kit moved c.in-Some.ensures.items before.kits;
      stats = one_back (λ kit. stats_of (book_of kit)) c.moving.stats.items c.push_reserved.new.self.items _ c.moving.cached.items
          c.pop.new.self.items c.in-Some.kit told c.in-Some.ensures.items before.stats;
      within = λ all. before.within
          (one_more_within (λ kit. sizes (book_of kit).entries ≤ (book_of kit).bound) c.pop.new.self.items c.moving.cached.items c.in-Some.kit
          c.in-Some.ensures.items all small);
      room = grind (arith, common_steps);
      space = grind (arith, common_steps);
    }
