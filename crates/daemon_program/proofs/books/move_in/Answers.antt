use Rattle.std.proofs.Common.{◌≡◌, sym, subst, arith, map}
use Rattle.std.specs.Prelude.{All}
use Rattle.std.proofs.lemmas.Grind.{common_steps}
use Rattle.std.proofs.lemmas.List.Elements.{All-push}
use Rattle.object_cache.specs.Books.{new_book}
use Rattle.daemon_program.specs.Books.{plain_kit, book_of}
use Rattle.daemon_program.proofs.Beside.{one_moved, all_moved}
use Rattle.daemon_program.proofs.books.move_in.Goals as goal

pub returns-clause-kits : goal.returns-clause-kits
returns-clause-kits g c =
    all_moved c.moving.doors.items c.args.doors.now.items (map plain_kit c.moving.cached.items) c.moving.invariant.kits

pub moving-preserved : goal.moving-preserved
moving-preserved g c =
    let before = c.moving.invariant in
    record {
      kits = one_moved plain_kit c.moving.doors.items c.pop.new.self.items _ c.moving.cached.items c.push_reserved.new.self.items _
          c.in-Some.ensures.items c.push_reserved.ensures.items before.kits;
      books = subst (All (λ kit. book_of kit ≡ new_book c.args.bound)) (sym c.push_reserved.ensures.items)
          (All-push (λ kit. book_of kit ≡ new_book c.args.bound) c.moving.cached.items _ before.books c.new-book.ensures);
      many = grind (arith, common_steps);
      left = grind (arith, common_steps);
      space = grind (arith, common_steps);
      back = grind (arith, common_steps);
    }
