use Rattle.std.proofs.Common.{◌≡◌, ◌++◌, [], ◌∷◌, List, length, map, replicate, ap, subst, sym, ◌∙◌, arith}
use Rattle.std.specs.Prelude.{All}
use Rattle.std.proofs.lemmas.List.{length-append, map-append}
use Rattle.farm_monitor.specs.declared.ends.Watcher.{Watcher}
use Rattle.farm_monitor.specs.Boards.{board_of, board_watched, shown_rows}
use Rattle.progress_lines.specs.Counts.{known}
use Rattle.logbook.specs.Pages.{Book}
use Rattle.job_driver.specs.Watching.{board_marked, IsFreshMarker}
use Rattle.job_driver.proofs.Watching.{fresh_more, unread_more}
use Rattle.job_driver.proofs.boards.make_boards.Goals as goal

pub making-preserved : goal.making-preserved
making-preserved g c =
    let i = c.making.invariant in
    let m = c.push_reserved.ensures in
    let w = c.push_reserved-in-making.ensures in
    let marker = c.new.result in
    let watcher = c.in_ok-shower.watcher in
    let shower = c.new.ensures.shower in
    let same : board_marked marker ≡ board_watched watcher = ap board_of shower ∙ sym c.in_ok-shower.ensures.board in
    record {
      boards = ap (map board_marked) m.items ∙ map-append board_marked c.making.markers.items (marker ∷ [])
          ∙ ap (λ (bs : List Book). bs ++ board_marked marker ∷ []) i.boards
          ∙ ap (λ (b : Book). map board_watched c.making.watchers.items ++ b ∷ []) same
          ∙ sym (map-append board_watched c.making.watchers.items (watcher ∷ [])) ∙ sym (ap (map board_watched) w.items);
      fresh = subst (All IsFreshMarker) (sym m.items)
          (fresh_more c.making.markers.items marker i.fresh (c.new.ensures.all, ap shown_rows shower ∙ c.in_ok-shower.ensures.none));
      unread = subst (λ (ws : List Watcher). known ws ≡ replicate (length ws) []) (sym w.items)
          (unread_more c.making.watchers.items watcher i.unread c.in_ok-shower.ensures.unread);
      few =
          let t = c.making-test.true in
          let a = c.len.ensures in
          let k = ap length m.items ∙ length-append c.making.markers.items (marker ∷ []) in
          let o = c.making.markers.ok in
          omega (arith, t, a, k, o);
      same =
          let k = ap length m.items ∙ length-append c.making.markers.items (marker ∷ []) in
          let l = ap length w.items ∙ length-append c.making.watchers.items (watcher ∷ []) in
          let e = i.same in
          omega (arith, k, l, e);
      markers_room = let r = i.markers_room in let e = m.capacity in omega (arith, r, e);
      watchers_room = let r = i.watchers_room in let e = w.capacity in omega (arith, r, e);
    }
