use Rattle.std.proofs.Common.{◌≡◌, [], length, replicate, sym, ap, ◌∙◌}
use Rattle.std.proofs.lemmas.List.{length-map}
use Rattle.farm_monitor.specs.Boards.{board_watched}
use Rattle.job_driver.specs.Watching.{board_marked}
use Rattle.job_driver.proofs.watched.boards_for.Goals as goal

pub returns-in-Ok-with_capacity-clause-unread : goal.returns-in-Ok-with_capacity-clause-unread
returns-in-Ok-with_capacity-clause-unread g c =
    let made = c.make_boards.new in
    let e = c.in-Ok.ensures in
    let many : length made.watchers.items ≡ c.args.count =
    sym (length-map made.watchers.items board_watched) ∙ ap length (sym e.boards) ∙ length-map made.markers.items board_marked ∙ e.all in
    e.unread ∙ ap (λ n. replicate n []) many
