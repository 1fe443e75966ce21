use Rattle.std.proofs.Common.{◌≡◌, ◌++◌, length, take, drop, sym, ap, ◌∙◌, subst, List}
use Rattle.std.proofs.lemmas.List.{length-map}
use Rattle.farm_monitor.specs.declared.ends.Watcher.{Watcher}
use Rattle.farm_monitor.specs.Boards.{board_watched}
use Rattle.progress_lines.specs.Counts.{known}
use Rattle.job_driver.specs.Watching.{LinesTell}
use Rattle.job_driver.proofs.Watching.{all-written, lines-tell}
use Rattle.job_driver.proofs.watch.Watch.print.Goals as goal

pub returns-clause-printed : goal.returns-clause-printed
returns-clause-printed g c =
    let shows = g.E.Sink.shows in
    let jobs = c.args.jobs in
    let lines = c.args.self.now.lines in
    let before = shows c.args.err.now in
    let after = shows c.watch.new.err in
    let old = c.args.self.now.watchers in
    let new = c.watch.new.watchers in
    let tells = c.watch.ensures.tells in
    let value = c.as_mut_slice.ensures.value in
    let len : length new ≡ length old.items =
    sym (length-map new board_watched) ∙ ap length c.watch.ensures.same ∙ length-map _ board_watched ∙ ap length value in
    let is : take old.len (new ++ drop (length new) old.items) ≡ new =
    ap (λ n. take n (new ++ drop (length new) old.items)) (search) ∙ all-written old.items new len in
    subst (λ (ws : List Watcher). LinesTell jobs (length old.items) lines (known old.items) (known ws) before after c.watch.result) (sym is)
    (subst (λ (ws : List Watcher). LinesTell jobs (length ws) lines (known ws) (known new) before after c.watch.result) value
    (lines-tell jobs _ lines _ (known _) (known new) before after c.watch.result tells.printed tells.looks))
