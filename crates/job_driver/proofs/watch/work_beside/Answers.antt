use Rattle.std.proofs.Common.{◌≡◌, ℕ, List, length, get_or, map, sym, ap, ◌∙◌, subst, arith}
use Rattle.std.proofs.lemmas.List.{length-map}
use Rattle.farm_monitor.specs.Boards.{board_watched}
use Rattle.progress_lines.specs.Counts.{known}
use Rattle.job_driver.specs.declared.beside.Marked.{Marked}
use Rattle.job_driver.specs.declared.marker.Marker.{Marker}
use Rattle.job_driver.specs.Workers.{reserve_of, reports_on, IsReady, HasWorked}
use Rattle.farm_machine.specs.Devices.{devices}
use Rattle.farm_machine.specs.Usable.{job_at}
use Rattle.job_driver.specs.Watching.{worker_of, marker_of, board_marked, HasMarkedOff, LinesTell}
use Rattle.job_driver.proofs.Watching.{all-of-map, both-of-map, get-of-map, same-map, map-twice}
use Rattle.job_driver.proofs.watch.work_beside.Goals as goal

pub work_and_watch-end-requires-clause-ready : goal.work_and_watch-end-requires-clause-ready
work_and_watch-end-requires-clause-ready g c κs within =
    let d = devices g.D.Dialer.shows g.S.Station.shows g.K.Keeper.shows g.C.Clock.shows g.D.Dialer.may_give g.S.Station.ran in
    all-of-map worker_of
    (λ worker. IsReady d c.args.cell.now (length c.args.plan.jobs.now) worker) c.pair.new.pairs.items c.args.workers.now.items
    c.pair.ensures.workers.1 c.requires.ready.each

pub returns-clause-each : goal.returns-clause-each
returns-clause-each g c number d below =
    let dev = devices g.D.Dialer.shows g.S.Station.shows g.K.Keeper.shows g.C.Clock.shows g.D.Dialer.may_give g.S.Station.ran in
    both-of-map worker_of (HasWorked dev c.args.cell.now (job_at c.args.plan.jobs.now c.args.plan.config.now) c.args.plan.config.now.period)
    c.pair.new.pairs.items c.work_and_watch-end.new.pairs.items c.args.workers.now.items c.unpair.new.workers.items
    c.pair.ensures.workers.1 c.unpair.ensures.workers c.work_and_watch-end.ensures.len.1 number d below
    (λ x less. c.work_and_watch-end.ensures.each number x less)

pub returns-clause-back : goal.returns-clause-back
returns-clause-back g c =
    let old = c.pair.new.pairs.items in
    let new = c.work_and_watch-end.new.pairs.items in record {
      boards = ap (map board_marked) c.unpair.ensures.markers ∙ map-twice board_marked marker_of new
          ∙ same-map (λ m. board_marked (marker_of m)) old new c.work_and_watch-end.ensures.len.1
          (λ k x below. (c.work_and_watch-end.ensures.marked k x below).same_board)
          ∙ sym (map-twice board_marked marker_of old) ∙ ap (map board_marked) c.pair.ensures.markers.1
          ∙ c.requires.fits.boards ∙ sym c.work_and_watch-end.ensures.printed.watchers;
      pairs = c.unpair.ensures.pairs;
    }

pub returns-clause-watched : goal.returns-clause-watched
returns-clause-watched g c =
    let p = c.work_and_watch-end.ensures.printed in
    let fits = c.requires.fits.watchers in
    let old = c.args.beside.now.watch.watchers.items in
    let new = c.work_and_watch-end.new.watch.watchers.items in record {
      watchers = sym (length-map new board_watched) ∙ ap length p.watchers ∙ length-map old board_watched ∙ fits;
      paused = p.paused;
      printed = subst
          (λ rows. LinesTell (length c.args.plan.jobs.now) (length c.args.workers.now.items) c.args.beside.now.watch.lines rows (known new)
          (g.E.Sink.shows c.args.err.now) (g.E.Sink.shows c.work_and_watch-end.new.err) c.work_and_watch-end.result) c.requires.fits.unread
          (subst
          (λ (k : ℕ). LinesTell (length c.args.plan.jobs.now) k c.args.beside.now.watch.lines (known old) (known new)
          (g.E.Sink.shows c.args.err.now) (g.E.Sink.shows c.work_and_watch-end.new.err) c.work_and_watch-end.result) fits p.printed);
    }

pub returns-clause-marked : goal.returns-clause-marked
returns-clause-marked g c number d w below =
    let pair : Marked g.row.D.Denot g.row.S.Denot g.row.K.Denot g.row.C.Denot = record { worker = w; marker = d } in
    let old = c.pair.new.pairs.items in
    let new = c.work_and_watch-end.new.pairs.items in
    let many : length old ≡ length c.args.workers.now.items = sym (length-map old worker_of) ∙ ap length c.pair.ensures.workers.1 in
    let was : get_or c.args.beside.now.markers.items number d ≡ marker_of (get_or old number pair) =
    ap (λ (ms : List Marker). get_or ms number d) (sym c.pair.ensures.markers.1) ∙ get-of-map marker_of old number pair in
    let is : get_or c.unpair.new.markers.items number d ≡ marker_of (get_or new number pair) =
    ap (λ (ms : List Marker). get_or ms number d) c.unpair.ensures.markers ∙ get-of-map marker_of new number pair in
    let left : get_or c.unpair.new.workers.items number w ≡ worker_of (get_or new number pair) =
    ap (λ ws. get_or ws number w) c.unpair.ensures.workers ∙ get-of-map worker_of new number pair in
    let marked = c.work_and_watch-end.ensures.marked number pair (omega (arith, many, below)) in
    subst (λ (m : Marker). HasMarkedOff m (get_or c.unpair.new.markers.items number d)
    (reports_on (reserve_of (get_or c.unpair.new.workers.items number w)))) (sym was)
    (subst (λ (m : Marker). HasMarkedOff (marker_of (get_or old number pair)) m
    (reports_on (reserve_of (get_or c.unpair.new.workers.items number w)))) (sym is)
    (subst (λ worker. HasMarkedOff (marker_of (get_or old number pair)) (marker_of (get_or new number pair))
    (reports_on (reserve_of worker))) (sym left) marked))
