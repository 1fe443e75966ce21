use Rattle.std.proofs.Common.{◌≡◌, ℕ, List, [], ◌∷◌, ◌++◌, length, refl, sym, ap, ◌∙◌, subst, arith}
use Rattle.std.proofs.lemmas.Result.{err_from_is_err_and}
use Rattle.edge_traits.specs.Told.{Grew}
use Rattle.edge_traits.specs.declared.kit.Kit.{Kit}
use Rattle.job_run.proofs.Leaves.{same_peers, same_programs}
use Rattle.farm_cell.specs.Passes.{seen_of}
use Rattle.farm_machine.specs.Devices.{devices}
use Rattle.farm_machine.specs.Usable.{job_at}
use Rattle.farm_monitor.specs.declared.ends.Watcher.{Watcher}
use Rattle.progress_lines.specs.Counts.{known, ReadOn}
use Rattle.job_driver.specs.declared.marker.Marker.{Marker}
use Rattle.job_driver.specs.Watching.{AfterLines, AreMarked}
use Rattle.job_driver.proofs.Watching.{watched-ran, last-printed, rows-told, tell-to}
use Rattle.job_driver.proofs.watched.build_watched.Goals as goal

pub push_reserved-requires : goal.push_reserved-requires
push_reserved-requires g c =
    let was = c.args.kits.now.ok in
    let popped = c.pop.new.self.ok in
    let back = c.build_beside-done.new.kits.ok in
    let one = c.in-Some.ensures.cases in
    let room = c.pop.ensures.capacity in
    let len = c.build_beside-done.ensures.len in
    let kept = c.build_beside-done.ensures.kept in
    omega (arith, was, popped, back, one, room, len, kept)

pub returns-clause-built : goal.returns-clause-built
returns-clause-built g c =
    let d = devices g.D.Dialer.shows g.S.Station.shows g.K.Keeper.shows g.C.Clock.shows g.D.Dialer.may_give g.S.Station.ran in
    let built = c.in_ok-built.built in
    let lender = c.in-Some.lender in
    let back : Kit g.row.D.Denot g.row.S.Denot g.row.K.Denot g.row.C.Denot = record {
      dialer = lender.dialer;
      station = lender.station;
      keeper = lender.keeper;
      clock = c.into_parts-markers.result.2;
    } in
    record {
      ran = watched-ran d built.last.limits (job_at c.args.jobs.now c.args.config.now) c.args.config.now.period c.args.workers built.reports
          (seen_of built.pass) built.last.state c.pop.new.self.items c.build_beside-done.new.kits.items lender back
          c.args.kits.now.items c.push_reserved.new.self.items c.in_ok-built.ensures.built.ran
          (record {
            dialer = refl;
            station = refl;
            keeper = refl;
            clock = subst (λ (clock : g.row.C.Denot). Grew (g.C.Clock.shows lender.clock).moments (g.C.Clock.shows clock).moments [])
                (sym c.into_parts-markers.ensures.clock) c.in_ok-built.ensures.watched.paused;
            peers = same_peers _;
            programs = same_programs _;
          })
          c.in-Some.ensures.items c.push_reserved.ensures.items;
      slots = c.in_ok-built.ensures.built.slots;
    }

pub returns-clause-printed : goal.returns-clause-printed
returns-clause-printed g c =
    let shows = g.E.Sink.shows in
    let after = c.print_after-printed in
    let followed =
    subst (λ (n : ℕ). AfterLines n c.in_ok-built.end after.result.1 (shows c.build_beside-done.new.err)
    (shows after.new.err) after.result.0)
    c.len.ensures after.ensures.printed in
    let rows = known c.close_boards-told.new.watchers in
    let parts = c.into_parts-markers.ensures in
    let many : length c.into_parts-markers.result.0.items ≡ c.args.workers =
    ap (λ ms. length ms.items) parts.markers ∙ c.build_beside-done.ensures.markers in
    let marked = subst (λ (ms : List Marker). AreMarked c.in_ok-built.built.reports ms)
    (sym (ap (λ ms. ms.items) parts.markers)) c.in_ok-built.ensures.marked in
    let more = subst (λ (ws : List Watcher). ReadOn (known ws) rows)
    (c.as_mut_slice.ensures.value ∙ ap (λ ws. ws.items) parts.watchers) c.close_boards-told.ensures.read in
    record {
      rows = rows;
      of_reports = λ yes. rows-told c.args.workers c.in_ok-built.built.reports _ c.close_boards-told.new.watchers many marked
          (c.close_boards-told.ensures.told (after.ensures.told yes));
      printed = last-printed (length c.args.jobs.now) c.args.workers c.args.lines rows after.result.1 (shows c.args.err.now)
          (shows c.build_beside-done.new.err)
          (shows after.new.err) c.in_ok-built.end after.result.0
          (tell-to _ _ _ _ _ rows _ _ _ c.in_ok-built.ensures.watched.printed more) followed;
    }

pub returns-in_err-built-clause-undone : goal.returns-in_err-built-clause-undone
returns-in_err-built-clause-undone g c =
    let u = c.in_err-built.ensures.undone in
    let lender = c.in-Some.lender in
    let kit : g.row.C.Denot → Kit g.row.D.Denot g.row.S.Denot g.row.K.Denot g.row.C.Denot =
    λ clock. record { dialer = lender.dialer; station = lender.station; keeper = lender.keeper; clock = clock } in
    let clock : c.into_parts-markers.result.2 ≡ lender.clock = c.into_parts-markers.ensures.clock ∙ ap (λ beside. beside.watch.clock) u.1 in
    let kits : c.push_reserved.new.self.items ≡ c.args.kits.now.items =
    c.push_reserved.ensures.items ∙ ap (λ ks. ks ++ kit c.into_parts-markers.result.2 ∷ []) u.0
    ∙ ap (λ clock. c.pop.new.self.items ++ kit clock ∷ []) clock ∙ sym c.in-Some.ensures.items in
    let fault = err_from_is_err_and c.from_residual-in_err-built.result c.from_residual-in_err-built.ensures.1 in
    rw fault.1 (kits, u.2)
