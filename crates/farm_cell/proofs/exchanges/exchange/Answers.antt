use Rattle.std.proofs.Common.{refl, ◌∙◌}
use Rattle.crossbeam_utils.specs.Seq.{cell_view}
use Rattle.farm_cell.proofs.Told.{can-call, looked-limits, looked-single, looked-may, looked-again, added}
use Rattle.farm_cell.proofs.exchanges.exchange.Goals as goal

pub stepped-next-requires-clause-can : goal.stepped-next-requires-clause-can
stepped-next-requires-clause-can g c =
    can-call {h = 16} c.args.limits.now (cell_view c.args.seat.now) c.loop.met (cell_view c.loop.seat) c.args.call c.requires.limits
    c.requires.valid c.requires.single c.requires.may c.loop.invariant.seen

pub ask-requires : goal.ask-requires
ask-requires g c =
    let v = cell_view c.args.seat.now in
    let w = cell_view c.loop.seat in
    let seen = c.loop.invariant.seen in record {
      cell = c.loop.invariant.cell.0 ∙ c.requires.cell;
      call = refl {a = c.args.call};
      current = refl {a = c.loop.met};
      limits = looked-limits {h = 16} c.args.limits.now v c.loop.met w c.requires.limits seen;
      single = looked-single {h = 16} v c.loop.met w c.requires.single seen;
      may = looked-may {h = 16} c.args.limits.now v c.loop.met w c.args.call c.requires.may seen;
      new = c.stepped-next.ensures;
    }

pub loop-preserved : goal.loop-preserved
loop-preserved g c =
    let e = c.in-Err.ensures in
    let i = c.loop.invariant in record {
      cell = (e.cell.0 ∙ i.cell.0, e.cell.1 ∙ i.cell.1);
      seen = looked-again {h = 16} (cell_view c.args.seat.now) c.loop.met (cell_view c.loop.seat) c.in-Err.now
          (cell_view c.ask.new.seat) i.seen e.err;
    }

pub returns-in-Ok-clause-added : goal.returns-in-Ok-clause-added
returns-in-Ok-clause-added g c =
    added {h = 16} c.args.limits.now (cell_view c.args.seat.now) c.loop.met (cell_view c.loop.seat) c.args.call c.loop.met
    (cell_view c.ask.new.seat) c.requires.limits c.requires.single c.loop.invariant.seen c.in-Ok.ensures.ok

pub returns-in-Ok-clause-can : goal.returns-in-Ok-clause-can
returns-in-Ok-clause-can g c =
    can-call {h = 16} c.args.limits.now (cell_view c.args.seat.now) c.loop.met (cell_view c.loop.seat) c.args.call c.requires.limits
    c.requires.valid c.requires.single c.requires.may c.loop.invariant.seen
