use Rattle.std.proofs.Common.{◌≡◌, ℕ, ◌<◌, length, refl, sym, ap, ◌∙◌, subst, arith, rules}
use Rattle.std.specs.Prelude.{All}
use Rattle.std.proofs.lemmas.Grind.{common_steps}
use Rattle.farm_machine.specs.Jobs.{AreLimitsOf}
use Rattle.job_run.proofs.Leaves.{same_peers, same_programs}
use Rattle.job_driver.proofs.Working.{numbers_of, AreFew}
use Rattle.job_driver.proofs.Drawing.{few-more, within-more, few-none, within-none}
use Rattle.job_driver.proofs.Stepping.{works-none, works-more, small-places, counted-none, counted-more, drawn-back, report-later}
use Rattle.job_driver.proofs.Stepping.{relation-then, relation3-then, job-found, word-found, drawn-as, spare-enough, spare-more}
use Rattle.job_driver.proofs.Marking.{marked-none, marked-more}
use Rattle.job_driver.proofs.worker.work.Goals as goal

pub working-init : goal.working-init
working-init g c = record {
  works = works-none c.requires.begins.room.none c.requires.begins.blank;
  few = few-none _ c.requires.begins.room.none;
  within = within-none _ _ c.requires.begins.room.none;
  counted = counted-none _;
  rooms = let r = c.requires.begins.room.rooms in omega arith;
  room = c.requires.begins.room.room;
  spare = λ alone. let s = c.requires.begins.spare alone in omega (arith, s);
  pending = c.requires.begins.pending;
  back = search rules;
  ready = c.requires.begins.ready;
  follows = g.met.G.Grants.follows_itself _;
  marked = marked-none g.M.Marks.board g.M.Marks.all g.M.Marks.rows _ _ c.requires.begins.room.none;
  peers = same_peers _;
  programs = same_programs _;
}

pub returns-in_default-clause-finished : goal.returns-in_default-clause-finished
returns-in_default-clause-finished g c =
    let i = c.working.invariant in record {
      ready = c.draw.ensures.ready;
      follows = g.met.G.Grants.follows_on _ _ _ i.follows c.draw.ensures.follows;
      back = drawn-back _ c.draw.result _ _ c.draw.ensures.mine i.back;
      pending = i.pending;
    }

pub unreachable-requires : goal.unreachable-requires
unreachable-requires g c =
    let i = c.working.invariant in
    let few = i.few c.in-Some-draw.job (report-later c.in-Some-draw.job i.works c.in-Some-draw.ensures.later) in
    let below : c.in-Some-draw.job < length c.args.plan.jobs.now = subst (λ (k : ℕ). c.in-Some-draw.job < k)
    (ap (λ l. l.jobs) (g.met.G.Grants.limits_stay _ _ i.follows) ∙ c.requires.slots.number) c.in-Some-draw.ensures.job in
    let rooms = i.rooms in
    let none : length c.working.reserve.rooms.items ≡ 0 = grind (arith, common_steps, c.in_default-pop.ensures.items) in
    omega (arith, few, below, rooms, none)

pub run_job-report-requires-clause-job : goal.run_job-report-requires-clause-job
run_job-report-requires-clause-job g c =
    let i = c.working.invariant in
    let drawn = g.met.G.Grants.follows_on _ _ _ i.follows c.in-Some-draw.ensures.follows in
    let below : c.in-Some-draw.job < length c.args.plan.jobs.now =
    subst (λ (k : ℕ). c.in-Some-draw.job < k) (ap (λ l. l.jobs) (g.met.G.Grants.limits_stay _ _ i.follows) ∙ c.requires.slots.number)
    c.in-Some-draw.ensures.job in
    let u = c.args.plan.usable in
    record {
      word = word-found c.in-Some-draw.job c.as_slice.ensures c.index-as_slice-job.is below c.args.plan.doable.words;
      askable = record { entries = u.hosts.few; some = u.some; tries = u.tries };
      hosts = subst (λ l. AreLimitsOf l c.args.plan.config.now.hosts) (sym (g.met.G.Grants.limits_stay _ _ drawn)) c.requires.slots.hosts;
    }

pub run_job-report-requires-clause-begins : goal.run_job-report-requires-clause-begins
run_job-report-requires-clause-begins g c =
    let i = c.working.invariant in
    let few = i.few c.in-Some-draw.job (report-later c.in-Some-draw.job i.works c.in-Some-draw.ensures.later) in
    let below : c.in-Some-draw.job < length c.args.plan.jobs.now =
    subst (λ (k : ℕ). c.in-Some-draw.job < k) (ap (λ l. l.jobs) (g.met.G.Grants.limits_stay _ _ i.follows) ∙ c.requires.slots.number)
    c.in-Some-draw.ensures.job in
    record {
      ready = c.in-Some-draw.ensures.ready;
      spare = spare-enough _ (length c.args.plan.jobs.now) (length c.working.reserve.reports.items) _ _ (omega (arith, few, below)) i.spare
          c.in-Some-draw.ensures.spare;
      none = drawn-back _ c.draw.result _ _ c.draw.ensures.mine i.back;
      places = small-places _ c.working.reserve.reports.items (let most = c.args.plan.doable.most in omega (arith, few, below, most))
          i.counted;
      pending = i.pending;
    }

pub working-preserved : goal.working-preserved
working-preserved g c =
    let i = c.working.invariant in
    let w = c.run_job-report.ensures in
    let job = c.in-Some-draw.job in
    let d = c.in-Some-draw.ensures in
    let drawn = g.met.G.Grants.follows_on _ _ _ i.follows d.follows in
    let later = report-later job i.works d.later in
    let below : job < length c.args.plan.jobs.now = subst (λ (k : ℕ). job < k)
    (ap (λ l. l.jobs) (g.met.G.Grants.limits_stay _ _ i.follows) ∙ c.requires.slots.number) d.job in
    record {
      works = works-more c.run_job-report.result (g.met.G.Grants.limits_stay _ _ drawn) (g.met.G.Grants.caller_stays _ _ drawn)
          (job-found job c.args.plan.config.now c.as_slice.ensures c.index-as_slice-job.is below) refl
          (relation-then i.peers w.peers) (relation3-then i.programs w.programs)
          (drawn-as _ (g.met.G.Grants.caller_stays _ _ i.follows) c.in-Some-draw.is c.draw.ensures.mine) c.push_reserved.ensures.items
          w.number w.worker i.works w.ran;
      few = subst AreFew (sym c.push_reserved.ensures.items) (few-more _ _ job w.number i.few later);
      within = subst (λ rs. All (λ number. number < length c.args.plan.jobs.now) (numbers_of rs)) (sym c.push_reserved.ensures.items)
          (within-more _ _ _ job w.number below i.within);
      counted = counted-more c.run_job-report.result c.push_reserved.ensures.items c.args.plan.usable.some c.args.plan.usable.tries i.counted w.ran;
      rooms = grind (arith, common_steps, c.in-Some-pop.ensures.items, c.push_reserved.ensures.items, i.rooms);
      room = let r = i.room in let k = c.push_reserved.ensures.capacity in omega (arith, r, k);
      spare = spare-more _ (length c.args.plan.jobs.now) (length c.working.reserve.reports.items) _ _ _ _
          (grind (arith, common_steps, c.push_reserved.ensures.items)) i.spare d.spare w.returned.spare;
      pending = w.returned.pending;
      back = w.returned.none;
      ready = w.returned.ready;
      follows = g.met.G.Grants.follows_on _ _ _ drawn w.returned.follows;
      marked = marked-more g.M.Marks.board g.M.Marks.all g.M.Marks.rows c.args.marks.now c.working.marks c.begin.new.self c.end.new.self
          c.working.reserve.reports.items c.push_reserved.new.self.items c.run_job-report.result job i.marked
          c.begin.ensures.board c.begin.ensures.added c.end.ensures.board c.end.ensures.added c.push_reserved.ensures.items w.number;
      peers = relation-then i.peers w.peers;
      programs = relation3-then i.programs w.programs;
    }

pub push_reserved-requires : goal.push_reserved-requires
push_reserved-requires g c =
    let i = c.working.invariant in
    let few = i.few c.in-Some-draw.job (report-later c.in-Some-draw.job i.works c.in-Some-draw.ensures.later) in
    let below : c.in-Some-draw.job < length c.args.plan.jobs.now = subst (λ (k : ℕ). c.in-Some-draw.job < k)
    (ap (λ l. l.jobs) (g.met.G.Grants.limits_stay _ _ i.follows) ∙ c.requires.slots.number) c.in-Some-draw.ensures.job in
    let room = i.room in
    let k = c.working.reserve.reports.ok in
    omega (arith, few, below, room, k)
